-- `tree::set_end_on`: down to the leaf, its end, up again (Starting). Assumes nothing.
use native.Mathlib.Omega.{arith}
use Rattle.rising.specs.Changes.{ending}
use Rattle.turning.proofs.Sides.{leaf_fits, saved_as}
use Rattle.tree.proofs.Starting.{end_in, ending_start}
use Rattle.tree.proofs.set_end_on.Goals as goal

pub offset_bounds-way-depth : goal.offset_bounds-way-depth
offset_bounds-way-depth c = omega (arith, (c.trace_on-depth.ensures _ c.requires.1).short)

pub bounds-way-depth : goal.bounds-way-depth
bounds-way-depth c = (c.trace_on-depth.ensures _ c.requires.1).long

pub overflow_cast-leaf : goal.overflow_cast-leaf
overflow_cast-leaf c = omega (arith, end_in _ _ _ _ _ (c.trace_on-depth.ensures _ c.requires.1) c.requires.1.alone)

pub load-n-requires : goal.load-n-requires
load-n-requires c = end_in _ _ _ _ _ (c.trace_on-depth.ensures _ c.requires.1) c.requires.1.alone

pub save-requires : goal.save-requires
save-requires c = record { within = end_in _ _ _ _ _ (c.trace_on-depth.ensures _ c.requires.1) c.requires.1.alone; fits = leaf_fits c.leaf.ensures }

pub settle-requires : goal.settle-requires
settle-requires c = (_, _, _, _, ending_start _ _ _ _ _ (c.trace_on-depth.ensures _ c.requires.1) c.requires.1.alone _ _ c.load-n.ensures _ (saved_as c.leaf.ensures c.save.ensures))

pub returns : goal.returns
returns c = λ t P. c.settle.ensures (ending c.args.key c.args.end) _ _ _ (ending_start _ _ _ _ _ (c.trace_on-depth.ensures t P) P.alone _ _ c.load-n.ensures _ (saved_as c.leaf.ensures c.save.ensures))
