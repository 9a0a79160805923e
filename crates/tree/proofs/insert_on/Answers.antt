-- `tree::insert_on`: the graft at the end of the way, and up again (Starting). Assumes nothing.
use native.Mathlib.Omega.{arith}
use Rattle.node.proofs.Reps.{within}
use Rattle.rising.specs.Changes.{adding}
use Rattle.tree.proofs.Starting.{grafting, adding_start}
use Rattle.tree.proofs.insert_on.Goals as goal

pub offset_bounds-way-depth : goal.offset_bounds-way-depth
offset_bounds-way-depth c = omega (arith, c.requires.1.short)

pub bounds-way-depth : goal.bounds-way-depth
bounds-way-depth c = c.requires.1.long

pub overflow_cast-way : goal.overflow_cast-way
overflow_cast-way c = omega (arith, within (grafting _ _ _ _ _ c.requires.1 _ _ c.requires.2).able.ready.1.stands)

pub graft-requires : goal.graft-requires
graft-requires c = grafting _ _ _ _ _ c.requires.1 _ _ c.requires.2

pub rise-requires : goal.rise-requires
rise-requires c = (_, _, _, _, tt, adding_start _ _ _ _ _ c.requires.1 _ _ c.requires.2 _ c.graft.ensures)

pub returns : goal.returns
returns c = λ t w i. c.rise.ensures (adding c.args.key c.args.end c.args.q) _ _ _ tt (adding_start _ _ _ _ _ w _ _ i _ c.graft.ensures)
