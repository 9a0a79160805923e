-- `tree::graft`: the leaf moved, the new one beside it, the node over both (Starting). Assumes nothing.
use mathlib.Core.Path.{refl}
use native.Mathlib.Omega.{arith}
use Rattle.turning.proofs.Sides.{leaf_fits, saved_as, copied_at}
use Rattle.node.proofs.Reps.{within}
use Rattle.tree.proofs.Starting.{saved_there, graft_in, leaf_in, low_leaves, over_in, over_both, grafted}
use Rattle.tree.proofs.graft.Goals as goal

pub load-n-requires : goal.load-n-requires
load-n-requires c = within c.requires.able.ready.1.stands

pub overflow_mul-first : goal.overflow_mul-first
overflow_mul-first c = omega (arith, (graft_in _ _ _ _ _ c.requires _ c.load-n.ensures).2)

pub far-requires : goal.far-requires
far-requires c = (graft_in _ _ _ _ _ c.requires _ c.load-n.ensures).2

pub copy-requires : goal.copy-requires
copy-requires c = record { within = (graft_in _ _ _ _ _ c.requires _ c.load-n.ensures).0; within_2 = rw c.far.ensures (graft_in _ _ _ _ _ c.requires _ c.load-n.ensures).1 }

pub near-requires : goal.near-requires
near-requires c = (graft_in _ _ _ _ _ c.requires _ c.load-n.ensures).2

pub save-requires : goal.save-requires
save-requires c = record { within = rw c.near.ensures (leaf_in _ _ _ _ _ c.requires _ c.load-n.ensures _ (copied_at _ _ refl c.far.ensures c.copy.ensures)); fits = leaf_fits c.leaf-leaf.ensures }

pub over-requires : goal.over-requires
over-requires c = low_leaves _ _ _ _ _ c.requires _ c.load-n.ensures _ (copied_at _ _ refl c.far.ensures c.copy.ensures) _ (saved_there _ _ c.near.ensures (saved_as c.leaf-leaf.ensures c.save.ensures)) _ c.leaf-leaf.ensures

pub save-requires-2 : goal.save-requires-2
save-requires-2 c = let p = over_in _ _ _ _ _ c.requires _ c.load-n.ensures _ (copied_at _ _ refl c.far.ensures c.copy.ensures) _ (saved_there _ _ c.near.ensures (saved_as c.leaf-leaf.ensures c.save.ensures)) _ c.leaf-leaf.ensures _ c.over.ensures in record { within = p.0; fits = p.1 }

pub returns : goal.returns
returns c =
    let o1 = copied_at _ _ refl c.far.ensures c.copy.ensures in
    let o2 = saved_there _ _ c.near.ensures (saved_as c.leaf-leaf.ensures c.save.ensures) in
    grafted _ _ _ _ _ c.requires _ c.load-n.ensures _ o1 _ o2 _ (over_both _ _ _ _ _ c.requires _ c.load-n.ensures _ o1 _ o2 _ c.leaf-leaf.ensures _ c.over.ensures _ c.save-2.ensures)
