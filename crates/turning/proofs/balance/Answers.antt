-- `turning::balance`: by the heights read, a turn or the node as it is (Balancing). Assumes nothing.
use native.Mathlib.Omega.{arith}
use mathlib.Core.Bool.{true}
use Rattle.summing.proofs.Sums.{read_at}
use Rattle.turning.proofs.Sides.{both_within, both_small}
use Rattle.turning.proofs.Balancing.{mendable_both, low_both, steep_left, steep_right, balance_left, balance_right, balance_here}
use Rattle.turning.proofs.balance.Goals as goal

pub near-requires : goal.near-requires
near-requires c = both_small _ _ _ c.requires

pub load-l-requires : goal.load-l-requires
load-l-requires c = rw c.near.ensures (both_within _ true _ _ c.requires).0

pub far-requires : goal.far-requires
far-requires c = both_small _ _ _ c.requires

pub load-r-requires : goal.load-r-requires
load-r-requires c = rw c.far.ensures (both_within _ true _ _ c.requires).1

pub overflow_add-r : goal.overflow_add-r
overflow_add-r c = omega (arith, low_both _ _ _ _ _ (read_at _ c.near.ensures c.load-l.ensures) (read_at _ c.far.ensures c.load-r.ensures) c.requires)

pub turn-requires : goal.turn-requires
turn-requires c = record { w_bound = steep_left _ c.args.s _ _ _ (read_at _ c.near.ensures c.load-l.ensures) (read_at _ c.far.ensures c.load-r.ensures) c.if-r-l.true; both = c.requires }

pub returns-then-r-l : goal.returns-then-r-l
returns-then-r-l c = balance_left _ _ _ _ _ (read_at _ c.near.ensures c.load-l.ensures) (read_at _ c.far.ensures c.load-r.ensures) _ c.if-r-l.true c.turn.ensures

pub overflow_add-l : goal.overflow_add-l
overflow_add-l c = omega (arith, low_both _ _ _ _ _ (read_at _ c.near.ensures c.load-l.ensures) (read_at _ c.far.ensures c.load-r.ensures) c.requires)

pub turn-requires-then-l-r : goal.turn-requires-then-l-r
turn-requires-then-l-r c = record { w_bound = steep_right _ c.args.s _ _ _ (read_at _ c.near.ensures c.load-l.ensures) (read_at _ c.far.ensures c.load-r.ensures) c.if-l-r.true; both = c.requires }

pub returns-then-l-r : goal.returns-then-l-r
returns-then-l-r c = balance_right _ _ _ _ _ (read_at _ c.near.ensures c.load-l.ensures) (read_at _ c.far.ensures c.load-r.ensures) _ c.if-r-l.false c.if-l-r.true c.turn-then-l-r.ensures

pub mend-requires : goal.mend-requires
mend-requires c = mendable_both _ _ _ c.requires

pub returns : goal.returns
returns c = balance_here _ _ _ _ _ (read_at _ c.near.ensures c.load-l.ensures) (read_at _ c.far.ensures c.load-r.ensures) _ c.if-r-l.false c.if-l-r.false c.mend.ensures
