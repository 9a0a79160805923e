-- `joining::hang`: here, or one step down and a balance (Hanging). Assumes nothing.
use mathlib.Core.Path.{refl, ◌∙◌}
use native.Mathlib.Omega.{arith}
use Rattle.summing.proofs.Sums.{read_at}
use Rattle.turning.proofs.Sides.{both_within, both_small, copied_at}
use Rattle.turning.proofs.Balancing.{mendable_both}
use Rattle.joining.proofs.Hanging.{low_side, hang_here, within_inner, hang_down, hung_both, hang_on, both_at, hangs_at}
use Rattle.joining.proofs.+hang.Goals as goal

pub near-high-requires : goal.near-high-requires
near-high-requires t c = both_small _ _ _ c.requires

pub load-n-requires : goal.load-n-requires
load-n-requires t c = rw c.near-high.ensures (both_within _ c.args.left _ _ c.requires).0

pub far-requires : goal.far-requires
far-requires t c = both_small _ _ _ c.requires

pub load-requires : goal.load-requires
load-requires t c = rw c.far.ensures (both_within _ c.args.left _ _ c.requires).1

pub overflow_add-load : goal.overflow_add-load
overflow_add-load t c = omega (arith, low_side _ c.args.left _ _ _ _ (read_at _ c.near-high.ensures c.load-n.ensures) (read_at _ c.far.ensures c.load.ensures) c.requires)

pub mend-requires : goal.mend-requires
mend-requires t c = mendable_both _ _ _ c.requires

pub shape_of-mem-then-n-load : goal.shape_of-mem-then-n-load
shape_of-mem-then-n-load t c = c.mend.auto.mem

pub returns-then-n-load : goal.returns-then-n-load
returns-then-n-load t c = hang_here _ c.args.left _ _ _ _ (read_at _ c.near-high.ensures c.load-n.ensures) (read_at _ c.far.ensures c.load.ensures) _ c.if-n-load.true c.mend.ensures

pub far-inner-requires : goal.far-inner-requires
far-inner-requires t c = omega (arith, (within_inner _ c.args.left _ _ _ _ (read_at _ c.near-high.ensures c.load-n.ensures) (read_at _ c.far.ensures c.load.ensures) c.if-n-load.false c.requires).1)

pub copy-requires : goal.copy-requires
copy-requires t c = record { within = rw c.far-inner.ensures (within_inner _ c.args.left _ _ _ _ (read_at _ c.near-high.ensures c.load-n.ensures) (read_at _ c.far.ensures c.load.ensures) c.if-n-load.false c.requires).0; within_2 = rw c.near-high.ensures (both_within _ c.args.left _ _ c.requires).0 }

pub hang-requires : goal.hang-requires
hang-requires t c = let d = hang_down _ c.args.left _ _ _ _ (read_at _ c.near-high.ensures c.load-n.ensures) (read_at _ c.far.ensures c.load.ensures) c.if-n-load.false _ (copied_at _ _ c.far-inner.ensures c.near-high.ensures c.copy.ensures) c.requires in (omega (arith, d.1), both_at _ c.far-inner.ensures d.0)

pub balance-requires : goal.balance-requires
balance-requires t c = hung_both _ c.args.left _ _ _ _ (read_at _ c.near-high.ensures c.load-n.ensures) (read_at _ c.far.ensures c.load.ensures) c.if-n-load.false _ (copied_at _ _ c.far-inner.ensures c.near-high.ensures c.copy.ensures) _ (hangs_at _ _ c.args.left c.far-inner.ensures refl c.hang.ensures) c.requires

pub shape_of-mem : goal.shape_of-mem
shape_of-mem t c = c.balance.auto.mem ∙ (c.hang.auto.mem ∙ c.copy.auto.mem)

pub returns : goal.returns
returns t c = hang_on _ c.args.left _ _ _ _ (read_at _ c.near-high.ensures c.load-n.ensures) (read_at _ c.far.ensures c.load.ensures) c.if-n-load.false _ (copied_at _ _ c.far-inner.ensures c.near-high.ensures c.copy.ensures) _ (hangs_at _ _ c.args.left c.far-inner.ensures refl c.hang.ensures) _ c.balance.ensures
