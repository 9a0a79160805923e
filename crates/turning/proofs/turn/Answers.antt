-- `turning::turn`: the single turn and the double one, step by step (Turning). Assumes nothing.
use native.Mathlib.Omega.{arith}
use mathlib.Core.Path.{refl}
use Rattle.summing.proofs.Sums.{read_at}
use Rattle.turning.proofs.Sides.{both_within, both_small, copied_at, over_at, mendable_at}
use Rattle.turning.proofs.Turning.{within_below, mend_single_1, mend_single_2, turn_single, within_inner, within_second, mend_double_1, mend_double_2, mend_double_3, turn_double}
use Rattle.turning.proofs.turn.Goals as goal

pub near-high-requires : goal.near-high-requires
near-high-requires c = both_small _ _ _ c.requires.both

pub load-x-requires : goal.load-x-requires
load-x-requires c = rw c.near-high.ensures (both_within _ c.args.left _ _ c.requires.both).0

pub far-inner-requires : goal.far-inner-requires
far-inner-requires c = omega (arith, (within_below _ c.args.left _ _ _ (read_at _ c.near-high.ensures c.load-x.ensures) c.requires.w_bound c.requires.both).2)

pub load-i-requires : goal.load-i-requires
load-i-requires c = rw c.far-inner.ensures (within_below _ c.args.left _ _ _ (read_at _ c.near-high.ensures c.load-x.ensures) c.requires.w_bound c.requires.both).1

pub near-requires : goal.near-requires
near-requires c = omega (arith, (within_below _ c.args.left _ _ _ (read_at _ c.near-high.ensures c.load-x.ensures) c.requires.w_bound c.requires.both).2)

pub load-o-requires : goal.load-o-requires
load-o-requires c = rw c.near.ensures (within_below _ c.args.left _ _ _ (read_at _ c.near-high.ensures c.load-x.ensures) c.requires.w_bound c.requires.both).0

pub copy-requires : goal.copy-requires
copy-requires c = record { within = rw c.far-inner.ensures (within_below _ c.args.left _ _ _ (read_at _ c.near-high.ensures c.load-x.ensures) c.requires.w_bound c.requires.both).1; within_2 = rw c.near-high.ensures (both_within _ c.args.left _ _ c.requires.both).0 }

pub mend-requires : goal.mend-requires
mend-requires c = mendable_at _ c.far-inner.ensures refl (mend_single_1 _ c.args.left _ _ _ (read_at _ c.near-high.ensures c.load-x.ensures) c.requires.w_bound _ (copied_at _ _ c.far-inner.ensures c.near-high.ensures c.copy.ensures) c.requires.both)

pub mend-requires-then-i-o : goal.mend-requires-then-i-o
mend-requires-then-i-o c = mend_single_2 _ c.args.left _ _ _ (read_at _ c.near-high.ensures c.load-x.ensures) c.requires.w_bound _ _ (copied_at _ _ c.far-inner.ensures c.near-high.ensures c.copy.ensures) (over_at _ _ c.far-inner.ensures refl c.mend.ensures) c.requires.both

pub returns-then-i-o : goal.returns-then-i-o
returns-then-i-o c = turn_single _ c.args.left _ _ _ (read_at _ c.near-high.ensures c.load-x.ensures) c.requires.w_bound _ _ (read_at _ c.near.ensures c.load-o.ensures) (read_at _ c.far-inner.ensures c.load-i.ensures) _ _ _ c.if-i-o.true (copied_at _ _ c.far-inner.ensures c.near-high.ensures c.copy.ensures) (over_at _ _ c.far-inner.ensures refl c.mend.ensures) c.mend-then-i-o.ensures

pub near-first-requires : goal.near-first-requires
near-first-requires c = omega (arith, (within_inner _ c.args.left _ _ _ (read_at _ c.near-high.ensures c.load-x.ensures) c.requires.w_bound _ _ (read_at _ c.near.ensures c.load-o.ensures) (read_at _ c.far-inner.ensures c.load-i.ensures) c.if-i-o.false c.requires.both).2)

pub far-second-requires : goal.far-second-requires
far-second-requires c = omega (arith, (within_inner _ c.args.left _ _ _ (read_at _ c.near-high.ensures c.load-x.ensures) c.requires.w_bound _ _ (read_at _ c.near.ensures c.load-o.ensures) (read_at _ c.far-inner.ensures c.load-i.ensures) c.if-i-o.false c.requires.both).2)

pub copy-requires-2 : goal.copy-requires-2
copy-requires-2 c = record { within = rw c.near-first.ensures (within_inner _ c.args.left _ _ _ (read_at _ c.near-high.ensures c.load-x.ensures) c.requires.w_bound _ _ (read_at _ c.near.ensures c.load-o.ensures) (read_at _ c.far-inner.ensures c.load-i.ensures) c.if-i-o.false c.requires.both).0; within_2 = rw c.far-inner.ensures (within_below _ c.args.left _ _ _ (read_at _ c.near-high.ensures c.load-x.ensures) c.requires.w_bound c.requires.both).1 }

pub copy-requires-3 : goal.copy-requires-3
copy-requires-3 c = record { within = rw c.far-second.ensures (within_second _ c.args.left _ _ _ (read_at _ c.near-high.ensures c.load-x.ensures) c.requires.w_bound _ _ (read_at _ c.near.ensures c.load-o.ensures) (read_at _ c.far-inner.ensures c.load-i.ensures) c.if-i-o.false _ (copied_at _ _ c.near-first.ensures c.far-inner.ensures c.copy-2.ensures) c.requires.both).0; within_2 = rw c.near-high.ensures (within_second _ c.args.left _ _ _ (read_at _ c.near-high.ensures c.load-x.ensures) c.requires.w_bound _ _ (read_at _ c.near.ensures c.load-o.ensures) (read_at _ c.far-inner.ensures c.load-i.ensures) c.if-i-o.false _ (copied_at _ _ c.near-first.ensures c.far-inner.ensures c.copy-2.ensures) c.requires.both).1 }

pub mend-requires-2 : goal.mend-requires-2
mend-requires-2 c = mendable_at _ c.near-first.ensures refl (mend_double_1 _ c.args.left _ _ _ (read_at _ c.near-high.ensures c.load-x.ensures) c.requires.w_bound _ _ (read_at _ c.near.ensures c.load-o.ensures) (read_at _ c.far-inner.ensures c.load-i.ensures) c.if-i-o.false _ (copied_at _ _ c.near-first.ensures c.far-inner.ensures c.copy-2.ensures) _ (copied_at _ _ c.far-second.ensures c.near-high.ensures c.copy-3.ensures) c.requires.both)

pub mend-requires-3 : goal.mend-requires-3
mend-requires-3 c = mendable_at _ c.far-second.ensures refl (mend_double_2 _ c.args.left _ _ _ (read_at _ c.near-high.ensures c.load-x.ensures) c.requires.w_bound _ _ (read_at _ c.near.ensures c.load-o.ensures) (read_at _ c.far-inner.ensures c.load-i.ensures) c.if-i-o.false _ (copied_at _ _ c.near-first.ensures c.far-inner.ensures c.copy-2.ensures) _ (copied_at _ _ c.far-second.ensures c.near-high.ensures c.copy-3.ensures) _ (over_at _ _ c.near-first.ensures refl c.mend-2.ensures) c.requires.both)

pub mend-requires-4 : goal.mend-requires-4
mend-requires-4 c = mend_double_3 _ c.args.left _ _ _ (read_at _ c.near-high.ensures c.load-x.ensures) c.requires.w_bound _ _ (read_at _ c.near.ensures c.load-o.ensures) (read_at _ c.far-inner.ensures c.load-i.ensures) c.if-i-o.false _ (copied_at _ _ c.near-first.ensures c.far-inner.ensures c.copy-2.ensures) _ (copied_at _ _ c.far-second.ensures c.near-high.ensures c.copy-3.ensures) _ (over_at _ _ c.near-first.ensures refl c.mend-2.ensures) _ (over_at _ _ c.far-second.ensures refl c.mend-3.ensures) c.requires.both

pub returns : goal.returns
returns c = turn_double _ c.args.left _ _ _ (read_at _ c.near-high.ensures c.load-x.ensures) c.requires.w_bound _ _ (read_at _ c.near.ensures c.load-o.ensures) (read_at _ c.far-inner.ensures c.load-i.ensures) c.if-i-o.false _ (copied_at _ _ c.near-first.ensures c.far-inner.ensures c.copy-2.ensures) _ (copied_at _ _ c.far-second.ensures c.near-high.ensures c.copy-3.ensures) _ (over_at _ _ c.near-first.ensures refl c.mend-2.ensures) _ (over_at _ _ c.far-second.ensures refl c.mend-3.ensures) _ c.mend-4.ensures
