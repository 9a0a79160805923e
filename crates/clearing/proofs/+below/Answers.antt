-- `clearing::below`: what is left of the tree, by what is left of its sides. Assumes nothing.
use mathlib.Core.Path.{refl, ◌∙◌}
use native.Mathlib.Omega.{arith}
use Rattle.clearing.proofs.Descending.{here, stayed, leaf_went, place_low, down_left, down_right, many_low, seats_in, give_ask, left_went, right_went, join_ask, joined_up}
use Rattle.clearing.proofs.+below.Goals as goal

pub load-n-requires : goal.load-n-requires
load-n-requires t c = here c.args.bound _ _ _ c.requires

pub shape_of-mem-then-bound-n : goal.shape_of-mem-then-bound-n
shape_of-mem-then-bound-n t c = refl

pub returns-then-bound-n : goal.returns-then-bound-n
returns-then-bound-n t c = stayed c.args.bound _ _ _ _ c.load-n.ensures c.if-bound-n.true

pub shape_of-mem-then-n-eq0 : goal.shape_of-mem-then-n-eq0
shape_of-mem-then-n-eq0 t c = refl

pub returns-then-n-eq0 : goal.returns-then-n-eq0
returns-then-n-eq0 t c = leaf_went c.args.bound _ _ _ _ c.load-n.ensures c.if-bound-n.false c.if-n-eq0.true

pub near-left-requires : goal.near-left-requires
near-left-requires t c = place_low c.args.bound _ _ _ _ c.load-n.ensures c.requires

pub far-right-requires : goal.far-right-requires
far-right-requires t c = place_low c.args.bound _ _ _ _ c.load-n.ensures c.requires

pub below-left_gone-requires : goal.below-left_gone-requires
below-left_gone-requires t c = let g = down_left c.args.bound _ _ _ _ c.load-n.ensures c.if-n-eq0.false _ _ c.near-left.ensures c.far-right.ensures c.requires in (omega (arith, g.1), g.0)

pub below-right_gone-requires : goal.below-right_gone-requires
below-right_gone-requires t c = let g = down_right c.args.bound _ _ _ _ c.load-n.ensures c.if-n-eq0.false _ _ c.near-left.ensures c.far-right.ensures _ _ c.below-left_gone.ensures c.requires in (omega (arith, g.1), g.0)

pub copy-requires : goal.copy-requires
copy-requires t c = let w = seats_in c.args.bound _ _ _ _ c.load-n.ensures c.if-n-eq0.false _ _ c.near-left.ensures c.far-right.ensures _ _ c.below-left_gone.ensures _ _ c.below-right_gone.ensures c.requires in record { within = w.2; within_2 = w.0 }

pub give_spare-requires : goal.give_spare-requires
give_spare-requires t c = give_ask c.args.bound _ _ _ _ c.load-n.ensures c.if-n-eq0.false _ _ c.near-left.ensures c.far-right.ensures _ _ c.below-left_gone.ensures _ _ c.below-right_gone.ensures c.if-bound-n.false _ _ c.copy.ensures c.requires

pub overflow_add-spare : goal.overflow_add-spare
overflow_add-spare t c = omega (arith, many_low c.args.bound _ _ _ _ c.load-n.ensures c.if-n-eq0.false _ _ c.near-left.ensures c.far-right.ensures _ _ c.below-left_gone.ensures _ _ c.below-right_gone.ensures c.requires)

pub shape_of-mem-then-left_gone : goal.shape_of-mem-then-left_gone
shape_of-mem-then-left_gone t c = c.give_spare.auto.mem ∙ (c.copy.auto.mem ∙ (c.below-right_gone.auto.mem ∙ c.below-left_gone.auto.mem))

pub returns-then-left_gone : goal.returns-then-left_gone
returns-then-left_gone t c = left_went c.args.bound _ _ _ _ c.load-n.ensures c.if-n-eq0.false _ _ c.near-left.ensures c.far-right.ensures _ _ c.below-left_gone.ensures _ _ c.below-right_gone.ensures c.if-bound-n.false c.if-left_gone.true _ c.copy.ensures _ c.give_spare.ensures

pub copy-requires-then-right_gone : goal.copy-requires-then-right_gone
copy-requires-then-right_gone t c = let w = seats_in c.args.bound _ _ _ _ c.load-n.ensures c.if-n-eq0.false _ _ c.near-left.ensures c.far-right.ensures _ _ c.below-left_gone.ensures _ _ c.below-right_gone.ensures c.requires in record { within = w.1; within_2 = w.0 }

pub give_spare-requires-then-right_gone : goal.give_spare-requires-then-right_gone
give_spare-requires-then-right_gone t c = give_ask c.args.bound _ _ _ _ c.load-n.ensures c.if-n-eq0.false _ _ c.near-left.ensures c.far-right.ensures _ _ c.below-left_gone.ensures _ _ c.below-right_gone.ensures c.if-bound-n.false _ _ c.copy-then-right_gone.ensures c.requires

pub overflow_add-spare-then-right_gone : goal.overflow_add-spare-then-right_gone
overflow_add-spare-then-right_gone t c = omega (arith, many_low c.args.bound _ _ _ _ c.load-n.ensures c.if-n-eq0.false _ _ c.near-left.ensures c.far-right.ensures _ _ c.below-left_gone.ensures _ _ c.below-right_gone.ensures c.requires)

pub shape_of-mem-then-right_gone : goal.shape_of-mem-then-right_gone
shape_of-mem-then-right_gone t c = c.give_spare-then-right_gone.auto.mem ∙ (c.copy-then-right_gone.auto.mem ∙ (c.below-right_gone.auto.mem ∙ c.below-left_gone.auto.mem))

pub returns-then-right_gone : goal.returns-then-right_gone
returns-then-right_gone t c = right_went c.args.bound _ _ _ _ c.load-n.ensures c.if-n-eq0.false _ _ c.near-left.ensures c.far-right.ensures _ _ c.below-left_gone.ensures _ _ c.below-right_gone.ensures c.if-bound-n.false c.if-left_gone.false c.if-right_gone.true _ c.copy-then-right_gone.ensures _ c.give_spare-then-right_gone.ensures

pub join-requires : goal.join-requires
join-requires t c = join_ask c.args.bound _ _ _ _ c.load-n.ensures c.if-n-eq0.false _ _ c.near-left.ensures c.far-right.ensures _ _ c.below-left_gone.ensures _ _ c.below-right_gone.ensures c.if-bound-n.false c.if-left_gone.false c.if-right_gone.false c.requires

pub shape_of-mem : goal.shape_of-mem
shape_of-mem t c = c.join.auto.mem ∙ (c.below-right_gone.auto.mem ∙ c.below-left_gone.auto.mem)

pub returns : goal.returns
returns t c = joined_up c.args.bound _ _ _ _ c.load-n.ensures c.if-n-eq0.false _ _ c.near-left.ensures c.far-right.ensures _ _ c.below-left_gone.ensures _ _ c.below-right_gone.ensures c.if-bound-n.false c.if-left_gone.false c.if-right_gone.false _ c.join.ensures
