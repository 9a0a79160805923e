-- `memory::add_on`: a law of Adding at each program point. Assumes nothing.
use native.Mathlib.Omega.{arith}
use Rattle.numbers.proofs.Slices.{whole}
use Rattle.memory.proofs.Adding.{roomy_led, spare_in, insertable, still_leads, kept_low, added}
use Rattle.memory.proofs.add_on.Goals as goal

pub take_spare-q-requires : goal.take_spare-q-requires
take_spare-q-requires c = spare_in _ c.requires.0 c.requires.1 (roomy_led _ _ _ _ c.requires)

pub slice_bounds-insert_on-count : goal.slice_bounds-insert_on-count
slice_bounds-insert_on-count c = omega arith

pub slice_bounds-insert_on-start : goal.slice_bounds-insert_on-start
slice_bounds-insert_on-start c = omega arith

pub slice_bounds-insert_on-end : goal.slice_bounds-insert_on-end
slice_bounds-insert_on-end c = omega arith

pub insert_on-requires : goal.insert_on-requires
insert_on-requires c = (_, still_leads _ c.requires.0 c.requires.1 (roomy_led _ _ _ _ c.requires) _ _ c.take_spare-q.ensures.0 c.take_spare-q.ensures.1 _ c.args.end _ _ (rw (whole _) c.requires.3), insertable _ c.requires.0 c.requires.1 (roomy_led _ _ _ _ c.requires) _ _ c.take_spare-q.ensures.0 c.take_spare-q.ensures.1 _ _)

pub overflow_add-kept : goal.overflow_add-kept
overflow_add-kept c = omega (arith, kept_low _ c.requires.0 c.requires.1 (roomy_led _ _ _ _ c.requires) _ _ c.take_spare-q.ensures.0 c.take_spare-q.ensures.1 _ _ _ (c.insert_on.ensures _ (still_leads _ c.requires.0 c.requires.1 (roomy_led _ _ _ _ c.requires) _ _ c.take_spare-q.ensures.0 c.take_spare-q.ensures.1 _ c.args.end _ _ (rw (whole _) c.requires.3)) (insertable _ c.requires.0 c.requires.1 (roomy_led _ _ _ _ c.requires) _ _ c.take_spare-q.ensures.0 c.take_spare-q.ensures.1 _ _)) _ c.get-kept.ensures)

pub returns : goal.returns
returns c = λ s L. added _ s L (roomy_led _ _ _ _ c.requires) _ _ c.take_spare-q.ensures.0 c.take_spare-q.ensures.1 _ _ _ (c.insert_on.ensures _ (still_leads _ s L (roomy_led _ _ _ _ c.requires) _ _ c.take_spare-q.ensures.0 c.take_spare-q.ensures.1 _ c.args.end _ _ (rw (whole _) c.requires.3)) (insertable _ s L (roomy_led _ _ _ _ c.requires) _ _ c.take_spare-q.ensures.0 c.take_spare-q.ensures.1 _ _)) _ c.get-kept.ensures _ c.put.ensures
