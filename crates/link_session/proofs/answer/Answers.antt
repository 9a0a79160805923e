-- `link_session::answer`: a whole link stays whole. Assumes nothing.
use Rattle.rule.specs.Answer.{answer_of}
use Rattle.link_session.proofs.Kept.{booked_whole, swept_whole}
use Rattle.link_session.proofs.answer.Goals as goal

pub returns-in-Book : goal.returns-in-Book
returns-in-Book c = booked_whole _ _ _ (answer_of c.book.result) c.args.mem.now c.book.new.mem c.requires.whole c.book.ensures.books

pub returns-in-Sweep : goal.returns-in-Sweep
returns-in-Sweep c = swept_whole c.in-Sweep.moment (answer_of c.sweep.result) c.args.mem.now c.sweep.new.mem (rw c.in-Sweep.is at c.requires.in_bounds) c.requires.whole c.sweep.ensures.sweeps
