-- `link_session::play`: the link stays whole, and each line takes at most 128 bytes. Assumes nothing.
use native.Mathlib.Omega.{arith}
use Rattle.lines.proofs.Writing.{writes_more}
use Rattle.link_session.proofs.play.Goals as goal

pub loop-i-preserved : goal.loop-i-preserved
loop-i-preserved g c = (c.answer-answer.ensures, writes_more _ _ _ _ 128 _ (omega arith) c.loop-i.invariant.1 c.in_ok-write.ensures.short)
