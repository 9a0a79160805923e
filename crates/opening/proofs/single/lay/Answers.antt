-- `opening::single::lay`: after k rounds the last k places are spare. Assumes nothing.
use native.Mathlib.Omega.{arith}
use Rattle.opening.proofs.Beginning.{laid_step, laid_low, laid_end}
use Rattle.opening.proofs.single.lay.Goals as goal

pub loop-k-preserved : goal.loop-k-preserved
loop-k-preserved c = (laid_low _ _ _ _ (omega (arith, c.requires)) (omega (arith, c.requires)) c.give_spare.ensures, laid_step _ _ _ _ _ c.loop-k-test.true c.loop-k.invariant.1 c.give_spare.ensures)

pub returns : goal.returns
returns c = laid_end _ _ _ _ (omega arith) (omega arith) c.loop-k.invariant.1
