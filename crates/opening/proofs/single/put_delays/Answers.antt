-- `opening::single::put_delays`: after i rounds the first i delays stand in their words. Assumes nothing.
use native.Mathlib.Omega.{arith}
use Rattle.opening.proofs.Beginning.{tail_step}
use Rattle.opening.proofs.single.put_delays.Goals as goal

pub loop-i-preserved : goal.loop-i-preserved
loop-i-preserved c = tail_step _ _ _ _ _ _ c.requires c.loop-i-test.true (omega arith) c.delay.ensures c.loop-i.invariant c.put.ensures
