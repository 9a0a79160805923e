-- `rising::rise`: on the way up, what has risen so far (Settling). Assumes nothing.
use mathlib.Core.Path.{◌∙◌}
use native.Mathlib.Omega.{arith}
use Rattle.rising.proofs.Settling.{both_above, within_above, node_above, rises, rising_settling, risen}
use Rattle.rising.proofs.rise.Goals as goal

pub load-was-requires : goal.load-was-requires
load-was-requires c = within_above _ _ _ _ _ _ c.loop-i-test.true _ (c.loop-i.invariant.2 _ _ _ _ c.requires.4 c.requires.5)

pub balance-requires : goal.balance-requires
balance-requires c = both_above _ _ _ _ _ _ c.loop-i-test.true _ (c.loop-i.invariant.2 _ _ _ _ c.requires.4 c.requires.5)

pub load-requires : goal.load-requires
load-requires c = omega (arith, within_above _ _ _ _ _ _ c.loop-i-test.true _ (c.loop-i.invariant.2 _ _ _ _ c.requires.4 c.requires.5), c.balance.auto.mem)

pub settle-requires : goal.settle-requires
settle-requires c = (_, _, _, _, rising_settling _ _ _ _ _ _ _ (rises _ _ _ _ _ _ c.loop-i-test.true _ (c.loop-i.invariant.2 _ _ _ _ c.requires.4 c.requires.5) c.requires.4 _ c.balance.ensures) _ _ (c.load-was.ensures ∙ node_above _ _ _ _ _ _ c.loop-i-test.true _ (c.loop-i.invariant.2 _ _ _ _ c.requires.4 c.requires.5)) c.load.ensures c.if-load-was.true)

pub returns-then-load-was : goal.returns-then-load-was
returns-then-load-was c = λ v m0 t d T R. c.settle.ensures v m0 t d (rising_settling v m0 t d _ _ _ (rises v m0 t d _ _ c.loop-i-test.true _ (c.loop-i.invariant.2 _ _ _ _ T R) T _ c.balance.ensures) _ _ (c.load-was.ensures ∙ node_above v m0 t d _ _ c.loop-i-test.true _ (c.loop-i.invariant.2 _ _ _ _ T R)) c.load.ensures c.if-load-was.true)

pub loop-i-preserved : goal.loop-i-preserved
loop-i-preserved c = (omega (arith, c.loop-i.invariant.0), c.balance.auto.mem ∙ c.loop-i.invariant.1, λ v m0 t d T R. rises v m0 t d _ _ c.loop-i-test.true _ (c.loop-i.invariant.2 _ _ _ _ T R) T _ c.balance.ensures)

pub returns : goal.returns
returns c = λ v m0 t d T R. risen v m0 t d _ _ c.loop-i-test.false _ (c.loop-i.invariant.2 v m0 t d T R)
