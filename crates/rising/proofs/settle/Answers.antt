-- `rising::settle`: on the way up, what is settled so far (Settling). Assumes nothing.
use native.Mathlib.Omega.{arith}
use mathlib.Core.Path.{◌∙◌}
use Rattle.rising.proofs.Settling.{summable_above, settles, halts, settled}
use Rattle.rising.proofs.settle.Goals as goal

pub sum_up-requires : goal.sum_up-requires
sum_up-requires c = summable_above _ _ _ _ _ _ c.loop-i-test.true _ (c.loop-i.invariant.2 _ _ _ _ c.requires.4)

pub returns-then-not-sum_up : goal.returns-then-not-sum_up
returns-then-not-sum_up c = λ v m0 t d S. halts v m0 t d _ _ c.loop-i-test.true _ (c.loop-i.invariant.2 _ _ _ _ S) _ c.sum_up.ensures.summed (c.sum_up.ensures.still c.if-not-sum_up.true)

pub loop-i-preserved : goal.loop-i-preserved
loop-i-preserved c = (omega (arith, c.loop-i.invariant.0), c.sum_up.ensures.summed.kept.len ∙ c.loop-i.invariant.1, λ v m0 t d S. settles v m0 t d _ _ c.loop-i-test.true _ (c.loop-i.invariant.2 _ _ _ _ S) _ c.sum_up.ensures.summed)

pub returns : goal.returns
returns c = λ v m0 t d S. settled v m0 t d _ _ c.loop-i-test.false _ (c.loop-i.invariant.2 v m0 t d S)
