-- `ruling::bounds::rising`: the delays that are left rise exactly if all of them do. Assumes nothing.
use mathlib.Core.Path.{sym, ◌∙◌}
use native.Mathlib.Omega.{arith}
use Rattle.std.proofs.Common.{rules}
use Rattle.ruling.proofs.Rising.{none_left, rise_not, rise_next}
use Rattle.ruling.proofs.bounds.rising.Given.{iterator-loop-delay}
use Rattle.ruling.proofs.bounds.rising.Goals as goal

pub returns-then-not-rises : goal.returns-then-not-rises
returns-then-not-rises g c = λ xs y. sym (rise_not (iterator-loop-delay g).next_gives xs _ _ _ _ c.in-Some.ensures.steps (c.loop-delay.invariant.2 xs y) (sym c.rises.ensures ∙ c.if-not-rises.true))

pub loop-delay-preserved : goal.loop-delay-preserved
loop-delay-preserved g c = (search rules, search rules, λ xs y. rise_next (iterator-loop-delay g).next_gives xs _ _ _ _ c.in-Some.ensures.steps _ (omega arith) (c.loop-delay.invariant.2 xs y) (sym c.rises.ensures ∙ c.if-not-rises.false))

pub returns : goal.returns
returns g c = λ xs y. sym (none_left (iterator-loop-delay g).next_gives xs _ _ _ (c.loop-delay.invariant.2 xs y) c.in-None.ensures.steps)
