-- `session::answers`: one line more. Assumes nothing.
use mathlib.Core.Path.{◌≡◌, ap, ◌∙◌}
use native.Mathlib.Omega.{arith}
use Prim.Native.Nat.{suc, ◌+◌, ◌-◌, ◌*◌}
use Rattle.lines.specs.Lines.{line_of}
use Rattle.session.proofs.Writing.{line_more}
use Rattle.session.proofs.answers.Goals as goal

pub loop-i-preserved : goal.loop-i-preserved
loop-i-preserved g c =
    let seven : 7 * c.loop-i.i + 7 - 7 * c.loop-i.i ≡ 7 = omega arith in
    let next : c.loop-i.i + 1 ≡ suc c.loop-i.i = omega arith in
    rw next (line_more _ _ _ c.args.numbers.now c.loop-i.i c.read-answer.result c.answer.result c.loop-i.invariant (rw seven at c.read-answer.ensures) (c.answer.ensures ∙ ap (λ n. line_of n c.read-answer.result) next) c.in_ok-write.ensures.text)
