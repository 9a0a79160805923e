-- `seven::write`: seven stores in a row. Assumes nothing.
use native.Mathlib.Omega.{arith}
use lib.ListN.{length-set}
use mathlib.Core.Path.{◌≡◌}
use Prim.Native.Nat.{suc, ◌+◌}
use Rattle.seven.proofs.write.Goals as goal

pub bounds-answers-at-2 : goal.bounds-answers-at-2
bounds-answers-at-2 c = simp length-set (omega arith)

pub bounds-answers-at-3 : goal.bounds-answers-at-3
bounds-answers-at-3 c = simp length-set (omega arith)

pub bounds-answers-at-4 : goal.bounds-answers-at-4
bounds-answers-at-4 c = simp length-set (omega arith)

pub bounds-answers-at-5 : goal.bounds-answers-at-5
bounds-answers-at-5 c = simp length-set (omega arith)

pub bounds-answers-at-6 : goal.bounds-answers-at-6
bounds-answers-at-6 c = simp length-set (omega arith)

pub bounds-answers-at-7 : goal.bounds-answers-at-7
bounds-answers-at-7 c = simp length-set (omega arith)

pub returns : goal.returns
returns c =
    let w = c.args.at in
    let e₁ : w + 1 ≡ suc w = omega arith in
    let e₂ : w + 2 ≡ suc (suc w) = omega arith in
    let e₃ : w + 3 ≡ suc (suc (suc w)) = omega arith in
    let e₄ : w + 4 ≡ suc (suc (suc (suc w))) = omega arith in
    let e₅ : w + 5 ≡ suc (suc (suc (suc (suc w)))) = omega arith in
    let e₆ : w + 6 ≡ suc (suc (suc (suc (suc (suc w))))) = omega arith in
    simp (e₁, e₂, e₃, e₄, e₅, e₆)
