-- A number below 2^64 has at most twenty digits, by the kit's count of digits (docs/PORT.md); of its `decimal` see Spelt. Assumes nothing.
use mathlib.Core.Path.{◌≡◌, subst}
use mathlib.Core.Logic.{inl, inr}
use Prim.Native.Nat.{ℕ, zero, suc, ◌+◌, ◌-◌, ◌^◌, ◌≤◌, ◌<◌}
use native.Mathlib.Omega.{arith}
use native.Mathlib.Nat.{pow-suc}
use lib.Dec.{lit≤}
use Rattle.io.specs.Digits.{IsDigitCount}
use Rattle.numbers.specs.Case.{case_le}

twenty : (j : ℕ) → 18446744073709551616 ≤ 10 ^ (j + 20)
twenty zero = lit≤ tt
twenty (suc j) = let e : suc j + 20 ≡ suc (j + 20) = omega arith in rw e (omega (arith, twenty j, pow-suc 10 (j + 20)))

pub at_most_twenty : (n k : ℕ) → n < 18446744073709551616 → IsDigitCount 10 1 n k → k ≤ 20
at_most_twenty n k h f = elim (case_le k 20) [
  | inl y ↦ y.0
  | inr y ↦ let e : (k - 21) + 20 ≡ k - 1 = omega (arith, y.0) in absurd (omega (arith, h, f.2 (omega (arith, y.0)), subst (λ (x : ℕ). 18446744073709551616 ≤ 10 ^ x) e (twenty (k - 21))))
]
