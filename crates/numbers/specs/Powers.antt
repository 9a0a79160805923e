-- The whole part of log2 m, by powers of two (01: "The tree and its visits").
-- The code works it out from the leading zeros of m; this is what that comes to.
use Rattle.std.specs.Prelude.{◌≡◌, ℕ, ◌+◌, ◌^◌, ◌≤◌, ◌<◌}
use Rattle.std.proofs.Common.{inl, inr, arith, pow_mono}
use Rattle.numbers.specs.Case.{case_le}

-- r is the whole part of log2 m
pub record Log2 (m r : ℕ) : Type 0 where
  pub low : 2 ^ r ≤ m
  pub high : m < 2 ^ (r + 1)

log2_most : (m r q : ℕ) → Log2 m r → Log2 m q → r ≤ q
log2_most m r q a b = elim (case_le r q) [
  | inl y ↦ y.0
  | inr y ↦ let u : q + 1 ≤ r = omega arith in absurd (omega (arith, a.low, b.high, pow_mono u))
]

-- m has one such whole part
pub log2_one : (m r q : ℕ) → Log2 m r → Log2 m q → r ≡ q
log2_one m r q a b = omega (arith, log2_most m r q a b, log2_most m q r b a)
