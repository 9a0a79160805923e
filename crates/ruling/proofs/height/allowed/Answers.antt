-- `ruling::height::allowed`: twice the whole part of log2, which a word of 64 bits keeps below 64. Assumes nothing.
use mathlib.Core.Logic.{inl, inr}
use Prim.Native.Nat.{ℕ, ◌^◌, ◌<◌}
use native.Mathlib.Omega.{arith}
use lib.Pow.{pow_mono}
use Rattle.numbers.specs.Case.{case_le}
use Rattle.numbers.specs.Powers.{Log2}
use Rattle.ruling.proofs.height.allowed.Goals as goal

small : (m r : ℕ) → Log2 m r → m < 2 ^ 64 → r < 64
small m r a h = elim (case_le 64 r) [ inl y ↦ absurd (omega (arith, a.low, pow_mono y.0)) | inr y ↦ y.0 ]

pub overflow_mul-result : goal.overflow_mul-result
overflow_mul-result c = omega (arith, small _ _ c.log2_floor.ensures c.ranges.leaves.fits)
