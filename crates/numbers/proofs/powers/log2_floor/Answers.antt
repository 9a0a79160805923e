-- The place of m's highest set digit is what is left of 63 after the leading zeros. Assumes nothing.
use mathlib.Core.Path.{◌≡◌, sym, subst}
use Prim.Native.Nat.{ℕ, ◌-◌, ◌^◌, ◌≤◌, ◌<◌}
use native.Mathlib.Numerals.{add-one}
use native.Mathlib.Omega.{arith}
use lib.Count.{count_leading_zeros, leading_top}
use Rattle.numbers.specs.Powers.{Log2}
use Rattle.numbers.proofs.powers.log2_floor.Goals as goal

top : (m : ℕ) → 1 ≤ m → m < 2 ^ 64 → (count_leading_zeros 64 m ≤ 63) × (Log2 m (63 - count_leading_zeros 64 m))
top m p f =
    let t = leading_top 64 m p f in
    let e : t.0 ≡ 63 - count_leading_zeros 64 m = omega (arith, t.1) in (
      omega (arith, t.1),
      subst (λ (r : ℕ). Log2 m r) e
          (record { low = t.2; high = subst (λ (n : ℕ). m < 2 ^ n) (sym (add-one t.0)) t.3 }),
    )

pub overflow_sub-result : goal.overflow_sub-result
overflow_sub-result c = (top c.args.m c.requires c.ranges.m.fits).0

pub returns : goal.returns
returns c = (top c.args.m c.requires c.ranges.m.fits).1
