-- A number takes at most twenty digits; the lines as they are spelled. Assumes nothing.
use native.Mathlib.Omega.{arith}
use mathlib.Core.Path.{◌≡◌, refl, sym}
use mathlib.Core.List.{[], ◌∷◌, ◌++◌, append_assoc}
use lib.ListN.{length}
use Prim.Native.Nat.{ℕ, ◌≤◌, ◌<◌, ◌^◌}
use Rattle.std.specs.Fmt.{decimal}
use Rattle.std.proofs.lemmas.Fmt.{length-decimal-le, decimal_digit}
use Rattle.lines.specs.Lines.{written}
use Rattle.lines.specs.declared.Line.TheVariants.{Opening, Booking, Sweep, Refusal, Kept}

pub spelt : (n : ℕ) → n < 2 ^ 64 → length (decimal n) ≤ 20
spelt n h = length-decimal-le 20 n (omega arith) (omega arith) h

-- each line as it is spelled, piece after piece
pub opening_spelt : (c l : ℕ) → decimal 0 ++ 32 ∷ 76 ∷ 32 ∷ (decimal c ++ 32 ∷ (decimal l ++ 10 ∷ [])) ≡ written (Opening c l)
opening_spelt c l = rw (decimal_digit 0 (omega arith)) (sym (simp append_assoc refl))

pub booking_spelt : (n c l s f : ℕ) → decimal n ++ 32 ∷ 66 ∷ 32 ∷ (decimal c ++ 32 ∷ (decimal l ++ 32 ∷ (decimal s ++ 32 ∷ (decimal f ++ 10 ∷ [])))) ≡ written (Booking n c l s f)
booking_spelt n c l s f = sym (simp append_assoc refl)

pub sweep_spelt : (n d : ℕ) → decimal n ++ 32 ∷ 83 ∷ 32 ∷ (decimal d ++ 10 ∷ []) ≡ written (Sweep n d)
sweep_spelt n d = sym (simp append_assoc refl)

pub refusal_spelt : (n x : ℕ) → decimal n ++ 32 ∷ 82 ∷ 32 ∷ (decimal x ++ 10 ∷ []) ≡ written (Refusal n x)
refusal_spelt n x = sym (simp append_assoc refl)

pub kept_spelt : (v : ℕ) → 69 ∷ 32 ∷ (decimal v ++ 10 ∷ []) ≡ written (Kept v)
kept_spelt v = sym (simp append_assoc refl)
