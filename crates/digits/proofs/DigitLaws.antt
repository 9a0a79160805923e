-- The laws of a number's bytes in a record: one byte more, the last byte, and how large the number can be.
use mathlib.Core.Path.{◌≡◌, refl, sym, ap, ◌∙◌}
use mathlib.Core.List.{List, [], ◌∷◌}
use Prim.Native.Nat.{ℕ, zero, suc, ◌+◌, ◌*◌, ◌^◌, ◌≤◌, ◌<◌}
use native.Mathlib.Nat.{lt_of_lt_of_le}
use native.Mathlib.Numerals.{add-one}
use native.Mathlib.Omega.{arith}
use lib.ListN.{length, take, drop, get_or, drop_of_length-le}
use lib.Seq.{drop-cons, take-take}
use lib.Pow.{pow-add, pow_mono}
use Rattle.digits.specs.Digits.{goes_on, digits, field}

-- one byte more
pub step : (s : List ℕ) (a i : ℕ) → i < length s → goes_on a (drop i s) ≡ goes_on (a * 256 + get_or s i 0) (drop (i + 1) s)
unfolding goes_on
step s a i h = rw (add-one, drop-cons s i 0)

-- none left
pub last : (s : List ℕ) (a i : ℕ) → length s ≤ i → goes_on a (drop i s) ≡ a
unfolding goes_on
last s a i h = rw (drop_of_length-le s h)

-- a byte more is eight binary digits more
pub grows : (a b i : ℕ) → a < 2 ^ (8 * i) → b < 256 → a * 256 + b < 2 ^ (8 * (i + 1))
grows a b i h g =
    let n : 8 * (i + 1) ≡ 8 * i + 8 = omega arith in
    let e : 2 ^ (8 * (i + 1)) ≡ 2 ^ (8 * i) * 256 = ap (λ (k : ℕ). 2 ^ k) n ∙ pow-add 2 (8 * i) 8 in
    omega (arith, e)

pub small : (a i : ℕ) → a < 2 ^ (8 * i) → i < 8 → a < 2 ^ 56
small a i h g =
    let k : 8 * i ≤ 56 = omega arith in
    lt_of_lt_of_le h (pow_mono k)

-- a field is in the bytes before its end: what comes after does not count
part_front : (i w n : ℕ) (s : List ℕ) → i + w ≤ n → take w (drop i (take n s)) ≡ take w (drop i s)
part_front zero w n s h = take-take w n s (omega arith)
part_front (suc i) w zero s h = absurd (omega arith)
part_front (suc i) w (suc n) [] h = refl
part_front (suc i) w (suc n) (x ∷ xs) h = part_front i w n xs (omega arith)

pub field_front : (i w n : ℕ) (s t : List ℕ) → i + w ≤ n → take n s ≡ take n t → field i w s ≡ field i w t
field_front i w n s t h e =
    let a : take w (drop i s) ≡ take w (drop i t) = sym (part_front i w n s h) ∙ (ap (λ (l : List ℕ). take w (drop i l)) e ∙ part_front i w n t h) in
    ap digits a
