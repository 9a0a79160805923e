-- The delays of an opening one by one: what `delay` reads is the list that `reading` speaks of.
use Rattle.std.specs.Prelude.{◌≡◌, refl, List, ℕ, zero, suc, ◌+◌, ◌*◌, ◌≤◌, ◌<◌, length, get_or}
use Rattle.std.proofs.Common.{ap, inl, inr, arith}
use Rattle.numbers.specs.Case.{case_le}
use Rattle.digits.specs.Digits.{field}
use Rattle.order.specs.Records.{delays_at}
use Rattle.order.specs.Read.{delay_of}

pub delays_length : (i n : ℕ) (bytes : List ℕ) → length (delays_at i n bytes) ≡ n
delays_length i zero bytes = refl
delays_length i (suc n) bytes = ap suc (delays_length (i + 4) n bytes)

at_place : (i n k : ℕ) (bytes : List ℕ) → k < n → get_or (delays_at i n bytes) k 0 ≡ field (i + 4 * k) 4 bytes
at_place i zero k bytes h = absurd (omega arith)
at_place i (suc n) zero bytes h = let e : i + 4 * 0 ≡ i = omega arith in rw e
at_place i (suc n) (suc k) bytes h = let e : i + 4 * suc k ≡ i + 4 + 4 * k = omega arith in rw e (at_place (i + 4) n k bytes (omega arith))

-- in a record that holds its n delays, at most 255 of them
pub delay_is : (n k : ℕ) (bytes : List ℕ) → k < n → n < 256 → 14 + 4 * n ≤ length bytes → delay_of k bytes ≡ get_or (delays_at 14 n bytes) k 0
unfolding delay_of
delay_is n k bytes h g l = elim (case_le 256 k) [
  | inl y ↦ absurd (omega arith)
  | inr y ↦ elim (case_le (14 + 4 * k + 4) (length bytes)) [
    | inl z ↦ rw (y.1, z.1, at_place 14 n k bytes h)
    | inr z ↦ absurd (omega arith)
  ]
]
