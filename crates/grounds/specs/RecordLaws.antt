-- What a record of bytes can hold: a number of six bytes is a moment, an order uses some of its bytes, and what cannot be read is code 11.
-- 01, Records: "Each record begins with a two-byte mark. Numbers are most significant byte first."
use Rattle.std.specs.Prelude.{◌≡◌, List, [], ◌∷◌, ℕ, zero, suc, ◌+◌, ◌*◌, ◌^◌, ◌≤◌, ◌<◌, length, take, drop}
use Rattle.std.proofs.Common.{subst, inl, inr, arith, lt_of_lt_of_le, length-take, pow_mono}
use Rattle.numbers.specs.Case.{case_le}
use Rattle.digits.specs.Digits.{goes_on, digits, field}
use Rattle.digits.proofs.DigitLaws.{grows}
use Rattle.rule.specs.Moments.{last_moment}
use Rattle.rule.specs.Order.{Order, booking, sweep}
use Rattle.order.specs.Records.{Reading, unread, opening, order, whole, opening_of, booking_of, compact_of, sweep_of, by_mark, reading, used_by}
use Rattle.order.specs.Kinds.{Kind, by_mark_lem, kind}
use Rattle.order.proofs.Alone.{inside}
use Rattle.numbers.specs.Words.{Bytes}
use Rattle.state.specs.Range.{InRange}

-- ---- parts of a byte string are byte strings
pub bytes_drop : (n : ℕ) (s : List ℕ) → Bytes s → Bytes (drop n s)
bytes_drop zero s h = h
bytes_drop (suc n) [] h = h
bytes_drop (suc n) (x ∷ xs) h = bytes_drop n xs (λ j. h (suc j))

pub bytes_take : (n : ℕ) (s : List ℕ) → Bytes s → Bytes (take n s)
bytes_take zero s h j = omega arith
bytes_take (suc n) [] h j = omega arith
bytes_take (suc n) (x ∷ xs) h zero = h 0
bytes_take (suc n) (x ∷ xs) h (suc j) = bytes_take n xs (λ i. h (suc i)) j

-- ---- a number of n bytes has 8 n binary digits
goes_below : (s : List ℕ) (a k : ℕ) → Bytes s → a < 2 ^ (8 * k) → goes_on a s < 2 ^ (8 * (k + length s))
unfolding goes_on
goes_below [] a k h g = let e : k + 0 ≡ k = omega arith in rw e g
goes_below (b ∷ bs) a k h g =
    let e : k + suc (length bs) ≡ k + 1 + length bs = omega arith in
    rw e (goes_below bs (a * 256 + b) (k + 1) (λ j. h (suc j)) (grows a b k g (h 0)))

pub moment_field : (i : ℕ) (s : List ℕ) → Bytes s → field i 6 s ≤ last_moment
unfolding digits
moment_field i s h =
    let t = take 6 (drop i s) in
    let l : 8 * (0 + length t) ≤ 48 = omega (arith, length-take 6 (drop i s)) in
    let g = lt_of_lt_of_le (goes_below t 0 0 (bytes_take 6 (drop i s) (bytes_drop i s h)) (omega arith)) (pow_mono l) in
    omega (arith, g)

-- ---- what is read of bytes: a floor or a sweep's moment is a moment
abbrev Ranged : Reading → Type 0
Ranged (unread x) = Unit {0}
Ranged (opening n p) = p.floor ≤ last_moment
Ranged (order n o) = InRange o

whole_ranged : (n : ℕ) (bytes : List ℕ) (x : Reading) → Ranged x → Ranged (whole n bytes x)
whole_ranged n bytes x r = elim (case_le n (length bytes)) [ inl y ↦ rw y.1 r | inr y ↦ rw y.1 tt ]

mark_ranged : (m : ℕ) (bytes : List ℕ) → Bytes bytes → Ranged (by_mark m bytes)
unfolding opening_of booking_of compact_of sweep_of
mark_ranged m bytes h =
    by_mark_lem (λ f. Ranged (f bytes)) m (whole_ranged (14 + 4 * field 3 1 bytes) bytes _ (moment_field 8 bytes h))
    (whole_ranged 14 bytes (order 14 (booking (field 2 6 bytes) (field 8 4 bytes) (field 12 2 bytes))) tt)
    (whole_ranged 10 bytes (order 10 (booking (field 2 6 bytes) (field 8 2 bytes) 0)) tt)
    (whole_ranged 8 bytes (order 8 (sweep (field 2 6 bytes))) (moment_field 2 bytes h)) tt

ranged : (bytes : List ℕ) → Bytes bytes → Ranged (reading bytes)
unfolding reading
ranged bytes h = whole_ranged 2 bytes (by_mark (field 0 2 bytes) bytes) (mark_ranged (field 0 2 bytes) bytes h)

-- with what the reader's own laws say: no code but 11, and an order has bytes and lies inside
abbrev pub Fair : List ℕ → Reading → Type 0
Fair bytes (unread x) = x ≡ 11
Fair bytes (opening n p) = Bytes bytes → p.floor ≤ last_moment
Fair bytes (order n o) = (1 ≤ n) × (n ≤ length bytes) × (Bytes bytes → InRange o)

pub reading_fair : (bytes : List ℕ) → Fair bytes (reading bytes)
reading_fair bytes = go (reading bytes) (kind bytes) (inside bytes) (ranged bytes)
  where
    go : (z : Reading) → Kind z → used_by z ≤ length bytes → (Bytes bytes → Ranged z) → Fair bytes z
    go (unread x) k u r = k
    go (opening n p) k u r = r
    go (order n o) k u r = (omega arith, u, r)

pub order_fair : (bytes : List ℕ) (n : ℕ) (o : Order) → reading bytes ≡ order n o → (1 ≤ n) × (n ≤ length bytes) × (Bytes bytes → InRange o)
order_fair bytes n o q = subst (Fair bytes) q (reading_fair bytes)
