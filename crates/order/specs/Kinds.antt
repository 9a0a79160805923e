-- What a reading can be: refused by 11 and nothing else, or a record that has bytes.
use Rattle.std.specs.Prelude.{◌≡◌, refl, Bool, true, false, List, ℕ, ◌+◌, ◌*◌, ◌≤◌, eqb, length}
use Rattle.std.proofs.Common.{inl, inr, arith}
use Rattle.numbers.specs.Case.{pick, case_le}
use Rattle.digits.specs.Digits.{field}
use Rattle.order.specs.Records.{Reading, unread, opening, order, whole, opening_of, booking_of, compact_of, sweep_of, by_mark, reading}

abbrev pub Kind : Reading → Type 0
Kind (unread x) = x ≡ 11
Kind (opening u o) = 8 ≤ u
Kind (order u o) = 8 ≤ u

whole_kind : (n : ℕ) (s : List ℕ) (x : Reading) → Kind x → Kind (whole n s x)
whole_kind n s x k = elim (case_le n (length s)) [ inl y ↦ rw y.1 k | inr y ↦ rw y.1 refl ]

-- what holds of every kind of record, and of none, holds of what the mark leads to
pub by_mark_lem : (P : (List ℕ → Reading) → Type 0) (m : ℕ) → P opening_of → P booking_of → P compact_of → P sweep_of → P (λ s. unread 11) → P (by_mark m)
unfolding by_mark
by_mark_lem P m o b c s u = go (eqb m 0x4F4C) (eqb m 0x4F42) (eqb m 0x4F43) (eqb m 0x4F53)
  where
    go : (w x y z : Bool) → P (λ bytes. pick w (opening_of bytes) (pick x (booking_of bytes) (pick y (compact_of bytes) (pick z (sweep_of bytes) (unread 11)))))
    go true x y z = o
    go false true y z = b
    go false false true z = c
    go false false false true = s
    go false false false false = u

by_mark_kind : (m : ℕ) (s : List ℕ) → Kind (by_mark m s)
unfolding opening_of booking_of compact_of sweep_of
by_mark_kind m s =
    by_mark_lem (λ f. Kind (f s)) m (whole_kind (14 + 4 * field 3 1 s) s _ (omega arith)) (whole_kind 14 s _ (omega arith)) (whole_kind 10 s _ (omega arith))
    (whole_kind 8 s _ (omega arith)) refl

pub kind : (s : List ℕ) → Kind (reading s)
unfolding reading
kind s = whole_kind 2 s _ (by_mark_kind (field 0 2 s) s)
