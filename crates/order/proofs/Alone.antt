-- The laws of reading: a record that is read lies inside its bytes, and depends on them alone.
use mathlib.Core.Path.{◌≡◌, refl, sym, ap, ◌∙◌}
use mathlib.Core.Logic.{inl, inr}
use mathlib.Core.List.{List}
use Prim.Native.Nat.{ℕ, zero, suc, ◌+◌, ◌*◌, ◌≤◌}
use native.Mathlib.Omega.{arith}
use lib.ListN.{length, take, length-take}
use Rattle.numbers.specs.Case.{case_le}
use Rattle.digits.specs.Digits.{field}
use Rattle.digits.proofs.DigitLaws.{field_front}
use Rattle.std.specs.Prelude.{Result}
use Rattle.order.specs.declared.Record.{Record}
use Rattle.order.specs.declared.Unread.{Unread}
use Rattle.order.specs.Records.{Reading, unread, opening, order, whole, delays_at, opening_of, booking_of, compact_of, sweep_of, by_mark, reading, used_by, opening_only}
use Rattle.order.specs.Kinds.{by_mark_lem}
use Rattle.order.specs.Read.{meant, Narrow, Reads, ReadsOpening}

-- two byte strings with the same first n bytes: the second is as long as those
front_length : (n : ℕ) (s t : List ℕ) → take n s ≡ take n t → n ≤ length s → n ≤ length t
front_length n s t e h = omega (arith, simp length-take at (ap length e))

-- what is read of a record of n bytes
module _ (n : ℕ) (s t : List ℕ) (x : Reading) (u : used_by x ≡ n) where
  whole_inside : used_by (whole n s x) ≤ length s
  whole_inside = elim (case_le n (length s)) [ inl a ↦ rw a.1 (omega arith) | inr a ↦ rw a.1 (omega arith) ]

  whole_used : 1 ≤ used_by (whole n s x) → used_by (whole n s x) ≡ n
  whole_used = elim (case_le n (length s)) [ inl a ↦ rw a.1 (λ h. u) | inr a ↦ rw a.1 (λ h. absurd (omega arith)) ]

  whole_alone : 1 ≤ used_by (whole n s x) → take n s ≡ take n t → whole n t x ≡ whole n s x
  whole_alone = elim (case_le n (length s)) [
    | inl a ↦ rw a.1 (λ h e. longer (front_length n s t e a.0))
    | inr a ↦ rw a.1 (λ h. absurd (omega arith))
  ]
    where
      longer : n ≤ length t → whole n t x ≡ x
      longer l = elim (case_le n (length t)) [ inl b ↦ rw b.1 | inr b ↦ absurd (omega arith) ]

delays_front : (i n k : ℕ) (s t : List ℕ) → i + 4 * n ≤ k → take k s ≡ take k t → delays_at i n t ≡ delays_at i n s
delays_front i zero k s t h e = refl
delays_front i (suc n) k s t h e =
    let a = field_front i 4 k s t (omega arith) e in
    let b = delays_front (i + 4) n k s t (omega arith) e in
    rw (a, b)

-- what is read by f lies inside its bytes, and depends on them alone
pub record Alone (f : List ℕ → Reading) (s t : List ℕ) : Type 0 where
  pub inside : used_by (f s) ≤ length s
  pub long : 1 ≤ used_by (f s) → 8 ≤ used_by (f s)
  pub alike : 1 ≤ used_by (f s) → take (used_by (f s)) s ≡ take (used_by (f s)) t → f t ≡ f s

-- a record of n bytes, which the second byte string says too if its first n bytes are the same
fixed : (f : List ℕ → Reading) (n : ℕ) (s t : List ℕ) (x : Reading) → used_by x ≡ n → 8 ≤ n → f s ≡ whole n s x → (take n s ≡ take n t → f t ≡ whole n t x) → Alone f s t
fixed f n s t x u l p q = record {
  inside = rw p (whole_inside n s t x u);
  long = rw p (λ h. omega (arith, whole_used n s t x u h));
  alike = rw p (λ h. rw (whole_used n s t x u h) (λ e. q e ∙ whole_alone n s t x u h e));
}

opening_fixed : (s t : List ℕ) → Alone opening_of s t
unfolding opening_of
opening_fixed s t =
    fixed opening_of (14 + 4 * field 3 1 s) s t _ refl (omega arith) refl
    (λ e. let n : field 3 1 t ≡ field 3 1 s = sym (field_front 3 1 (14 + 4 * field 3 1 s) s t (omega arith) e) in
    rw (
      n,
      ← field_front 2 1 (14 + 4 * field 3 1 s) s t (omega arith) e,
      ← field_front 4 4 (14 + 4 * field 3 1 s) s t (omega arith) e,
      ← field_front 8 6 (14 + 4 * field 3 1 s) s t (omega arith) e,
      delays_front 14 (field 3 1 s) (14 + 4 * field 3 1 s) s t (omega arith) e,
    ))

by_mark_alone : (m : ℕ) (s t : List ℕ) → Alone (by_mark m) s t
unfolding booking_of compact_of sweep_of
by_mark_alone m s t =
    by_mark_lem (λ f. Alone f s t) m (opening_fixed s t)
    (fixed booking_of 14 s t _ refl (omega arith) refl (λ e. rw (← field_front 2 6 14 s t (omega arith) e, ← field_front 8 4 14 s t (omega arith) e, ← field_front 12 2 14 s t (omega arith) e)))
    (fixed compact_of 10 s t _ refl (omega arith) refl (λ e. rw (← field_front 2 6 10 s t (omega arith) e, ← field_front 8 2 10 s t (omega arith) e)))
    (fixed sweep_of 8 s t _ refl (omega arith) refl (λ e. rw (← field_front 2 6 8 s t (omega arith) e)))
    (record { inside = omega arith; long = λ h. absurd (omega arith); alike = λ h. absurd (omega arith) })

-- ---- any record
pub inside : (s : List ℕ) → used_by (reading s) ≤ length s
unfolding reading
inside s = elim (case_le 2 (length s)) [ inl a ↦ rw a.1 (by_mark_alone (field 0 2 s) s s).inside | inr a ↦ rw a.1 (omega arith) ]

alone : (s t : List ℕ) → 1 ≤ used_by (reading s) → take (used_by (reading s)) s ≡ take (used_by (reading s)) t → reading t ≡ reading s
unfolding reading
alone s t = elim (case_le 2 (length s)) [
  | inl a ↦ rw a.1 (λ h e. go h e)
  | inr a ↦ rw a.1 (λ h. absurd (omega arith))
]
  where
    go : 1 ≤ used_by (by_mark (field 0 2 s) s) → take (used_by (by_mark (field 0 2 s) s)) s ≡ take (used_by (by_mark (field 0 2 s) s)) t
        → whole 2 t (by_mark (field 0 2 t) t) ≡ by_mark (field 0 2 s) s
    go h e =
        let A = by_mark_alone (field 0 2 s) s t in
        let f = field_front 0 2 (used_by (by_mark (field 0 2 s) s)) s t (omega (arith, A.long h)) e in
        let l = front_length (used_by (by_mark (field 0 2 s) s)) s t e A.inside in
        elim (case_le 2 (length t)) [ inl b ↦ rw (b.1, ← f) (A.alike h e) | inr b ↦ absurd (omega (arith, A.long h)) ]

-- an answer that says what is read
pub reads : (s : List ℕ) (r : Result Record Unread) → meant s r ≡ reading s → Narrow r → Reads s r
reads s r q n = record { is = q; narrow = n; inside = inside s; alone = alone s }

-- the same of one that speaks of openings alone
opening_inside : (n : ℕ) (x : Reading) → used_by x ≤ n → used_by (opening_only x) ≤ n
opening_inside n (unread x) h = h
opening_inside n (opening u o) h = h
opening_inside n (order u o) h = omega arith

pub reads_opening : (s : List ℕ) (r : Result Record Unread) → meant s r ≡ opening_only (reading s) → Narrow r → ReadsOpening s r
reads_opening s r q n = record { is = q; narrow = n; inside = opening_inside (length s) (reading s) (inside s); alone = alone s }
