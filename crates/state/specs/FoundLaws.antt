-- What an order's code leaves of it, and what is found at the starts tried.
use Rattle.std.specs.Prelude.{◌≡◌, refl, ◌⊎◌, Bool, true, false, List, [], ◌∷◌, ℕ, suc, ◌+◌, ◌/◌, ◌^◌, ◌≤◌, ◌<◌, leb, length}
use Rattle.std.proofs.Common.{inl, inr, arith}
use Rattle.numbers.specs.Case.{pick, case_le, case_lt, case_eq}
use Rattle.rule.specs.Moments.{last_moment}
use Rattle.rule.specs.Settings.{Settings}
use Rattle.rule.specs.Fit.{hold, hold_least, free}
use Rattle.rule.specs.Starts.{Start, bit, delayed, starts}
use Rattle.rule.specs.Kept.{kept, pieces}
use Rattle.rule.specs.Codes.{booking_code, sweep_code, too_many}
use Rattle.shape.specs.Tree.{Tree}
use Rattle.shape.specs.Visits.{Out, none, some, published}
use Rattle.state.specs.Exact.{AllStarts}
use Rattle.state.specs.Act.{Sought, nowhere, found, seek}
use Rattle.state.specs.KeptLaws.{pieces_two}

-- ---- codes
pub booking_goes : (g : Settings) (floor r l m : ℕ) → booking_code g floor r l m ≡ 0 → (1 ≤ hold g l) × (floor ≤ r) × (free r (hold g l) ≤ last_moment)
booking_goes g floor r l m = elim (case_eq l 0) [
  | inl y ↦ rw y.1 (λ q. absurd (omega arith))
  | inr y ↦ rw y.1 (elim (case_lt r floor) [
    | inl z ↦ rw z.1 (λ q. absurd (omega arith))
    | inr z ↦ rw z.1 (elim (case_le 1 (m / 2 ^ length g.delays)) [
      | inl w ↦ rw w.1 (λ q. absurd (omega arith))
      | inr w ↦ rw w.1 (elim (case_lt last_moment (free r (hold g l))) [
        | inl v ↦ rw v.1 (λ q. absurd (omega arith))
        | inr v ↦ λ q. (omega (arith, hold_least g l, y.0), omega arith, omega arith)
      ])
    ])
  ])
]

pub sweep_goes : (g : Settings) (floor moment : ℕ) → sweep_code g floor moment ≡ 0 → floor ≤ moment
sweep_goes g floor moment = elim (case_lt moment floor) [
  | inl z ↦ rw z.1 (λ q. absurd (omega arith))
  | inr z ↦ λ q. omega arith
]

-- a void taken is refused only if both pieces are kept and the room is full
pub case_full : (g : Settings) (floor n r f s e : ℕ) → (((pieces floor s e r f ≡ 2) × (g.room ≤ n)) × (too_many g floor n r f s e ≡ true))
    ⊎ ((kept floor s r ≡ true → kept floor f e ≡ true → n < g.room) × (too_many g floor n r f s e ≡ false))
case_full g floor n r f s e = elim (case_eq (pieces floor s e r f) 2) [
  | inl y ↦ rw y.1 (elim (case_le g.room n) [ inl z ↦ inl ((y.0, z.0), z.1) | inr z ↦ inr ((λ a b. z.0), z.1) ])
  | inr y ↦ rw y.1 (inr ((λ a b. absurd (y.0 (pieces_two floor s e r f a b))), refl))
]

-- ---- starts
-- a booking starts at the floor or later, and its channel is free by the last moment
abbrev pub Fair : (floor h b : ℕ) → Type 0
Fair floor h b = (floor ≤ b) × (free b h ≤ last_moment)

delayed_fair : (floor r h m i : ℕ) (ds : List ℕ) → floor ≤ r → AllStarts (Fair floor h) (delayed r h m i ds)
delayed_fair floor r h m i [] g = tt
delayed_fair floor r h m i (d ∷ ds) g = go (bit m i) (case_le (free (r + d) h) last_moment) (delayed_fair floor r h m (suc i) ds g)
  where
    more : List Start
    more = delayed r h m (suc i) ds

    go : (a : Bool) → ((free (r + d) h ≤ last_moment) × (leb (free (r + d) h) last_moment ≡ true)) ⊎ ((last_moment < free (r + d) h) × (leb (free (r + d) h) last_moment ≡ false))
        → AllStarts (Fair floor h) more
        → AllStarts (Fair floor h) (pick (pick a (leb (free (r + d) h) last_moment) false) (record { line = suc i; moment = r + d } ∷ more) more)
    go true (inl y) z = rw y.1 (omega arith, z)
    go true (inr y) z = rw y.1 z
    go false y z = z

starts_fair : (floor r h m : ℕ) (ds : List ℕ) → floor ≤ r → free r h ≤ last_moment → AllStarts (Fair floor h) (starts ds r h m)
starts_fair floor r h m ds a b = ((a, b), delayed_fair floor r h m 0 ds a)

-- ---- what is found was found at one of the starts
abbrev pub Found : Tree → (h : ℕ) → (ℕ → Type 0) → Sought → Type 0
Found t h P nowhere = Unit {0}
Found t h P (found i r k e) = P r × ((published r (free r h) t).out ≡ some k e)

seek_found : (t : Tree) (h : ℕ) (P : ℕ → Type 0) (xs : List Start) → AllStarts P xs → Found t h P (seek t h xs).out
seek_found t h P [] a = tt
seek_found t h P (x ∷ xs) a = go (seek_found t h P xs a.1) (published x.moment (free x.moment h) t).out refl
  where
    go : Found t h P (seek t h xs).out → (w : Out) → (published x.moment (free x.moment h) t).out ≡ w → Found t h P (seek t h (x ∷ xs)).out
    go d none q = rw q d
    go d (some k e) q = rw q (a.0, q)

-- what a booking finds that the codes 3 to 6 let go on
pub booking_found : (g : Settings) (floor : ℕ) (t : Tree) (r l m : ℕ) → booking_code g floor r l m ≡ 0
    → let h = hold g l in Found t h (Fair floor h) (seek t h (starts g.delays r h m)).out
booking_found g floor t r l m q =
    let z = booking_goes g floor r l m q in
    let h = hold g l in
    seek_found t h (Fair floor h) (starts g.delays r h m) (starts_fair floor r h m g.delays z.1 z.2)
