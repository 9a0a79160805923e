-- The voids that an order leaves, as a list: what the rule says of a set (Rule.antt) is met by some list, and by this one.
use Rattle.std.specs.Prelude.{◌≡◌, refl, ◌⊎◌, ◌↔◌, Bool, true, false, List, [], ◌∷◌, ◌++◌, ℕ, eqb}
use Rattle.std.proofs.Common.{sym, ◌∙◌, inl, inr}
use Rattle.std.proofs.lemmas.Bool.{false≢true}
use Rattle.numbers.specs.Case.{pick, case_eq}
use Rattle.rule.specs.Voids.{Void, Has, Meaning}
use Rattle.rule.specs.Kept.{stays, kept}
use Rattle.rule.specs.Rule.{Piece, Replaced, Swept}

abbrev pub void : (channel start end : ℕ) → Void
void c s e = record { channel = c; start = s; end = e }

-- ---- a list of two parts
module _ (c s e : ℕ) where
  pub has_left : (xs ys : List Void) → Has xs c s e → Has (xs ++ ys) c s e
  has_left (x ∷ xs) ys (inl h) = inl h
  has_left (x ∷ xs) ys (inr h) = inr (has_left xs ys h)
  has_left [] ys h = absurd h

  pub has_right : (xs ys : List Void) → Has ys c s e → Has (xs ++ ys) c s e
  has_right [] ys h = h
  has_right (x ∷ xs) ys h = inr (has_right xs ys h)

  pub has_either : (xs ys : List Void) → Has (xs ++ ys) c s e → Has xs c s e ⊎ Has ys c s e
  has_either [] ys h = inr h
  has_either (x ∷ xs) ys (inl h) = inl (inl h)
  has_either (x ∷ xs) ys (inr h) = elim (has_either xs ys h) [ inl y ↦ inl (inr y) | inr y ↦ inr y ]

-- ---- a booking: the void of channel c from s on goes, its pieces come
abbrev pub without : (c s : ℕ) → List Void → List Void
without c s [] = []
without c s (v ∷ vs) = pick (eqb v.channel c) (pick (eqb v.start s) (without c s vs) (v ∷ without c s vs)) (v ∷ without c s vs)

abbrev pub piece : (floor c s e : ℕ) → List Void
piece floor c s e = pick (kept floor s e) (void c s e ∷ []) []

abbrev pub replaced : Meaning → (c s e r f : ℕ) → Meaning
replaced M c s e r f = record { settings = M.settings; floor = M.floor; voids = without c s M.voids ++ (piece M.floor c s r ++ piece M.floor c f e) }

module _ (c s c' s' e' : ℕ) where
  abbrev Other : Type 0
  Other = ¬ ((c' ≡ c) × (s' ≡ s))

  has_without : (vs : List Void) → Has (without c s vs) c' s' e' ↔ (Has vs c' s' e' × Other)
  has_without [] = ((λ h. absurd h), (λ h. h.0))
  has_without (v ∷ vs) = elim (case_eq v.channel c) [
    | inl x ↦ rw x.1 (elim (case_eq v.start s) [
      | inl y ↦ rw y.1 (
        (λ h. let z = (has_without vs).0 h in (inr z.0, z.1)),
        (λ h. elim h.0 [ inl z ↦ absurd (h.1 (sym z.0 ∙ x.0, sym z.1 ∙ y.0)) | inr z ↦ (has_without vs).1 (z, h.1) ]),
      )
      | inr y ↦ rw y.1 (stays_on (has_without vs) (λ q. y.0 q.1))
    ])
    | inr x ↦ rw x.1 (stays_on (has_without vs) (λ q. x.0 q.0))
  ]
    where
      stays_on : Has (without c s vs) c' s' e' ↔ (Has vs c' s' e' × Other) → ¬ ((v.channel ≡ c) × (v.start ≡ s)) → Has (v ∷ without c s vs) c' s' e' ↔ (Has (v ∷ vs) c' s' e' × Other)
      stays_on I n = (
        (λ h. elim h [ inl z ↦ (inl z, (λ q. n (z.0 ∙ q.0, z.1 ∙ q.1))) | inr z ↦ let w = I.0 z in (inr w.0, w.1) ]),
        (λ h. elim h.0 [ inl z ↦ inl z | inr z ↦ inr (I.1 (z, h.1)) ]),
      )

has_piece : (floor c s e c' s' e' : ℕ) → Has (piece floor c s e) c' s' e' ↔ Piece floor c s e c' s' e'
has_piece floor c s e c' s' e' = go (kept floor s e)
  where
    go : (b : Bool) → Has (pick b (void c s e ∷ []) []) c' s' e' ↔ ((c' ≡ c) × (s' ≡ s) × (e' ≡ e) × (b ≡ true))
    go true = ((λ h. elim h [ inl z ↦ (sym z.0, sym z.1, sym z.2, refl) | inr z ↦ absurd z ]), (λ h. inl (sym h.0, sym h.1, sym h.2)))
    go false = ((λ h. absurd h), (λ h. absurd (false≢true h.3)))

pub replaced_is : (M : Meaning) (c s e r f : ℕ) → Replaced M c s e r f (replaced M c s e r f)
replaced_is M c s e r f = record {
  settings = refl;
  floor = refl;
  voids = λ c' s' e'.
      let A = piece M.floor c s r in
      let B = piece M.floor c f e in
      let a = has_piece M.floor c s r c' s' e' in
      let b = has_piece M.floor c f e c' s' e' in
      let w = has_without c s c' s' e' M.voids in (
        (λ h. elim (has_either c' s' e' (without c s M.voids) (A ++ B) h) [
          | inl z ↦ inl (w.0 z)
          | inr z ↦ elim (has_either c' s' e' A B z) [ inl y ↦ inr (inl (a.0 y)) | inr y ↦ inr (inr (b.0 y)) ]
        ]),
        (λ h. elim h [
          | inl z ↦ has_left c' s' e' (without c s M.voids) (A ++ B) (w.1 z)
          | inr z ↦ has_right c' s' e' (without c s M.voids) (A ++ B) (elim z [ inl y ↦ has_left c' s' e' A B (a.1 y) | inr y ↦ has_right c' s' e' A B (b.1 y) ])
        ]),
      );
}

-- ---- a sweep: those that stay
abbrev pub staying : (moment : ℕ) → List Void → List Void
staying moment [] = []
staying moment (v ∷ vs) = pick (stays moment v.end) (v ∷ staying moment vs) (staying moment vs)

abbrev pub swept_to : Meaning → (moment : ℕ) → Meaning
swept_to M moment = record { settings = M.settings; floor = moment; voids = staying moment M.voids }

has_staying : (moment c s e : ℕ) (vs : List Void) → Has (staying moment vs) c s e ↔ (Has vs c s e × (stays moment e ≡ true))
has_staying moment c s e [] = ((λ h. absurd h), (λ h. h.0))
has_staying moment c s e (v ∷ vs) = go (stays moment v.end) refl (has_staying moment c s e vs)
  where
    go : (b : Bool) → stays moment v.end ≡ b → Has (staying moment vs) c s e ↔ (Has vs c s e × (stays moment e ≡ true))
        → Has (pick b (v ∷ staying moment vs) (staying moment vs)) c s e ↔ (Has (v ∷ vs) c s e × (stays moment e ≡ true))
    go true q I = (
      (λ h. elim h [ inl z ↦ (inl z, rw (← z.2) q) | inr z ↦ let w = I.0 z in (inr w.0, w.1) ]),
      (λ h. elim h.0 [ inl z ↦ inl z | inr z ↦ inr (I.1 (z, h.1)) ]),
    )
    go false q I = (
      (λ h. let w = I.0 h in (inr w.0, w.1)),
      (λ h. elim h.0 [ inl z ↦ absurd (false≢true (sym q ∙ (rw z.2 h.1))) | inr z ↦ I.1 (z, h.1) ]),
    )

pub swept_is : (M : Meaning) (moment : ℕ) → Swept M moment (swept_to M moment)
swept_is M moment = record { settings = refl; floor = refl; voids = λ c s e. has_staying moment c s e M.voids }
