-- When a void stays and when a piece is kept, as comparisons with the least end that stays.
use Rattle.std.specs.Prelude.{◌≡◌, refl, ◌⊎◌, ◌↔◌, Bool, true, false, ℕ, ◌≤◌, ◌<◌}
use Rattle.std.proofs.Common.{sym, ◌∙◌, inl, inr, arith}
use Rattle.std.proofs.lemmas.Bool.{false≢true}
use Rattle.numbers.specs.Case.{pick, case_le, case_lt}
use Rattle.rule.specs.Kept.{least, stays, kept, pieces}

pub stays_least : (floor e : ℕ) → (stays floor e ≡ true) ↔ (least floor ≤ e)
stays_least floor e = elim (case_le (least floor) e) [
  | inl y ↦ ((λ q. y.0), (λ h. y.1))
  | inr y ↦ ((λ q. absurd (false≢true (sym y.1 ∙ q))), (λ h. absurd (omega arith)))
]

pub case_kept : (floor s e : ℕ)
    → (((s < e) × (least floor ≤ e)) × (kept floor s e ≡ true)) ⊎ (((e ≤ s) ⊎ (e < least floor)) × (kept floor s e ≡ false))
case_kept floor s e = elim (case_lt s e) [
  | inl y ↦ rw y.1 (elim (case_le (least floor) e) [ inl z ↦ inl ((y.0, z.0), z.1) | inr z ↦ inr (inr z.0, z.1) ])
  | inr y ↦ rw y.1 (inr (inl y.0, refl))
]

pub kept_is : (floor s e : ℕ) → kept floor s e ≡ true → (s < e) × (least floor ≤ e)
kept_is floor s e q = elim (case_kept floor s e) [ inl y ↦ y.0 | inr y ↦ absurd (false≢true (sym y.1 ∙ q)) ]

pub kept_not : (floor s e : ℕ) → kept floor s e ≡ false → (e ≤ s) ⊎ (e < least floor)
kept_not floor s e q = elim (case_kept floor s e) [ inl y ↦ absurd (false≢true (sym q ∙ y.1)) | inr y ↦ y.0 ]

-- both pieces are kept
pub pieces_two : (floor s e r f : ℕ) → kept floor s r ≡ true → kept floor f e ≡ true → pieces floor s e r f ≡ 2
pieces_two floor s e r f a b = rw (a, b)

-- a weight that is counted only if a test holds
pub pick_most : (b : Bool) (x : ℕ) → pick b x 0 ≤ x
pick_most true x = omega arith
pick_most false x = omega arith
