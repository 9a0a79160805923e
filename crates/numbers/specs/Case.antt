-- How definitions choose by a test, and how proofs take a test apart.
-- Every crate's definitions use `pick`; every proof about one goes by `case_le` or `case_eq`.
use Rattle.std.specs.Prelude.{◌≡◌, refl, ◌⊎◌, ◌≢◌, Bool, true, false, ℕ, ◌≤◌, ◌<◌, T, leb, ltb, eqb}
use Rattle.std.proofs.Common.{subst, inl, inr, leb→le, ltb→lt, nltb→le, eqb→eq}
use Rattle.std.proofs.Math.Dec.{nleb→lt, eqb_refl}

-- the first if the test holds, else the second
abbrev pub pick {ℓ} : {A : Type ℓ} → Bool → A → A → A
pick true x y = x
pick false x y = y

pub case_le : (a b : ℕ) → ((a ≤ b) × (leb a b ≡ true)) ⊎ ((b < a) × (leb a b ≡ false))
case_le a b = go (leb a b) refl
  where
    go : (c : Bool) → leb a b ≡ c → ((a ≤ b) × (leb a b ≡ true)) ⊎ ((b < a) × (leb a b ≡ false))
    go true q = inl (leb→le a b (rw q tt), q)
    go false q = inr (nleb→lt a b (rw q tt), q)

pub case_lt : (a b : ℕ) → ((a < b) × (ltb a b ≡ true)) ⊎ ((b ≤ a) × (ltb a b ≡ false))
case_lt a b = go (ltb a b) refl
  where
    go : (c : Bool) → ltb a b ≡ c → ((a < b) × (ltb a b ≡ true)) ⊎ ((b ≤ a) × (ltb a b ≡ false))
    go true q = inl (ltb→lt a b (rw q tt), q)
    go false q = inr (nltb→le a b (rw q tt), q)

pub case_eq : (a b : ℕ) → ((a ≡ b) × (eqb a b ≡ true)) ⊎ ((a ≢ b) × (eqb a b ≡ false))
case_eq a b = go (eqb a b) refl
  where
    go : (c : Bool) → eqb a b ≡ c → ((a ≡ b) × (eqb a b ≡ true)) ⊎ ((a ≢ b) × (eqb a b ≡ false))
    go true q = inl (eqb→eq a b (rw q tt), q)
    go false q = inr (λ e. subst T q (subst (λ (z : ℕ). T (eqb a z)) e (eqb_refl a)), q)
