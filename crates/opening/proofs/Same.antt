-- What the contract of an opening comes to: when it is refused, that an accepted one leaves a link, and that it leaves one answer
-- and one content of the memory.
use mathlib.Core.Path.{◌≡◌, refl, sym, ◌∙◌}
use mathlib.Core.Logic.{inl, inr}
use mathlib.Core.Bool.{Bool, true, false}
use mathlib.Core.List.{List}
use Prim.Native.Nat.{ℕ, ◌≤◌, ◌<◌}
use native.Mathlib.Omega.{arith}
use lib.ListN.{length}
use Rattle.numbers.specs.Case.{case_lt}
use Rattle.rule.specs.Settings.{Settings, in_bounds}
use Rattle.numbers.specs.Words.{Bytes}
use Rattle.state.specs.Open.{fresh}
use Rattle.memory.specs.Header.{need}
use Rattle.memory.specs.Steps.{Link}
use Rattle.memory.proofs.Same.{one_after}
use Rattle.opening.specs.Opening.{opening_code, Opens}
use Rattle.opening.proofs.Widening.{placed_fresh, wide_fresh}

-- code 1 exactly if a bound is broken or the memory is smaller than the need, else code 0
pub data Answer (g : Settings) (bytes : ℕ) : Type 0 where
  broken : in_bounds g ≡ false → opening_code g bytes ≡ 1 → Answer g bytes
  small : bytes < need g.room → opening_code g bytes ≡ 1 → Answer g bytes
  fine : in_bounds g ≡ true → need g.room ≤ bytes → opening_code g bytes ≡ 0 → Answer g bytes

pub answer : (g : Settings) (bytes : ℕ) → Answer g bytes
answer g bytes = go (in_bounds g) refl
  where
    go : (b : Bool) → in_bounds g ≡ b → Answer g bytes
    go false q = broken q (rw q)
    go true q = elim (case_lt bytes (need g.room)) [ inl y ↦ small y.0 (rw (q, y.1)) | inr y ↦ fine q y.0 (rw (q, y.1)) ]

module _ (g : Settings) (floor : ℕ) (m : List ℕ) where
  -- an accepted opening leaves a link
  pub linked : (m' : List ℕ) → Opens g floor m m' 0 → Link m' (fresh g floor)
  linked m' o = go (answer g (length m))
    where
      go : Answer g (length m) → Link m' (fresh g floor)
      go (broken h e) = absurd (omega (arith, o.answer))
      go (small h e) = absurd (omega (arith, o.answer))
      go (fine h l e) = record { placed = placed_fresh g floor h; even = (wide_fresh g floor h).even; holds = (o.accepted refl).holds }

  -- any two outcomes allowed are equal
  pub one_opening : (m' m'' : List ℕ) (code code' : ℕ) → Bytes m' → Bytes m'' → Opens g floor m m' code → Opens g floor m m'' code' → (code ≡ code') × (m' ≡ m'')
  one_opening m' m'' code code' x y o o' = (o.answer ∙ sym o'.answer, go (answer g (length m)))
    where
      go : Answer g (length m) → m' ≡ m''
      go (broken h e) = o.refused (o.answer ∙ e) ∙ sym (o'.refused (o'.answer ∙ e))
      go (small h e) = o.refused (o.answer ∙ e) ∙ sym (o'.refused (o'.answer ∙ e))
      go (fine h l e) = one_after m m' m'' (fresh g floor) (placed_fresh g floor h) x y (o.accepted (o.answer ∙ e)) (o'.accepted (o'.answer ∙ e))
