-- What a test's answer gives: the claim, or that it does not hold.
use mathlib.Core.Path.{◌≡◌, subst, ◌∙◌}
use mathlib.Core.Bool.{Bool, true, false}
use Prim.Native.Nat.{ℕ, ◌+◌, ◌-◌, ◌<◌, ◌≤◌}
use native.Mathlib.Omega.{arith}
use lib.ListN.{length}
use Rattle.std.specs.Bool.{MatchBool}
use Rattle.std.specs.List.{range_with_len, AllWithin, HoldsAt}
use Rattle.std.proofs.lemmas.List.FromFn.{length-range_with_len, get_or-range_with_len}
use Rattle.settled.specs.Says.{Says}

pub says_yes : (P : Type 0) (b : Bool) → Says P b → b ≡ true → P
says_yes P true s e = s
says_yes P false s e = let z : ◌≡◌ {A = ℕ} 0 1 = cc in absurd (omega arith)

pub says_no : (P : Type 0) (b : Bool) → Says P b → b ≡ false → P → ⊥
says_no P false s e = s
says_no P true s e = let z : ◌≡◌ {A = ℕ} 0 1 = cc in absurd (omega arith)

-- and back
pub says_not : (P : Type 0) (b : Bool) → b ≡ false → (P → ⊥) → Says P b
says_not P b e n = rw e n

-- two claims that come to the same
pub says_map : (P Q : Type 0) (b : Bool) → (P → Q) → (Q → P) → Says P b → Says Q b
says_map P Q true f g s = f s
says_map P Q false f g s = λ q. s (g q)

-- a test's own value says that it is true
pub says_is : (b c : Bool) → c ≡ b → Says (b ≡ true) c
says_is b true e = cc
says_is b false e = λ q. let z : ◌≡◌ {A = ℕ} 0 1 = cc in omega arith

-- a test of each number from a up to b, as `all` makes it
pub says_range : (P : ℕ → Type 0) (a b : ℕ) (r : Bool) → MatchBool r (AllWithin P (range_with_len a (b - a)) 0 (length (range_with_len a (b - a)))) ((k : ℕ) × (k < length (range_with_len a (b - a))) × HoldsAt (λ j. P j → ⊥) (range_with_len a (b - a)) k)
    → Says ((j : ℕ) → a ≤ j → j < b → P j) r
says_range P a b true h = λ j g l. let e : a + (j - a) ≡ j = omega arith in subst P (get_or-range_with_len a (b - a) (j - a) 0 (omega arith) ∙ e) (h (j - a) 0 (omega arith) (omega (arith, length-range_with_len a (b - a))))
says_range P a b false h = λ f. subst (λ j. P j → ⊥) (get_or-range_with_len a (b - a) h.0 0 (omega (arith, h.1, length-range_with_len a (b - a)))) (h.2 0) (f (a + h.0) (omega arith) (omega (arith, h.1, length-range_with_len a (b - a))))
