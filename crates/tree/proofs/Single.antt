-- The contracts leave one answer and one content of the memory: any two outcomes allowed are equal.
-- `Bytes m` is what lent memory always is.
use mathlib.Core.Path.{◌≡◌}
use mathlib.Core.Logic.{◌⊎◌, inl, inr}
use mathlib.Core.List.{List}
use Prim.Native.Nat.{ℕ, ◌+◌, ◌/◌, ◌≤◌}
use native.Mathlib.Decide.{ℕ_discrete}
use native.Mathlib.Omega.{arith}
use Rattle.shape.specs.Tree.{Tree, same, uses}
use Rattle.shape.specs.PlaceLaws.{same_other}
use Rattle.shape.specs.ChangeLaws.{weight_insert, weight_set}
use Rattle.numbers.specs.Words.{Bytes}
use Rattle.node.proofs.Same.{determined}
use Rattle.rising.specs.Changes.{adding, ending, Begun, Becomes}

-- a seat that may have been written is t, or at a place of the tree after
written : (t z u v : ℕ) → u ≤ v → 1 ≤ same z t + u → (z ≡ t) ⊎ (1 ≤ v)
written t z u v h i = elim (ℕ_discrete z t) [ yes e ↦ inl e | no n ↦ inr (omega (arith, same_other z t n)) ]

module _ (m m' m'' : List ℕ) (x : Bytes m') (y : Bytes m'') where
  pub set_single : (t k e : ℕ) (tr : Tree) → Begun (ending k e) m t tr → Becomes (ending k e) t m m' → Becomes (ending k e) t m m'' → m' ≡ m''
  set_single t k e tr B one two =
      let f = one tr B in
      let h = two tr B in
      determined _ _ t m m' m'' (λ z u. written t z (uses (z / 8) tr) _ (omega (arith, weight_set 0 (same (z / 8)) k e tr)) (omega (arith, u))) x y f.stands f.kept h.stands h.kept

  pub insert_single : (t k e q : ℕ) (tr : Tree) → Begun (adding k e q) m t tr → Becomes (adding k e q) t m m' → Becomes (adding k e q) t m m'' → m' ≡ m''
  insert_single t k e q tr B one two =
      let f = one tr B in
      let h = two tr B in
      determined _ _ t m m' m'' (λ z u. written t z (uses (z / 8) tr + same (z / 8) q) _ (omega (arith, weight_insert (λ j v. 0) (same (z / 8)) k e q tr)) (omega (arith, u))) x y f.stands f.kept h.stands h.kept
