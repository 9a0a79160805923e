-- What a survey takes is ordered and balanced, and the other way round: `Good` goes by the last key seen, `Ord` by bounds.
use mathlib.Core.List.{List}
use Prim.Native.Nat.{ℕ, ◌≤◌}
use native.Mathlib.Omega.{arith}
use Rattle.shape.specs.Tree.{Tree, leaf, node, lo, Ord, Balanced, All}
use Rattle.shape.specs.TreeLaws.{lo_in, widen, tight}
use Rattle.state.specs.Sound.{Lawful, most_key}
use Rattle.survey.specs.Survey.{next, run, Good}

-- the last key is below the bound
pub next_most : (a b : ℕ) (t : Tree) → Ord a b t → next t ≤ b
unfolding next
next_most a b (leaf k e) o = omega arith
next_most a b (node p l r) o = next_most (lo r) b r o.1

-- the right subtree comes after the last key of the left one
pub after_left : (a b q : ℕ) (l r : Tree) → Ord a b (node q l r) → Ord (next l) b r
after_left a b q l r o = widen (lo r) b (next l) b r (next_most a (lo r) l o.0) (omega arith) o.1

module _ (c f : ℕ) where
  pub good_ord : (a : ℕ) (x : List ℕ) (t : Tree) → Good c f a x t → Ord a (next t) t
  unfolding Good next
  good_ord a x (leaf k e) g = (g.after, omega arith)
  good_ord a x (node p l r) g =
      let u = good_ord a x l g.0 in
      let v = good_ord (next l) (run x l) r g.1 in
      (widen a (next l) a (lo r) l (omega arith) (lo_in (next l) (next r) r v).0 u, tight (next l) (next r) r v)

  pub good_most : (a : ℕ) (x : List ℕ) (t : Tree) → Good c f a x t → next t ≤ most_key
  unfolding Good next
  good_most a x (leaf k e) g = omega (arith, g.lawful.some, g.lawful.most)
  good_most a x (node p l r) g = good_most (next l) (run x l) r g.1

  pub good_balanced : (a : ℕ) (x : List ℕ) (t : Tree) → Good c f a x t → Balanced t
  unfolding Good
  good_balanced a x (leaf k e) g = tt
  good_balanced a x (node p l r) g = (good_balanced a x l g.0, good_balanced (next l) (run x l) r g.1, g.2.left, g.2.right)

  pub good_lawful : (a : ℕ) (x : List ℕ) (t : Tree) → Good c f a x t → All (λ k e. Lawful c f k e) t
  unfolding Good
  good_lawful a x (leaf k e) g = g.lawful
  good_lawful a x (node p l r) g = (good_lawful a x l g.0, good_lawful (next l) (run x l) r g.1)
