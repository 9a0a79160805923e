-- What `remove k t` comes to, of a tree with more than one leaf: the leaf and the node above it go, and order and
-- balance are kept.
use Rattle.std.specs.Prelude.{◌≡◌, ◌≢◌, Bool, true, false, ℕ, ◌+◌, ◌≤◌}
use Rattle.std.proofs.Common.{sym, inl, inr, arith}
use mathlib.Core.List.{[], ◌∷◌}
use Rattle.numbers.specs.Case.{case_le}
use Rattle.shape.specs.Tree.{Tree, leaf, node, height, size, lo, Balanced, Ord, In, All, leaves, weight}
use Rattle.shape.specs.TreeLaws.{all_others, in_right, in_left, size_some}
use Rattle.shape.specs.PlaceLaws.{size_weight}
use Rattle.shape.specs.Side.{over, near, far}
use Rattle.shape.specs.SideLaws.{joined_nil, leaves_over, height_over, weight_over, all_over}
use Rattle.shape.specs.Arrange.{balance, less, remove, or_above, above}
use Rattle.shape.specs.BalanceLaws.{balance_over}
use Rattle.shape.specs.ListLaws.{cut, instead_joined, instead_one, ord_instead}
use Rattle.shape.specs.LeadLaws.{Leads, leads_right, leads_left}

-- u is t, ordered from a on and below b, without the leaf k e and the inner place above it
pub record Removed (a b k e : ℕ) (t u : Tree) : Type 1 where
  pub list : leaves u ≡ cut k (leaves t)
  pub weigh : (w : (k e : ℕ) → ℕ) (v : ℕ → ℕ) → weight w v t ≡ w k e + v (above k t) + weight w v u
  pub all : (P : (k e : ℕ) → Type 0) → All (λ j f. j ≢ k → P j f) t → All P u
  pub ord : Ord a b u
  pub even : Balanced u
  pub tall : height t ≤ height u + 1
  pub high : height u ≤ height t

ord_cut : (a b k : ℕ) (t u : Tree) → leaves u ≡ cut k (leaves t) → Ord a b t → Ord a b u
ord_cut a b k t u q o = ord_instead k (λ x. []) (λ x. omega arith) a b t u q o

-- at a node x over t and s, t on the side named, to which the key leads
module _ (left : Bool) (a b k e x : ℕ) where
  -- a leaf goes, and x with it
  leaf_gone : (j f : ℕ) (s : Tree) → Ord a b (over left x (leaf j f) s) → Balanced s → height s ≤ 1
      → Leads left k x (leaf j f) s → In k e (leaf j f) → Removed a b k e (over left x (leaf j f) s) s
  unfolding or_above
  leaf_gone j f s o S h d i =
      let t = over left x (leaf j f) s in
      let one : cut k ((j, f) ∷ []) ≡ [] = rw (← i.0) (instead_one k (λ x. []) f) in
      let L : leaves s ≡ cut k (leaves t) =
      rw (leaves_over, instead_joined k (λ x. []) left ((j, f) ∷ []) s d.beside, one) (sym (joined_nil left (leaves s))) in
      record {
        list = L;
        weigh = λ w v. rw (d.knot, weight_over, i.0, i.1) (omega arith);
        all = λ P c. all_others P k s d.beside (all_over left x (leaf j f) s _ c).1;
        ord = ord_cut a b k t s L o;
        even = S;
        tall = simp height_over (omega arith);
        high = simp height_over (omega arith);
      }

  -- a tree is changed, and x stays
  below : (c d y : ℕ) (g h s u : Tree) → let t = node y g h in
      Ord a b (over left x t s) → Balanced s → height t ≤ height s + 1 → height s ≤ height t + 1
      → Leads left k x t s → Removed c d k e t u → Removed a b k e (over left x t s) (balance x (near left u s) (far left u s))
  unfolding or_above
  below c d y g h s u o S m n D U =
      let t = node y g h in
      let B = balance_over left x u s U.even S (omega arith) (omega arith) in
      let z = balance x (near left u s) (far left u s) in
      let L : leaves z ≡ cut k (leaves (over left x t s)) =
      rw (B.list, U.list, leaves_over left x t s) (sym (instead_joined k (λ x. []) left (leaves t) s D.beside)) in
      record {
        list = L;
        weigh = λ w v. rw D.knot (omega (arith, U.weigh w v, B.weigh w v, weight_over left x t s w v));
        all = λ P v. let A = all_over left x t s _ v in B.all P (U.all P A.0) (all_others P k s D.beside A.1);
        ord = ord_cut a b k (over left x t s) z L o;
        even = B.even;
        tall = omega (arith, height_over left x t s);
        high = omega (arith, height_over left x t s);
      }

removed_side : (left : Bool) (a b c d k e x : ℕ) (t s u : Tree) → Ord a b (over left x t s) → Balanced s → height t ≤ height s + 1 → height s ≤ height t + 1
    → Leads left k x t s → In k e t → (2 ≤ size t → Removed c d k e t u) → Removed a b k e (over left x t s) (less left x t u s)
unfolding less
removed_side left a b c d k e x (leaf j f) s u o S m n D i R = leaf_gone left a b k e x j f s o S (omega arith) D i
removed_side left a b c d k e x (node y g h) s u o S m n D i R =
    below left a b k e x c d y g h s u o S m n D (R (omega (arith, size_some g, size_some h)))

pub remove_ok : (a b k e : ℕ) (t : Tree) → Ord a b t → Balanced t → In k e t → 2 ≤ size t → Removed a b k e t (remove k t)
unfolding remove
remove_ok a b k e (leaf j f) o h i n = absurd (omega arith)
remove_ok a b k e (node x l r) o h i n = elim (case_le (lo r) k) [
  | inl y ↦ let j = in_right a b k e x l r o y.0 i in
      rw y.1 (removed_side false a b (lo r) b k e x r l (remove k r) o h.0 h.3 h.2 (leads_right a b k x l r o y) j (remove_ok (lo r) b k e r o.1 h.1 j))
  | inr y ↦ let j = in_left a b k e x l r o y.0 i in
      rw y.1 (removed_side true a b a (lo r) k e x l r (remove k l) o h.1 h.2 h.3 (leads_left a b k x l r o y) j (remove_ok a (lo r) k e l o.0 h.0 j))
]

-- one leaf less
pub removed_size : (a b k e : ℕ) (t u : Tree) → Removed a b k e t u → size t ≡ size u + 1
removed_size a b k e t u R = omega (arith, size_weight t, size_weight u, R.weigh (λ k e. 1) (λ q. 0))
