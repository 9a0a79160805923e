-- Insert, remove and set end of any tree, by the side that the key leads to, and what they come to in weight and height.
-- No order and no balance is asked: the code in memory needs no more than these.
use Rattle.std.specs.Prelude.{◌≡◌, Bool, ℕ, ◌+◌, ◌≤◌, max, leb, ltb}
use Rattle.std.proofs.Math.Path.{refl}
use Rattle.std.proofs.Common.{◌∙◌, lt-ltb, le-ltb}
use Rattle.std.proofs.Math.Logic.{inl, inr}
use Rattle.std.proofs.Math.Bool.{true, false}
use native.Mathlib.Omega.{arith}
use Rattle.numbers.specs.Case.{pick, case_le, case_eq}
use Rattle.shape.specs.Tree.{Tree, leaf, node, height, lo, same, weight, uses, Once}
use Rattle.shape.specs.PlaceLaws.{same_self, same_other}
use Rattle.shape.specs.Side.{over, near, far}
use Rattle.shape.specs.Arrange.{balance, insert, less, remove, or_above, above, set_end}
use Rattle.shape.specs.TurnLaws.{weight_balance, height_balance, weight_balance_on, height_balance_on}

-- ---- the changes, with the side that the key leads to
module _ (k x : ℕ) (l r : Tree) (s : Bool) (es : s ≡ ltb k (lo r)) where
  leads : {A : Type 0} (a b : A) → pick (leb (lo r) k) a b ≡ near s b a
  leads a b = elim (case_le (lo r) k) [
    | inl y ↦ let h : s ≡ false = es ∙ le-ltb k (lo r) y.0 in rw (y.1, h)
    | inr y ↦ let h : s ≡ true = es ∙ lt-ltb k (lo r) y.0 in rw (y.1, h)
  ]

  pub insert_side : (e q : ℕ) → insert k e q (node x l r) ≡ balance x (near s (insert k e q (near s l r)) (far s l r)) (far s (insert k e q (near s l r)) (far s l r))
  unfolding insert
  insert_side e q = leads _ _ ∙ go s
    where
      go : (c : Bool) → near c (balance x (insert k e q l) r) (balance x l (insert k e q r)) ≡ balance x (near c (insert k e q (near c l r)) (far c l r)) (far c (insert k e q (near c l r)) (far c l r))
      go true = refl
      go false = refl

  pub set_side : (f : ℕ) → set_end k f (node x l r) ≡ over s x (set_end k f (near s l r)) (far s l r)
  unfolding set_end
  set_side f = leads _ _ ∙ go s
    where
      go : (c : Bool) → near c (node x (set_end k f l) r) (node x l (set_end k f r)) ≡ over c x (set_end k f (near c l r)) (far c l r)
      go true = refl
      go false = refl

  pub above_side : above k (node x l r) ≡ or_above x (near s l r) (above k (near s l r))
  unfolding above
  above_side = leads _ _ ∙ go s
    where
      go : (c : Bool) → near c (or_above x l (above k l)) (or_above x r (above k r)) ≡ or_above x (near c l r) (above k (near c l r))
      go true = refl
      go false = refl

  pub remove_side : remove k (node x l r) ≡ less s x (near s l r) (remove k (near s l r)) (far s l r)
  unfolding remove
  remove_side = leads _ _ ∙ go s
    where
      go : (c : Bool) → near c (less true x l (remove k l) r) (less false x r (remove k r) l) ≡ less c x (near c l r) (remove k (near c l r)) (far c l r)
      go true = refl
      go false = refl

-- the side at a leaf
pub insert_leaf : (k e q j f : ℕ) (s : Bool) → s ≡ ltb k j → insert k e q (leaf j f) ≡ over s q (leaf k e) (leaf j f)
unfolding insert
insert_leaf k e q j f s es = elim (case_le j k) [
  | inl y ↦ let h : s ≡ false = es ∙ le-ltb k j y.0 in rw (y.1, h)
  | inr y ↦ let h : s ≡ true = es ∙ lt-ltb k j y.0 in rw (y.1, h)
]

-- ---- what the changes add up to
module _ (u : (k e : ℕ) → ℕ) (v : ℕ → ℕ) (k e q : ℕ) where
  pub weight_insert : (t : Tree) → weight u v (insert k e q t) ≡ weight u v t + u k e + v q
  unfolding insert
  weight_insert (leaf j f) = elim (case_le j k) [ inl y ↦ rw y.1 (omega arith) | inr y ↦ rw y.1 (omega arith) ]
  weight_insert (node x l r) = elim (case_le (lo r) k) [
    | inl y ↦ rw y.1 (omega (arith, weight_balance u v x l (insert k e q r), weight_insert r))
    | inr y ↦ rw y.1 (omega (arith, weight_balance u v x (insert k e q l) r, weight_insert l))
  ]

pub height_insert : (k e q : ℕ) (t : Tree) → height (insert k e q t) ≤ height t + 1
unfolding insert
height_insert k e q (leaf j f) = elim (case_le j k) [ inl y ↦ rw y.1 (omega arith) | inr y ↦ rw y.1 (omega arith) ]
height_insert k e q (node x l r) = elim (case_le (lo r) k) [
  | inl y ↦ rw y.1 (omega (arith, height_balance x l (insert k e q r), height_insert k e q r))
  | inr y ↦ rw y.1 (omega (arith, height_balance x (insert k e q l) r, height_insert k e q l))
]

-- a weight by places, with the same c for each leaf
module _ (c : ℕ) (v : ℕ → ℕ) (k : ℕ) where
  abbrev by : Tree → ℕ
  by = weight (λ j e. c) v

  less_weight : (s : Bool) (x : ℕ) (t y : Tree) → (1 ≤ height t → by (remove k t) + c + v (above k t) ≡ by t)
      → by (less s x t (remove k t) y) + c + v (or_above x t (above k t)) ≡ v x + by t + by y
  unfolding less or_above
  less_weight s x (leaf j e) y h = omega arith
  less_weight s x (node p a b) y h =
      let g : by (remove k (node p a b)) + c + v (above k (node p a b)) ≡ by (node p a b) = h (omega arith) in
      omega (arith, weight_balance_on (λ j e. c) v s x (remove k (node p a b)) y)

  pub weight_remove : (t : Tree) → 1 ≤ height t → by (remove k t) + c + v (above k t) ≡ by t
  unfolding remove above
  weight_remove (leaf j e) h = absurd (omega arith)
  weight_remove (node x l r) h = elim (case_le (lo r) k) [
    | inl y ↦ rw y.1 (omega (arith, less_weight false x r l (weight_remove r)))
    | inr y ↦ rw y.1 (omega (arith, less_weight true x l r (weight_remove l)))
  ]

  pub weight_set : (f : ℕ) (t : Tree) → by (set_end k f t) ≡ by t
  unfolding set_end
  weight_set f (leaf j e) = refl
  weight_set f (node x l r) = elim (case_le (lo r) k) [ inl y ↦ rw y.1 (omega (arith, weight_set f r)) | inr y ↦ rw y.1 (omega (arith, weight_set f l)) ]

less_height : (k : ℕ) (s : Bool) (x : ℕ) (t y : Tree) → height (remove k t) ≤ height t → height (less s x t (remove k t) y) ≤ max (height t) (height y) + 1
unfolding less
less_height k s x (leaf j e) y h = omega arith
less_height k s x (node p a b) y h = omega (arith, height_balance_on s x (remove k (node p a b)) y)

pub height_remove : (k : ℕ) (t : Tree) → height (remove k t) ≤ height t
unfolding remove
height_remove k (leaf j e) = omega arith
height_remove k (node x l r) = elim (case_le (lo r) k) [
  | inl y ↦ rw y.1 (omega (arith, less_height k false x r l (height_remove k r)))
  | inr y ↦ rw y.1 (omega (arith, less_height k true x l r (height_remove k l)))
]

pub height_set : (k f : ℕ) (t : Tree) → height (set_end k f t) ≡ height t
unfolding set_end
height_set k f (leaf j e) = refl
height_set k f (node x l r) = elim (case_le (lo r) k) [ inl y ↦ rw y.1 (omega (arith, height_set k f r)) | inr y ↦ rw y.1 (omega (arith, height_set k f l)) ]

-- ---- what is above the leaf that the key leads to: of a child that is a leaf, and of one that is not
pub above_leaf : (x y : ℕ) (t : Tree) → height t ≡ 0 → or_above x t y ≡ x
unfolding or_above
above_leaf x y (leaf j e) h = refl
above_leaf x y (node p a b) h = absurd (omega arith)

pub above_node : (x y : ℕ) (t : Tree) → 1 ≤ height t → or_above x t y ≡ y
unfolding or_above
above_node x y (leaf j e) h = absurd (omega arith)
above_node x y (node p a b) h = refl

pub less_leaf : (s : Bool) (x : ℕ) (t now y : Tree) → height t ≡ 0 → less s x t now y ≡ y
unfolding less
less_leaf s x (leaf j e) now y h = refl
less_leaf s x (node p a b) now y h = absurd (omega arith)

pub less_node : (s : Bool) (x : ℕ) (t now y : Tree) → 1 ≤ height t → less s x t now y ≡ balance x (near s now y) (far s now y)
unfolding less
less_node s x (leaf j e) now y h = absurd (omega arith)
less_node s x (node p a b) now y h = refl

-- a free place, beside a tree that uses no place twice
pub fresh_once : (t : Tree) (q : ℕ) → Once t → uses q t ≡ 0 → (z : ℕ) → uses z t + same z q ≤ 1
fresh_once t q o f z = elim (case_eq z q) [
  | inl y ↦ rw y.0 (omega (arith, f, same_self q))
  | inr y ↦ omega (arith, o z, same_other z q y.0)
]
