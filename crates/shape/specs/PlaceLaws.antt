-- Counting in a tree: what one leaf weighs in the whole, and how often a place is used.
-- That a place is free, or used once, is said by a count, so that such laws are arithmetic.
use Rattle.std.specs.Prelude.{◌≡◌, refl, ◌≢◌, ℕ, ◌+◌, ◌≤◌}
use Rattle.std.proofs.Common.{inl, inr, arith}
use Rattle.numbers.specs.Case.{case_le, case_eq}
use Rattle.shape.specs.Tree.{Tree, leaf, node, size, In, weight, same, uses}

-- ---- the same place
pub same_self : (x : ℕ) → same x x ≡ 1
unfolding same
same_self x = elim (case_eq x x) [ inl y ↦ rw y.1 | inr y ↦ absurd (y.0 refl) ]

pub same_other : (x y : ℕ) → x ≢ y → same x y ≡ 0
unfolding same
same_other x y h = elim (case_eq x y) [ inl z ↦ absurd (h z.0) | inr z ↦ rw z.1 ]

pub same_is : (x y : ℕ) → 1 ≤ same x y → x ≡ y
same_is x y h = elim (case_eq x y) [ inl z ↦ z.0 | inr z ↦ absurd (omega (arith, same_other x y z.0)) ]

pub same_most : (x y : ℕ) → same x y ≤ 1
same_most x y = elim (case_eq x y) [ inl z ↦ rw z.0 (omega (arith, same_self y)) | inr z ↦ omega (arith, same_other x y z.0) ]

pub same_none : (x y : ℕ) → same x y ≡ 0 → x ≢ y
same_none x y h e = let g : same y y ≡ 0 = rw e at h in omega (arith, same_self y)

-- ---- a leaf's weight in the whole
pub weight_in : (w : (k e : ℕ) → ℕ) (v : ℕ → ℕ) (t : Tree) (k e : ℕ) → In k e t → w k e ≤ weight w v t
weight_in w v (leaf k e) k' e' i = rw (i.0, i.1) (omega arith)
weight_in w v (node q l r) k e (inl i) = omega (arith, weight_in w v l k e i)
weight_in w v (node q l r) k e (inr i) = omega (arith, weight_in w v r k e i)

-- a leaf that weighs something
pub record Some (w : (k e : ℕ) → ℕ) (t : Tree) : Type 0 where
  pub key : ℕ
  pub end : ℕ
  pub inside : In key end t
  pub heavy : 1 ≤ w key end

pub weight_some : (w : (k e : ℕ) → ℕ) (t : Tree) → 1 ≤ weight w (λ q. 0) t → Some w t
weight_some w (leaf k e) h = record { key = k; end = e; inside = (refl, refl); heavy = h }
weight_some w (node q l r) h = elim (case_le 1 (weight w (λ q. 0) l)) [
  | inl y ↦ let x = weight_some w l y.0 in record { key = x.key; end = x.end; inside = inl x.inside; heavy = x.heavy }
  | inr y ↦ let x = weight_some w r (omega arith) in record { key = x.key; end = x.end; inside = inr x.inside; heavy = x.heavy }
]

-- weights that are the same leaf by leaf, and place by place, come to the same
pub weight_same : (w w' : (k e : ℕ) → ℕ) (v v' : ℕ → ℕ)
    → ((k e : ℕ) → w k e ≡ w' k e) → ((q : ℕ) → v q ≡ v' q) → (t : Tree) → weight w v t ≡ weight w' v' t
weight_same w w' v v' f g (leaf k e) = f k e
weight_same w w' v v' f g (node q l r) = omega (arith, g q, weight_same w w' v v' f g l, weight_same w w' v v' f g r)

-- two weights added up leaf by leaf, and place by place, come to the sum of the two
pub weight_add : (w w' : (k e : ℕ) → ℕ) (v v' : ℕ → ℕ) (t : Tree)
    → weight (λ k e. w k e + w' k e) (λ q. v q + v' q) t ≡ weight w v t + weight w' v' t
weight_add w w' v v' (leaf k e) = refl
weight_add w w' v v' (node q l r) = omega (arith, weight_add w w' v v' l, weight_add w w' v v' r)

-- the size is a weight
pub size_weight : (t : Tree) → size t ≡ weight (λ k e. 1) (λ q. 0) t
size_weight (leaf k e) = refl
size_weight (node q l r) = omega (arith, size_weight l, size_weight r)

-- ---- how often a place is used
-- a node's own place is used
pub uses_place : (q : ℕ) (l r : Tree) → 1 ≤ uses q (node q l r)
uses_place q l r = omega (arith, same_self q)
