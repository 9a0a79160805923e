-- The tree of voids (01, The tree and its visits): "The voids are the leaves of a binary tree".
-- A leaf has a void's key and end; an inner node has the number of the place where its two children stand, side by side.
use Rattle.std.specs.Prelude.{◌≡◌, ◌⊎◌, List, [], ◌∷◌, ◌++◌, ℕ, ◌+◌, ◌≤◌, ◌<◌, min, max, eqb}
use Rattle.numbers.specs.Case.{pick}
use Rattle.rule.specs.Height.{Allowed}

pub data Tree : Type 0 where
  leaf : (key end : ℕ) → Tree
  node : (place : ℕ) → (left right : Tree) → Tree

-- ---- what a node tells of the tree below it
-- where its children stand (a leaf has none: 0)
abbrev pub place : Tree → ℕ
place (leaf k e) = 0
place (node p l r) = p

-- "the height, counted in edges"
abbrev pub height : Tree → ℕ
height (leaf k e) = 0
height (node p l r) = max (height l) (height r) + 1

abbrev pub size : Tree → ℕ
size (leaf k e) = 1
size (node p l r) = size l + size r

-- the least key: of the right subtree, it is "the earliest start in its right subtree"
abbrev pub lo : Tree → ℕ
lo (leaf k e) = k
lo (node p l r) = lo l

-- "the greatest end below it"
abbrev pub top : Tree → ℕ
top (leaf k e) = e
top (node p l r) = max (top l) (top r)

-- the least end, 004's, by which a sweep finds what it drops
abbrev pub low : Tree → ℕ
low (leaf k e) = e
low (node p l r) = min (low l) (low r)

-- ---- rules
-- 01's height rule: no higher than is allowed with so many leaves
abbrev pub HeightRule : Tree → Type 0
HeightRule t = (h : ℕ) → Allowed (size t) h → height t ≤ h

-- the team's balancing rule: the heights of two children differ by at most 1
abbrev pub Balanced : Tree → Type 0
Balanced (leaf k e) = Unit {0}
Balanced (node p l r) = Balanced l × Balanced r × (height l ≤ height r + 1) × (height r ≤ height l + 1)

-- "from left to right by rising start, equal starts by falling channel": the keys rise, from a on and below b
abbrev pub Ord : (a b : ℕ) → Tree → Type 0
Ord a b (leaf k e) = (a ≤ k) × (k < b)
Ord a b (node p l r) = Ord a (lo r) l × Ord (lo r) b r

-- ---- the leaves
abbrev pub In : (k e : ℕ) → Tree → Type 0
In k e (leaf k' e') = (k ≡ k') × (e ≡ e')
In k e (node q l r) = In k e l ⊎ In k e r

abbrev pub All : ((k e : ℕ) → Type 0) → Tree → Type 0
All P (leaf k e) = P k e
All P (node q l r) = All P l × All P r

-- a leaf's key and end
abbrev pub Item : Type 0
Item = ℕ × ℕ

abbrev pub leaves : Tree → List Item
leaves (leaf k e) = (k, e) ∷ []
leaves (node p l r) = leaves l ++ leaves r

-- ---- counting: a weight for each leaf and one for each inner node's place, added up
abbrev pub weight : ((k e : ℕ) → ℕ) → (ℕ → ℕ) → Tree → ℕ
weight w v (leaf k e) = w k e
weight w v (node q l r) = v q + weight w v l + weight w v r

-- 1 if the two are the same, else 0
unfoldable pub same : ℕ → ℕ → ℕ
same x y = pick (eqb x y) 1 0

-- how often the place x is used
abbrev pub uses : ℕ → Tree → ℕ
uses x t = weight (λ k e. 0) (same x) t

-- no place is used twice
abbrev pub Once : Tree → Type 0
Once t = (x : ℕ) → uses x t ≤ 1
