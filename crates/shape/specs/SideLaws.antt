-- What a node over two trees comes to, whichever side the first is on: each law once, with the side as a parameter.
-- The turns are proved by these, so that none is proved for left and again for right.
use Rattle.std.specs.Prelude.{◌≡◌, refl, List, [], ◌++◌, Bool, true, false, not, ℕ, ◌+◌, ◌≤◌, min, max}
use Rattle.std.proofs.Common.{sym, append_assoc, append-nil, arith}
use Rattle.shape.specs.Tree.{Tree, node, place, height, size, lo, top, low, Balanced, All, Item, leaves, weight}
use Rattle.shape.specs.Side.{over, near, far}

-- two lists, the first of which is on the side named
abbrev pub joined : Bool → (near far : List Item) → List Item
joined true xs ys = xs ++ ys
joined false xs ys = ys ++ xs

pub joined_assoc : (left : Bool) (xs ys zs : List Item) → joined left (joined left xs ys) zs ≡ joined left xs (joined left ys zs)
joined_assoc true xs ys zs = append_assoc xs ys zs
joined_assoc false xs ys zs = sym (append_assoc zs ys xs)

-- beside nothing
pub joined_nil : (left : Bool) (xs : List Item) → joined left [] xs ≡ xs
joined_nil true xs = refl
joined_nil false xs = append-nil xs

-- seen from the other side
pub joined_swap : (left : Bool) (xs ys : List Item) → joined (not left) ys xs ≡ joined left xs ys
joined_swap true xs ys = refl
joined_swap false xs ys = refl

pub over_swap : (left : Bool) (p : ℕ) (x y : Tree) → over (not left) p y x ≡ over left p x y
over_swap true p x y = refl
over_swap false p x y = refl

-- the least key, where one child has another with the same least key in its place
pub lo_over : (left : Bool) (p : ℕ) (x y u : Tree) → lo u ≡ lo x → lo (over left p u y) ≡ lo (over left p x y)
lo_over true p x y u q = q
lo_over false p x y u q = refl

module _ (left : Bool) (p : ℕ) (x y : Tree) where
  pub leaves_over : leaves (over left p x y) ≡ joined left (leaves x) (leaves y)
  leaves_over = elim left as (λ (s : Bool). leaves (over s p x y) ≡ joined s (leaves x) (leaves y)) [ true ↦ refl | false ↦ refl ]

  pub place_over : place (over left p x y) ≡ p
  place_over = elim left as (λ (s : Bool). place (over s p x y) ≡ p) [ true ↦ refl | false ↦ refl ]

  pub height_over : height (over left p x y) ≡ max (height x) (height y) + 1
  height_over = elim left as (λ (s : Bool). height (over s p x y) ≡ max (height x) (height y) + 1) [ true ↦ refl | false ↦ omega arith ]

  pub size_over : size (over left p x y) ≡ size x + size y
  size_over = elim left as (λ (s : Bool). size (over s p x y) ≡ size x + size y) [ true ↦ refl | false ↦ omega arith ]

  pub top_over : top (over left p x y) ≡ max (top x) (top y)
  top_over = elim left as (λ (s : Bool). top (over s p x y) ≡ max (top x) (top y)) [ true ↦ refl | false ↦ omega arith ]

  pub low_over : low (over left p x y) ≡ min (low x) (low y)
  low_over = elim left as (λ (s : Bool). low (over s p x y) ≡ min (low x) (low y)) [ true ↦ refl | false ↦ omega arith ]

  pub weight_over : (w : (k e : ℕ) → ℕ) (v : ℕ → ℕ) → weight w v (over left p x y) ≡ v p + weight w v x + weight w v y
  weight_over w v = elim left as (λ (s : Bool). weight w v (over s p x y) ≡ v p + weight w v x + weight w v y) [ true ↦ refl | false ↦ omega arith ]

  -- what holds of all leaves, taken apart and put together
  pub all_over : (P : (k e : ℕ) → Type 0) → All P (over left p x y) → All P x × All P y
  all_over P = elim left as (λ (s : Bool). All P (over s p x y) → All P x × All P y) [ true ↦ λ h. h | false ↦ λ h. (h.1, h.0) ]

  pub over_all : (P : (k e : ℕ) → Type 0) → All P x → All P y → All P (over left p x y)
  over_all P h i = elim left as (λ (s : Bool). All P (over s p x y)) [ true ↦ (h, i) | false ↦ (i, h) ]

  pub over_even : Balanced x → Balanced y → height x ≤ height y + 1 → height y ≤ height x + 1 → Balanced (over left p x y)
  over_even h i u v = elim left as (λ (s : Bool). Balanced (over s p x y)) [ true ↦ (h, i, u, v) | false ↦ (i, h, v, u) ]

-- ---- the two children of a node, the one on the side named first
module _ (u : (k e : ℕ) → ℕ) (v : ℕ → ℕ) where
  pub weight_sides : (s : Bool) (l r : Tree) → weight u v (near s l r) + weight u v (far s l r) ≡ weight u v l + weight u v r
  weight_sides true l r = refl
  weight_sides false l r = omega arith

pub height_sides : (s : Bool) (l r : Tree) → max (height (near s l r)) (height (far s l r)) ≡ max (height l) (height r)
height_sides true l r = refl
height_sides false l r = omega arith

-- every node is over its two children, either way round
pub over_sides : (s : Bool) (p : ℕ) (l r : Tree) → node p l r ≡ over s p (near s l r) (far s l r)
over_sides true p l r = refl
over_sides false p l r = refl
