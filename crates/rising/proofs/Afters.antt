-- The tree after a change, by the side that the key leads to, and what it comes to in places and height.
use mathlib.Core.Path.{◌≡◌, refl, ◌∙◌}
use mathlib.Core.Bool.{Bool, true, false}
use Prim.Native.Nat.{ℕ, ◌+◌, ◌≤◌}
use native.Mathlib.Omega.{arith}
use lib.Dec.{ltb}
use borrow.Author.Tests.{lt-leb}
use Rattle.shape.specs.Tree.{Tree, node, height, lo, same, uses, Balanced}
use Rattle.shape.specs.Side.{over, near, far}
use Rattle.shape.specs.Arrange.{balance, remove}
use Rattle.shape.specs.ChangeLaws.{insert_side, remove_side, set_side, less_node, weight_insert, weight_remove, weight_set, height_insert, height_remove, height_set}
use Rattle.shape.specs.EvenLaws.{kids}
use Rattle.rising.specs.Changes.{Change, adding, cutting, ending, key_of, after, fresh}
use Rattle.rising.specs.Rises.{gone, Turned}

pub after_uses : (c : Change) (z : ℕ) (t : Tree) → (1 ≤ gone c → 1 ≤ height t) → uses z (after c t) ≤ uses z t + fresh c z
after_uses (adding k e q) z t h = omega (arith, weight_insert (λ j f. 0) (same z) k e q t)
after_uses (cutting k) z t h = omega (arith, weight_remove 0 (same z) k t (h (omega arith)))
after_uses (ending k e) z t h = omega (arith, weight_set 0 (same z) k e t)

pub after_height : (c : Change) (t : Tree) → height (after c t) ≤ height t + 1
after_height (adding k e q) t = height_insert k e q t
after_height (cutting k) t = omega (arith, height_remove k t)
after_height (ending k e) t = omega (arith, height_set k e t)

-- children whose heights differ by no more than 1 are left as they are
pub balance_flat : (v : ℕ) (a b : Tree) → height a ≤ height b + 1 → height b ≤ height a + 1 → balance v a b ≡ node v a b
unfolding balance
balance_flat v a b h i = rw (lt-leb (height b + 2) (height a) (omega arith), lt-leb (height a + 2) (height b) (omega arith))

over_node_lem : (s : Bool) (v : ℕ) (a b : Tree) → over s v a b ≡ node v (near s a b) (far s a b)
over_node_lem true v a b = refl
over_node_lem false v a b = refl

-- ---- at a node, with the side that the key leads to
module _ (c : Change) (v : ℕ) (l r : Tree) (s : Bool) (es : s ≡ ltb (key_of c) (lo r)) where
  abbrev A : Tree
  A = after c (near s l r)

  abbrev F : Tree
  F = far s l r

  pub after_side : Turned c → (1 ≤ gone c → 1 ≤ height (near s l r)) → after c (node v l r) ≡ balance v (near s A F) (far s A F)
  after_side t h = go c es t h
    where
      go : (c : Change) → s ≡ ltb (key_of c) (lo r) → Turned c → (1 ≤ gone c → 1 ≤ height (near s l r))
          → after c (node v l r) ≡ balance v (near s (after c (near s l r)) (far s l r)) (far s (after c (near s l r)) (far s l r))
      go (adding k e q) es t h = insert_side k v l r s es e q
      go (cutting k) es t h = remove_side k v l r s es ∙ less_node s v (near s l r) (remove k (near s l r)) (far s l r) (h (omega arith))
      go (ending k e) es t h = absurd t

  -- where the child is as high as it was
  flat_on : (b : Bool) (a f : Tree) → height a ≤ height f + 1 → height f ≤ height a + 1 → balance v (near b a f) (far b a f) ≡ node v (near b a f) (far b a f)
  flat_on true a f h i = balance_flat v a f h i
  flat_on false a f h i = balance_flat v f a i h

  pub after_flat : Balanced (node v l r) → height A ≡ height (near s l r) → (1 ≤ gone c → 1 ≤ height (near s l r)) → after c (node v l r) ≡ node v (near s A F) (far s A F)
  after_flat B q h = go c refl
    where
      flat : balance v (near s A F) (far s A F) ≡ node v (near s A F) (far s A F)
      flat = let K = kids s v l r B in flat_on s A F (omega (arith, K.over)) (omega (arith, K.under))

      go : (d : Change) → d ≡ c → after c (node v l r) ≡ node v (near s A F) (far s A F)
      go (adding k e q) i = after_side (rw (← i) tt) h ∙ flat
      go (cutting k) i = after_side (rw (← i) tt) h ∙ flat
      go (ending k e) i = rw (← i) (set_side k v l r s (rw (← i) at es) e ∙ over_node_lem s v _ _)
