-- The two seats of a place, with the side as a parameter: what stands there, and what a node that was read says of them.
use mathlib.Core.Path.{◌≡◌, refl, sym, ap, ◌∙◌}
use mathlib.Core.Logic.{◌≢◌}
use mathlib.Core.Bool.{Bool, true, false}
use mathlib.Core.List.{List}
use Prim.Native.Nat.{ℕ, ◌+◌, ◌*◌, ◌/◌, ◌<◌, ◌≤◌, max}
use native.Mathlib.Omega.{arith}
use Rattle.shape.specs.Tree.{Tree, leaf, node, height, lo, same, uses}
use Rattle.shape.specs.Side.{over, near, far}
use Rattle.shape.specs.SideLaws.{height_sides, over_sides}
use Rattle.node.specs.declared.Node.{Node}
use Rattle.node.specs.Layout.{Within, node_at, Kept, Over, Copied}
use Rattle.node.specs.Rep.{node_of, Stands}
use Rattle.node.proofs.Reps.{seen, within, left_stands, right_stands, node_stands, stands_beside, copied_stands}

-- the seat on the side named, and the other, of a place whose left seat is w
abbrev pub near_of : Bool → ℕ → ℕ
near_of s w = near s w (w + 4)

abbrev pub far_of : Bool → ℕ → ℕ
far_of s w = far s w (w + 4)

-- of the place q
abbrev pub near_seat : Bool → ℕ → ℕ
near_seat s q = near_of s (8 * q)

abbrev pub far_seat : Bool → ℕ → ℕ
far_seat s q = far_of s (8 * q)

pub near_half : (s : Bool) (q : ℕ) → near_seat s q / 8 ≡ q
near_half true q = omega arith
near_half false q = omega arith

pub far_half : (s : Bool) (q : ℕ) → far_seat s q / 8 ≡ q
far_half true q = omega arith
far_half false q = omega arith

pub near_far : (s : Bool) (q : ℕ) → near_seat s q ≢ far_seat s q
near_far true q e = omega arith
near_far false q e = omega arith

-- as the code has them, by the number that says the place
pub near_is : (s : Bool) {w : ℕ} (q : ℕ) → w ≡ 8 * q → near_of s w ≡ near_seat s q
near_is s q e = rw e refl

pub far_is : (s : Bool) {w : ℕ} (q : ℕ) → w ≡ 8 * q → far_of s w ≡ far_seat s q
far_is s q e = rw e refl

-- ---- what stands there
pub near_stands : {m : List ℕ} {a b : Tree} (s : Bool) (q : ℕ) → Stands m (8 * q) a → Stands m (8 * q + 4) b → Stands m (near_seat s q) (near s a b)
near_stands true q f g = f
near_stands false q f g = g

pub far_stands : {m : List ℕ} {a b : Tree} (s : Bool) (q : ℕ) → Stands m (8 * q) a → Stands m (8 * q + 4) b → Stands m (far_seat s q) (far s a b)
far_stands true q f g = g
far_stands false q f g = f

-- a node written over the two, at a seat t of the place p
pub over_stands : {m m' : List ℕ} {t p q : ℕ} {a b : Tree} (s : Bool) → t / 8 ≡ p → Within m t → Over t (8 * q) m m'
    → Stands m (near_seat s q) a → Stands m (far_seat s q) b → p ≢ q → uses p a ≡ 0 → uses p b ≡ 0 → Stands m' t (over s q a b)
over_stands true h w o f g d za zb = node_stands w o f g (λ e. d (sym h ∙ e)) (rw h za) (rw h zb)
over_stands false h w o f g d za zb = node_stands w o g f (λ e. d (sym h ∙ e)) (rw h zb) (rw h za)

-- a tree at x that has no seat at the place p, where the seat t was written
pub stands_past : {m m' : List ℕ} {t p x : ℕ} {a : Tree} → t / 8 ≡ p → Kept (λ z. same z t) m m' → x ≢ t → uses p a ≡ 0 → Stands m x a → Stands m' x a
stands_past h k d z f = stands_beside k d (rw h z) f

-- and one that is copied there
pub copied_past : {m m' : List ℕ} {x t p : ℕ} {a : Tree} → t / 8 ≡ p → Copied x t m m' → Within m t → uses p a ≡ 0 → Stands m x a → Stands m' t a
copied_past h c w z f = copied_stands c w (rw h z) f

-- ---- what a node that was read says of the tree at its seat
module _ (m : List ℕ) (t : ℕ) (n : Node) (en : n ≡ node_at m t) where
  pub reads : {tr : Tree} → Stands m t tr → n ≡ node_of tr
  reads f = en ∙ seen f

  pub reads_height : {tr : Tree} → Stands m t tr → n.height ≡ height tr
  reads_height f = ap (λ (y : Node). y.height) (reads f)

  -- an inner node's children
  pub record Children (s : Bool) (x y q : ℕ) (l r : Tree) : Type 0 where
    pub at : n.place ≡ 8 * q
    pub near_at : Stands m x (near s l r)
    pub far_at : Stands m y (far s l r)
    pub split : (node_at m (n.place + 4)).lo ≡ lo r
    pub high : max (height (near s l r)) (height (far s l r)) + 1 ≡ n.height

  pub children : (s : Bool) (x y q : ℕ) (l r : Tree) → x ≡ near_of s n.place → y ≡ far_of s n.place → Stands m t (node q l r) → Children s x y q l r
  children s x y q l r ex ey f =
      record {
        at = at;
        near_at = rw (ex, at) (near_stands s q (left_stands f) (right_stands f));
        far_at = rw (ey, at) (far_stands s q (left_stands f) (right_stands f));
        split = rw at (ap (λ (z : Node). z.lo) (seen (right_stands f)));
        high = omega (arith, height_sides s l r, ap (λ (z : Node). z.height) e);
      }
    where
      e : n ≡ node_of (node q l r)
      e = reads f

      at : n.place ≡ 8 * q
      at = ap (λ (z : Node). z.place) e

  -- a place that a node in memory has is small
  pub small_place : {tr : Tree} → Stands m t tr → n.place < 65536
  small_place {tr} f = go tr f
    where
      go : (u : Tree) → Stands m t u → n.place < 65536
      go (leaf k e) g = omega (arith, ap (λ (z : Node). z.place) (reads g))
      go (node q l r) g = let w = within (left_stands g) in omega (arith, ap (λ (z : Node). z.place) (reads g), w.2)

-- ---- a tree that is no leaf, at t, taken apart: its children stand at place q, which its node says by p
pub record Parts (m : List ℕ) (s : Bool) (p : ℕ) (t : Tree) : Type 0 where
  pub q : ℕ
  pub at : p ≡ 8 * q
  pub a : Tree
  pub c : Tree
  pub is : t ≡ over s q a c
  pub a_at : Stands m (near_seat s q) a
  pub c_at : Stands m (far_seat s q) c

pub parts : (m : List ℕ) (s : Bool) (t : ℕ) (n : Node) → n ≡ node_at m t → 1 ≤ n.height → (tr : Tree) → Stands m t tr → Parts m s n.place tr
parts m s t n e h (leaf k v) f = absurd (omega (arith, reads_height m t n e f))
parts m s t n e h (node q l r) f =
    record {
      q = q;
      at = ap (λ (z : Node). z.place) (reads m t n e f);
      a = near s l r;
      c = far s l r;
      is = over_sides s q l r;
      a_at = near_stands s q (left_stands f) (right_stands f);
      c_at = far_stands s q (left_stands f) (right_stands f);
    }
