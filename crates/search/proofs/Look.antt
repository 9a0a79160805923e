-- What the place of the node at a seat tells of the tree that stands there: a leaf, where it is 0, or an inner node over two
-- trees that stand at its two seats. A side is true for the left (crates/shape/specs/Side.antt).
use mathlib.Core.Path.{◌≡◌, refl, sym, ap, ◌∙◌}
use mathlib.Core.Bool.{Bool, true, false, not}
use mathlib.Core.List.{List}
use Prim.Native.Nat.{ℕ, ◌+◌, ◌*◌, ◌%◌, ◌<◌, max}
use native.Mathlib.Omega.{arith}
use Rattle.numbers.specs.Case.{pick}
use Rattle.shape.specs.Tree.{Tree, leaf, node, height, lo, top}
use Rattle.shape.specs.Side.{near}
use Rattle.node.specs.declared.Node.{Node}
use Rattle.node.specs.Layout.{Within, node_at, home}
use Rattle.node.specs.Rep.{Stands}
use Rattle.node.proofs.Reps.{seen, within, tall, left_stands, right_stands}
use Rattle.node.proofs.Seats.{near_of, near_stands}

abbrev place_of : Node → ℕ
place_of n = n.place

-- t, whose children's place is q, is an inner node
pub record Inner (m : List ℕ) (q : ℕ) (t : Tree) : Type 0 where
  pub label : ℕ
  pub at : q ≡ 8 * label
  pub left : Tree
  pub right : Tree
  pub is : t ≡ node label left right
  pub child : (b : Bool) → Stands m (near_of b q) (near b left right)
  pub lower : (b : Bool) → height (near b left right) < height t

module _ {m : List ℕ} {s q : ℕ} (e : q ≡ (node_at m s).place) where
  pub leaf_here : q ≡ 0 → (t : Tree) → Stands m s t → t ≡ leaf (node_at m s).lo (node_at m s).top
  leaf_here h (leaf k g) f = rw (seen f)
  leaf_here h (node p x y) f = let w = within (left_stands f) in absurd (omega (arith, ap place_of (seen f), w.1))

  pub inner_here : (q ≡ 0 → ⊥) → (t : Tree) → Stands m s t → Inner m q t
  inner_here h (leaf k g) f = absurd (h (e ∙ ap place_of (seen f)))
  inner_here h (node p x y) f =
      record {
        label = p;
        at = at;
        left = x;
        right = y;
        is = refl;
        child = λ b. rw at (near_stands b p (left_stands f) (right_stands f));
        lower = λ b. less b;
      }
    where
      at : q ≡ 8 * p
      at = e ∙ ap place_of (seen f)

      less : (b : Bool) → height (near b x y) < max (height x) (height y) + 1
      less true = omega arith
      less false = omega arith

  pub small_here : (t : Tree) → Stands m s t → q < 65536
  small_here (leaf k g) f = omega (arith, e, ap place_of (seen f))
  small_here (node p x y) f = let w = within (left_stands f) in omega (arith, e, ap place_of (seen f), w.2)

  -- so it is by its height, too
  pub flat_here : q ≡ 0 → (t : Tree) → Stands m s t → (node_at m s).height ≡ 0
  flat_here h t f = tall f ∙ ap height (leaf_here h t f)

  pub high_here : (q ≡ 0 → ⊥) → (t : Tree) → Stands m s t → (node_at m s).height ≡ 0 → ⊥
  high_here h t f z = omega (arith, z, tall f, (inner_here h t f).lower true)

-- what a node says of the tree below it
module _ {m : List ℕ} {s : ℕ} {n : Node} {t : Tree} (e : n ≡ node_at m s) (f : Stands m s t) where
  pub top_here : n.top ≡ top t
  top_here = ap (λ (a : Node). a.top) (e ∙ seen f)

  pub lo_here : n.lo ≡ lo t
  lo_here = ap (λ (a : Node). a.lo) (e ∙ seen f)

-- a child stands in the memory too, at the seat x, and is less high
module _ (b : Bool) {m : List ℕ} {s q : ℕ} (e : q ≡ (node_at m s).place) (h : q ≡ 0 → ⊥) (x : ℕ) (ex : x ≡ near_of b q) where
  pub child_within : (t : Tree) → Stands m s t → Within m x
  child_within t f = rw ex (within ((inner_here e h t f).child b))

  pub child_lower : (t : Tree) → Stands m s t → (node_at m x).height < (node_at m s).height
  child_lower t f = let i = inner_here e h t f in omega (arith, ap (λ (a : ℕ). (node_at m a).height) ex, tall (i.child b), i.lower b, tall f)

-- the seat of a child, by its place
pub child_is : (b : Bool) (x q l : ℕ) → x ≡ near_of b q → q ≡ 8 * l → (home x ≡ q) × (x % 4 ≡ 0)
child_is true x q l ex e = omega arith
child_is false x q l ex e = omega arith

-- of the nodes y on the right and x on the left, the place of the one gone to
pub place_next : (m : List ℕ) (q : ℕ) (b : Bool) (p : ℕ) → p ≡ near_of false q → (y : Node) → y ≡ node_at m p → (l : ℕ) → l ≡ near_of true q → (x : Node) → x ≡ node_at m l
    → (at : ℕ) → at ≡ near_of (not b) q → (z : ℕ) → z ≡ pick b y.place x.place → z ≡ (node_at m at).place
place_next m q true p ep y ey l el x ex at ea z ez = ez ∙ ap place_of (ey ∙ ap (node_at m) (ep ∙ sym ea))
place_next m q false p ep y ey l el x ex at ea z ez = ez ∙ ap place_of (ex ∙ ap (node_at m) (el ∙ sym ea))
