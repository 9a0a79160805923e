-- Each place of a tree with rising keys is used once: that is proved here, so that nobody has to check it.
-- At a place of a tree is a node whose least key is in the tree's range, and that is lower than the tree.
use mathlib.Core.Path.{◌≡◌, ap, ◌∙◌}
use mathlib.Core.List.{List}
use Prim.Native.Nat.{ℕ, ◌+◌, ◌*◌, ◌<◌, ◌≤◌}
use native.Mathlib.Decide.{dec_lt}
use native.Mathlib.Omega.{arith}
use Rattle.shape.specs.Tree.{Tree, leaf, node, height, lo, Ord, same, uses, Once}
use Rattle.shape.specs.TreeLaws.{lo_in}
use Rattle.node.specs.declared.Node.{Node}
use Rattle.node.specs.Layout.{node_at}
use Rattle.node.specs.Rep.{Stands}
use Rattle.shape.specs.PlaceLaws.{same_is, same_most}
use Rattle.node.proofs.Reps.{seen, left_stands, right_stands}

-- what the memory has at a place of the tree, on its left seat
record Inside (m : List ℕ) (x a b : ℕ) (t : Tree) : Type 0 where
  from : a ≤ (node_at m (8 * x)).lo
  to : (node_at m (8 * x)).lo < b
  high : (node_at m (8 * x)).height < height t

-- at the place of the root's children: its left child
record Own (m : List ℕ) (x : ℕ) (l : Tree) : Type 0 where
  least : (node_at m (8 * x)).lo ≡ lo l
  tall : (node_at m (8 * x)).height ≡ height l

own : (m : List ℕ) (s q x : ℕ) (l r : Tree) → Stands m s (node q l r) → x ≡ q → Own m x l
own m s q x l r f e =
    let g = ap (λ (y : ℕ). node_at m (8 * y)) e ∙ seen (left_stands f) in
    record { least = ap (λ (n : Node). n.lo) g; tall = ap (λ (n : Node). n.height) g }

inside : (m : List ℕ) (s x a b : ℕ) (t : Tree) → Stands m s t → Ord a b t → 1 ≤ uses x t → Inside m x a b t
inside m s x a b (leaf k e) f o h = absurd (omega arith)
inside m s x a b (node q l r) f o h =
    let u = lo_in a (lo r) l o.0 in
    let v = lo_in (lo r) b r o.1 in
    elim (dec_lt 0 (uses x l)) [
      | yes y ↦ let i = inside m (8 * q) x a (lo r) l (left_stands f) o.0 y in record { from = i.from; to = omega (arith, i.to); high = omega (arith, i.high) }
      | no y ↦ elim (dec_lt 0 (uses x r)) [
        | yes z ↦ let i = inside m (8 * q + 4) x (lo r) b r (right_stands f) o.1 z in record { from = omega (arith, i.from); to = i.to; high = omega (arith, i.high) }
        | no z ↦ let w = own m s q x l r f (same_is x q (omega arith)) in
            record { from = omega (arith, w.least); to = omega (arith, w.least); high = omega (arith, w.tall) }
      ]
    ]

pub stands_once : (m : List ℕ) (s a b : ℕ) (t : Tree) → Stands m s t → Ord a b t → Once t
stands_once m s a b (leaf k e) f o x = omega arith
stands_once m s a b (node q l r) f o x =
    let u = same_most x q in
    let v = stands_once m (8 * q) a (lo r) l (left_stands f) o.0 x in
    let w = stands_once m (8 * q + 4) (lo r) b r (right_stands f) o.1 x in
    let c = lo_in a (lo r) l o.0 in
    let fl : 1 ≤ uses x l → Inside m x a (lo r) l = inside m (8 * q) x a (lo r) l (left_stands f) o.0 in
    let fr : 1 ≤ uses x r → Inside m x (lo r) b r = inside m (8 * q + 4) x (lo r) b r (right_stands f) o.1 in
    let root : 1 ≤ same x q → Own m x l = λ h. own m s q x l r f (same_is x q h) in
    elim (dec_lt 0 (uses x l)) [
      | yes y ↦ let i = fl y in elim (dec_lt 0 (uses x r)) [
        | yes z ↦ let j = fr z in absurd (omega (arith, i.to, j.from))
        | no z ↦ elim (dec_lt 0 (same x q)) [ yes k ↦ absurd (omega (arith, (root k).tall, i.high)) | no k ↦ omega arith ]
      ]
      | no y ↦ elim (dec_lt 0 (uses x r)) [
        | yes z ↦ let j = fr z in elim (dec_lt 0 (same x q)) [ yes k ↦ absurd (omega (arith, (root k).least, j.from)) | no k ↦ omega arith ]
        | no z ↦ omega arith
      ]
    ]
