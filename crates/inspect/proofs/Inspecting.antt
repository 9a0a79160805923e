-- What the tests of one node say of it, for the survey: that it is a leaf's, or over two others, and that a leaf's words are small.
use mathlib.Core.Path.{◌≡◌, refl, ap, ◌∙◌}
use mathlib.Core.Bool.{Bool, true}
use mathlib.Core.List.{List}
use Prim.Native.Nat.{ℕ, ◌+◌, ◌<◌, ◌≤◌, min, max}
use native.Mathlib.Omega.{arith}
use Rattle.node.specs.declared.Node.{Node}
use Rattle.node.specs.Layout.{leaf_node, over_node}
use Rattle.node.proofs.Nodes.{fields}
use Rattle.settled.specs.Says.{Says}
use Rattle.settled.proofs.Saying.{says_yes, says_map}
use Rattle.inspect.specs.Inspect.{Single, Near, Joined, Leaf}

-- ---- a leaf's node, word by word
pub record LeafWords (k : Node) : Type 0 where
  pub height : k.height ≡ 0
  pub low : k.low ≡ k.top
  pub place : k.place ≡ 0

pub says_single : (k : Node) (b : Bool) → Says (LeafWords k) b → Says (Single k) b
says_single k b =
    says_map (LeafWords k) (Single k) b (λ w. fields k ∙ (rw (w.height, w.low, w.place)))
    (λ s. record { height = ap (λ (n : Node). n.height) s; low = ap (λ (n : Node). n.low) s; place = ap (λ (n : Node). n.place) s })

pub leaf_single : (k : Node) (i e : ℕ) → k ≡ leaf_node i e → Single k
leaf_single k i e h = rw h refl

-- ---- and the node over two others
pub record OverWords (k x y : Node) : Type 0 where
  pub height : k.height ≡ max x.height y.height + 1
  pub lo : k.lo ≡ x.lo
  pub top : k.top ≡ max x.top y.top
  pub low : k.low ≡ min x.low y.low
  pub near : Near x.height y.height

pub says_joined : (k x y : Node) (b : Bool) → Says (OverWords k x y) b → Says (Joined k x y) b
says_joined k x y b =
    says_map (OverWords k x y) (Joined k x y) b (λ w. record { over = fields k ∙ (rw (w.height, w.lo, w.top, w.low)); near = w.near })
    (λ j. record {
      height = ap (λ (n : Node). n.height) j.over;
      lo = ap (λ (n : Node). n.lo) j.over;
      top = ap (λ (n : Node). n.top) j.over;
      low = ap (λ (n : Node). n.low) j.over;
      near = j.near;
    })

pub over_joined : (k x y : Node) (q : ℕ) → k ≡ over_node x y q → Near x.height y.height → Joined k x y
over_joined k x y q h j = rw h (record { over = refl; near = j })

-- a leaf's key fits its word, with room for one more, and so does its end
pub leaf_fits : (c f a : ℕ) (x y : List ℕ) (k : Node) (b : Bool) → Leaf c f a x y k b → b ≡ true → (k.lo < 288230376151711744) × (k.top ≤ 281474976710656)
leaf_fits c f a x y k b l e =
    let v = (says_yes _ b l.says e).1.lawful in
    omega (arith, v.some, v.most)
