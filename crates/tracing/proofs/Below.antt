-- Going down a tree whose places are used once: the tree on the side that a node leads to stands alone again, and is lower.
-- Every way down takes these steps, and every way up goes back over them.
use mathlib.Core.Path.{◌≡◌, ap, ◌∙◌}
use mathlib.Core.Bool.{Bool}
use mathlib.Core.List.{List}
use Prim.Native.Nat.{ℕ, ◌*◌, ◌/◌, ◌<◌}
use native.Mathlib.Omega.{arith}
use Rattle.shape.specs.Tree.{Tree, leaf, node, same}
use Rattle.shape.specs.Side.{near}
use Rattle.shape.specs.SideLaws.{weight_sides}
use Rattle.shape.specs.EvenLaws.{kids}
use Rattle.node.specs.declared.Node.{Node}
use Rattle.node.specs.Layout.{Within, node_at}
use Rattle.node.proofs.Reps.{tall, within}
use Rattle.node.proofs.Seats.{near_of, far_of, near_half, near_is, reads_height, Children, children}
use Rattle.tracing.specs.Alone.{Sole, Alone}

pub within_alone : (m : List ℕ) (t : ℕ) → Alone m t → Within m t
within_alone m t g = within g.1.stands

-- ---- at an inner node, with a side
module _ (m : List ℕ) (t : ℕ) (n : Node) (e : n ≡ node_at m t) (nz : n.height ≡ 0 → ⊥)
    (s : Bool) (x y : ℕ) (ex : x ≡ near_of s n.place) (ey : y ≡ far_of s n.place) where
  pub below : (q : ℕ) (l r : Tree) → Sole m t (node q l r) → Children m t n e s x y q l r
  below q l r g = children m t n e s x y q l r ex ey g.stands

  -- the near seat is at the node's place
  half : (q : ℕ) → n.place ≡ 8 * q → x / 8 ≡ q
  half q h = ap (λ (z : ℕ). z / 8) (ex ∙ near_is s q h) ∙ near_half s q

  pub sole_near : (q : ℕ) (l r : Tree) → Sole m t (node q l r) → Sole m x (near s l r)
  sole_near q l r g =
      let c = below q l r g in
      record {
        stands = c.near_at;
        once = λ z. rw (half q c.at) (omega (arith, g.once z, weight_sides (λ k e. 0) (same z) s l r));
        even = (kids s q l r g.even).first;
        low = omega (arith, g.low, c.high, reads_height m t n e g.stands);
      }

  -- the seat gone to: a tree stands there alone, and it is lower; another stands on the other side
  pub record Down : Type 0 where
    pub near_alone : Alone m x
    pub lower : (node_at m x).height < (node_at m t).height
    pub far_in : Within m y

  pub down : Alone m t → Down
  down g = go g.0 g.1
    where
      go : (tr : Tree) → Sole m t tr → Down
      go (leaf j v) f = absurd (nz (reads_height m t n e f.stands))
      go (node q l r) f =
          let c = below q l r f in
          record {
            near_alone = (near s l r, sole_near q l r f);
            lower = omega (arith, tall c.near_at, c.high, reads_height m t n e f.stands, tall f.stands);
            far_in = within c.far_at;
          }
