-- To which side of a node a key leads, and what that says of the node above the leaf.
use Rattle.std.specs.Prelude.{◌≡◌, ◌≢◌, Bool, true, false, ℕ, ◌≤◌, ◌<◌, leb}
use Rattle.std.proofs.Common.{inl, inr}
use Rattle.shape.specs.Tree.{Tree, node, lo, Ord, All}
use Rattle.shape.specs.TreeLaws.{ord_other}
use Rattle.shape.specs.Side.{over}
use Rattle.shape.specs.Arrange.{or_above, above}

-- at a node x over t and s, t on the side named, the key k leads to t
pub record Leads (left : Bool) (k x : ℕ) (t s : Tree) : Type 0 where
  pub knot : above k (over left x t s) ≡ or_above x t (above k t)
  pub beside : All (λ j e. j ≢ k) s

module _ (a b k x : ℕ) (l r : Tree) (o : Ord a b (node x l r)) where
  pub leads_right : (lo r ≤ k) × (leb (lo r) k ≡ true) → Leads false k x r l
  unfolding above
  leads_right y = record { knot = rw y.1; beside = ord_other a (lo r) k l o.0 (inr y.0) }

  pub leads_left : (k < lo r) × (leb (lo r) k ≡ false) → Leads true k x l r
  unfolding above
  leads_left y = record { knot = rw y.1; beside = ord_other (lo r) b k r o.1 (inl y.0) }
