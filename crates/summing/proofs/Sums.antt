-- What is read at a seat.
use mathlib.Core.Path.{◌≡◌}
use mathlib.Core.List.{List}
use Prim.Native.Nat.{ℕ}
use Rattle.node.specs.declared.Node.{Node}
use Rattle.node.specs.Layout.{node_at}

-- a node that was read at a seat, for which its number was worked out
pub read_at : (m : List ℕ) {n : Node} {s t : ℕ} → s ≡ t → n ≡ node_at m s → n ≡ node_at m t
read_at m e r = rw e at r
