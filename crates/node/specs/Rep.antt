-- A tree that stands in lent memory: at each of its seats, the node that sums up the tree there.
-- Everything above speaks of `Stands m s t`, the tree t at the seat s, and of `Kept`.
use Rattle.std.specs.Prelude.{◌≡◌, List, ℕ, zero, suc, ◌+◌, ◌*◌, ◌/◌, eqb}
use Rattle.numbers.specs.Case.{pick}
use Rattle.shape.specs.Tree.{Tree, leaf, node, place, height, lo, top, low}
use Rattle.node.specs.declared.Node.{Node}
use Rattle.node.specs.Layout.{Within, node_at}

-- the node of a tree, with the left seat of its children's place
abbrev pub node_of : Tree → Node
node_of t = record { height = height t; lo = lo t; top = top t; low = low t; place = 8 * place t }

-- the tree is in the memory, its own node at seat s and the children of each node at that node's place
unfoldable pub Rep : List ℕ → (s : ℕ) → Tree → Type 0
Rep m s (leaf k e) = Within m s × (node_at m s ≡ node_of (leaf k e))
Rep m s (node q l r) = Within m s × (node_at m s ≡ node_of (node q l r)) × Rep m (8 * q) l × Rep m (8 * q + 4) r

pub record Stands (m : List ℕ) (s : ℕ) (t : Tree) : Type 0 where
  pub rep : Rep m s t

-- the tree that the memory has at seat s, at most k high
unfoldable pub tree_at : (k : ℕ) → List ℕ → (s : ℕ) → Tree
tree_at zero m s = leaf (node_at m s).lo (node_at m s).top
tree_at (suc k) m s =
    pick (eqb (node_at m s).height 0) (leaf (node_at m s).lo (node_at m s).top)
    (node ((node_at m s).place / 8) (tree_at k m (node_at m s).place) (tree_at k m ((node_at m s).place + 4)))
