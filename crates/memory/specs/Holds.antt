-- Which state a memory holds. Every byte of the need is fixed by the state: no word of it is left open.
use Rattle.std.specs.Prelude.{◌≡◌, List, [], ◌∷◌, ℕ, ◌+◌, ◌*◌, ◌/◌, ◌≤◌, length, get_or}
use Rattle.node.specs.declared.Node.{Node}
use Rattle.numbers.specs.Words.{word, store}
use Rattle.shape.specs.Tree.{same}
use Rattle.node.specs.Layout.{root_seat, node_at, leaf_node, Kept, most_places}
use Rattle.node.specs.Rep.{Stands}
use Rattle.state.specs.State.{State, first, places}
use Rattle.state.specs.Sound.{Sound}
use Rattle.memory.specs.Header.{header, Heads, need}

-- a spare place: its left node is marked by a height that no tree has, with the number of spare ones after it and the next of them;
-- its right one is all 0
abbrev pub spare_mark : ℕ
spare_mark = 2147483648

abbrev pub spare_node : (after next : ℕ) → Node
spare_node k p = record { height = spare_mark; lo = 0; top = 0; low = k; place = p }

-- the spare places, one after the other
unfoldable pub Spares : List ℕ → List ℕ → Type 0
Spares m [] = Unit {0}
Spares m (p ∷ ps) = (node_at m (8 * p) ≡ spare_node (length ps) (first ps)) × (node_at m (8 * p + 4) ≡ leaf_node 0 0) × Spares m ps

-- m' is m with the place p in front of the k spare ones
pub record Gives (p k : ℕ) (m m' : List ℕ) : Type 0 where
  pub left : node_at m' (8 * p) ≡ spare_node k (word m 7)
  pub right : node_at m' (8 * p + 4) ≡ leaf_node 0 0
  pub kept : Kept (λ z. same (z / 8) p) (store m 7 p) m'

-- the memory holds the state
pub record Holds (m : List ℕ) (s : State) : Type 0 where
  pub small : places s.settings.room ≤ most_places
  pub lines : length s.settings.delays ≤ 16
  pub long : need s.settings.room ≤ length m
  pub heads : Heads m (header s)
  pub stands : Stands m root_seat s.tree
  pub spare : Spares m s.spares

-- a whole link
abbrev pub Whole : List ℕ → Type 0
Whole m = (s : State) × Sound s × Holds m s

-- "Memory past what that room needs is never written": past n bytes m' is m, and as long
pub record Past (n : ℕ) (m m' : List ℕ) : Type 0 where
  pub len : length m' ≡ length m
  pub byte : (b : ℕ) → n ≤ b → get_or m' b 0 ≡ get_or m b 0

-- m has become a memory of s, and past the need nothing has changed
pub record After (m m' : List ℕ) (s : State) : Type 0 where
  pub holds : Holds m' s
  pub past : Past (need s.settings.room) m m'
