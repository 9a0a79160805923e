-- What the three steps, and another floor, promise in memory: of every state that the memory holds, the memory after holds the state's own step.
use Rattle.std.specs.Prelude.{List, ◌≡◌, ℕ, ◌≤◌, length}
use Rattle.shape.specs.Tree.{Balanced, Ord, size}
use Rattle.shape.specs.Arrange.{above}
use Rattle.node.specs.Layout.{root_seat}
use Rattle.node.specs.Paths.{longest_way, Reaches}
use Rattle.tracing.specs.Ways.{Way}
use Rattle.rising.specs.Changes.{cutting, Changed}
use Rattle.state.specs.State.{State, shorten, add, drop, with_floor}
use Rattle.state.specs.Sound.{most_key}
use Rattle.state.specs.Places.{Placed}
use Rattle.memory.specs.Holds.{Holds, After}

-- the memory holds a state whose places are accounted for, with a balanced tree
pub record Link (m : List ℕ) (s : State) : Type 0 where
  pub placed : Placed s
  pub even : Balanced s.tree
  pub holds : Holds m s

abbrev pub Some : List ℕ → Type 0
Some m = (s : State) × Link m s

-- a way is noted from the root, down to a tree that has a leaf of the key and the end
pub record Pointed (m ws : List ℕ) (d k e : ℕ) : Type 0 where
  pub long : longest_way ≤ length ws
  pub reaches : Reaches m root_seat d ws k e

-- of a link with rising keys
pub record Noting (m : List ℕ) (s : State) (ws : List ℕ) (d k : ℕ) : Type 0 where
  pub link : Link m s
  pub ordered : Ord 0 most_key s.tree
  pub end : ℕ
  pub pointed : Pointed m ws d k end

abbrev pub Noted : List ℕ → (d k : ℕ) → List ℕ → Type 0
Noted ws d k m = (s : State) × Noting m s ws d k

-- one with room for a void more, and one with a void that may go
abbrev pub Roomy : List ℕ → Type 0
Roomy m = (s : State) × Link m s × (size s.tree ≤ s.settings.room)

-- and the way that the key leads is noted, down to a leaf
abbrev pub Led : List ℕ → (d k : ℕ) → List ℕ → Type 0
Led ws d k m = (s : State) × Link m s × (size s.tree ≤ s.settings.room) × Way m root_seat k d ws

abbrev pub Several : List ℕ → Type 0
Several m = (s : State) × Link m s × (2 ≤ size s.tree)

abbrev pub Shortens : (k e : ℕ) → (m m' : List ℕ) → Type 0
Shortens k e m m' = (s : State) → Link m s → After m m' (shorten s k e)

abbrev pub Adds : (k e : ℕ) → (m m' : List ℕ) → Type 0
Adds k e m m' = (s : State) → Link m s → After m m' (add s k e)

abbrev pub Drops : (k : ℕ) → (m m' : List ℕ) → Type 0
Drops k m m' = (s : State) → Link m s → After m m' (drop s k)

-- the memory after a void of the key was taken out of the tree of s, which m0 holds; q is the place that came free
pub record Removal (q : ℕ) (m0 : List ℕ) (s : State) (k : ℕ) (m : List ℕ) : Type 0 where
  pub link : Link m0 s
  pub two : 2 ≤ size s.tree
  pub free : q ≡ above k s.tree
  pub cut : Changed (cutting k) root_seat s.tree m0 m

abbrev pub CutOut : (q : ℕ) → List ℕ → Type 0
CutOut q m = (m0 : List ℕ) × (s : State) × (k : ℕ) × Removal q m0 s k m

abbrev pub GivesBack : (q : ℕ) → (m m' : List ℕ) → Type 0
GivesBack q m m' = (m0 : List ℕ) (s : State) (k : ℕ) → Removal q m0 s k m → After m0 m' (drop s k)

abbrev pub Refloors : (moment : ℕ) → (m m' : List ℕ) → Type 0
Refloors moment m m' = (s : State) → Link m s → After m m' (with_floor s moment)
