-- A link as the memory holds it: settings, floor, the tree of its voids and the places that are spare.
-- Three steps change it: another end for a void, a void more, a void less. Each fixes every place.
use Rattle.std.specs.Prelude.{List, [], ◌∷◌, ◌++◌, ℕ, ◌+◌}
use Rattle.rule.specs.Settings.{Settings}
use Rattle.rule.specs.Voids.{Void, Meaning}
use Rattle.rule.specs.Key.{start_of, channel_of}
use Rattle.shape.specs.Tree.{Tree, leaf, node}
use Rattle.shape.specs.Arrange.{insert, remove, above, set_end}

pub record State : Type 0 where
  pub settings : Settings
  pub floor : ℕ
  pub tree : Tree
  pub spares : List ℕ

-- the places of a link: the root's, which is 0, and one more than a full tree has nodes, so that a booking may add a void before it drops one
abbrev pub places : (room : ℕ) → ℕ
places room = room + 1

-- ---- what a state means: its voids, from left to right
abbrev pub voids_of : Tree → List Void
voids_of (leaf k e) = record { channel = channel_of k; start = start_of k; end = e } ∷ []
voids_of (node p l r) = voids_of l ++ voids_of r

abbrev pub meaning : State → Meaning
meaning s = record { settings = s.settings; floor = s.floor; voids = voids_of s.tree }

-- ---- the spare places: the first is the next to be used
abbrev pub first : List ℕ → ℕ
first [] = 0
first (p ∷ ps) = p

abbrev pub rest : List ℕ → List ℕ
rest [] = []
rest (p ∷ ps) = ps

-- ---- the three steps
abbrev pub with_tree : State → Tree → List ℕ → State
with_tree s t ps = record { settings = s.settings; floor = s.floor; tree = t; spares = ps }

-- the void of the key ends at e
unfoldable pub shorten : State → (k e : ℕ) → State
shorten s k e = with_tree s (set_end k e s.tree) s.spares

-- one void more, under a new node whose children stand at the first spare place
unfoldable pub add : State → (k e : ℕ) → State
add s k e = with_tree s (insert k e (first s.spares) s.tree) (rest s.spares)

-- one void less; the place of the node above it becomes the first spare one
unfoldable pub drop : State → (k : ℕ) → State
drop s k = with_tree s (remove k s.tree) (above k s.tree ∷ s.spares)

-- another floor
abbrev pub with_floor : State → ℕ → State
with_floor s moment = record { settings = s.settings; floor = moment; tree = s.tree; spares = s.spares }
