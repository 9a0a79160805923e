-- A way down a tree in lent memory, as a list of seats: each is a child of the one before it.
-- Whoever goes down may note it, and who goes up again needs no second search.
use Rattle.std.specs.Prelude.{◌≡◌, List, ℕ, suc, ◌%◌, ◌<◌, length, get_or}
use Rattle.shape.specs.Tree.{Tree, In}
use Rattle.node.specs.Layout.{node_at, home}
use Rattle.node.specs.Rep.{Stands}

-- a way from the root down to a leaf has at most this many seats (a link's trees are lower)
abbrev pub longest_way : ℕ
longest_way = 32

-- x is a seat of the place where the children of the inner node at w are
pub record Child (m : List ℕ) (w x : ℕ) : Type 0 where
  pub inner : (node_at m w).height ≡ 0 → ⊥
  pub is : home x ≡ (node_at m w).place
  pub seat : x % 4 ≡ 0

-- the first d + 1 seats of the list go down from s
pub record Down (m : List ℕ) (s d : ℕ) (ws : List ℕ) : Type 0 where
  pub long : d < length ws
  pub first : get_or ws 0 0 ≡ s
  pub steps : (i : ℕ) → i < d → Child m (get_or ws i 0) (get_or ws (suc i) 0)

-- and to a tree that has a leaf of the key k and the end e
pub record Reaches (m : List ℕ) (s d : ℕ) (ws : List ℕ) (k e : ℕ) : Type 0 where
  pub down : Down m s d ws
  pub sub : Tree
  pub stands : Stands m (get_or ws d 0) sub
  pub inside : In k e sub
