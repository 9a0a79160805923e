-- What the run keeps on the way: a tree of n voids stands at the root's seat, no place is used twice, and only places from 1 on and below n;
-- it is balanced.
use Rattle.std.specs.Prelude.{◌≡◌, List, ℕ, ◌+◌, ◌≤◌}
use Rattle.shape.specs.Tree.{Tree, size, same, uses, Balanced}
use Rattle.node.specs.Layout.{root_seat}
use Rattle.node.specs.Rep.{Stands}

-- the voids of the whole tree
abbrev pub voids : ℕ
voids = 2000

-- the bytes of a memory that has the root's seat and those of the places from 1 to 1,999
abbrev pub bytes : ℕ
bytes = 128192

pub record Grown (m : List ℕ) (n : ℕ) (t : Tree) : Type 0 where
  pub stands : Stands m root_seat t
  pub once : (z : ℕ) → same z 0 + uses z t ≤ 1
  pub free : (z : ℕ) → n ≤ z → uses z t ≡ 0
  pub even : Balanced t
  pub many : size t ≡ n

abbrev pub Has : List ℕ → (n : ℕ) → Type 0
Has m n = (t : Tree) × Grown m n t
