-- A tree that stands in a memory with nothing else at its places: each of them is used once, and it is balanced and low.
-- What every way down asks.
use Rattle.std.specs.Prelude.{List, ℕ, ◌+◌, ◌/◌, ◌≤◌, ◌<◌}
use Rattle.shape.specs.Tree.{Tree, height, same, uses, Balanced}
use Rattle.node.specs.Paths.{longest_way}
use Rattle.node.specs.Rep.{Stands}

-- the tree stands at the seat t, balanced and low; no place is used twice: not by the tree, nor by t, nor by the further places that n counts
pub record Standing (n : ℕ → ℕ) (m : List ℕ) (t : ℕ) (tr : Tree) : Type 0 where
  pub stands : Stands m t tr
  pub once : (z : ℕ) → same z (t / 8) + uses z tr + n z ≤ 1
  pub even : Balanced tr
  pub low : height tr < longest_way

-- and there is no further place
abbrev pub Sole : List ℕ → (t : ℕ) → Tree → Type 0
Sole m t tr = Standing (λ z. 0) m t tr

abbrev pub Alone : List ℕ → ℕ → Type 0
Alone m t = (tr : Tree) × Sole m t tr
