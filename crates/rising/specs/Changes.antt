-- A change of the tree: a void put in, taken out, or given another end. What it asks of the tree at a seat, and what it promises:
-- the tree after is Arrange's, at the same seat, and which nodes alone may have been written.
use Rattle.std.specs.Prelude.{List, ℕ, ◌+◌, ◌/◌}
use Rattle.shape.specs.Tree.{Tree, same, uses}
use Rattle.shape.specs.Arrange.{insert, remove, set_end}
use Rattle.node.specs.Layout.{Kept}
use Rattle.node.specs.Rep.{Stands}
use Rattle.tracing.specs.Alone.{Standing}

pub data Change : Type 0 where
  adding : (key end place : ℕ) → Change
  cutting : (key : ℕ) → Change
  ending : (key end : ℕ) → Change

abbrev pub key_of : Change → ℕ
key_of (adding k e q) = k
key_of (cutting k) = k
key_of (ending k e) = k

-- the tree after
abbrev pub after : Change → Tree → Tree
after (adding k e q) t = insert k e q t
after (cutting k) t = remove k t
after (ending k e) t = set_end k e t

-- the place that it takes: 1 for that one, else 0
abbrev pub fresh : Change → ℕ → ℕ
fresh (adding k e q) z = same z q
fresh (cutting k) z = 0
fresh (ending k e) z = 0

-- ---- what a change asks: a tree stands at t, balanced and low; no place is used twice, and t and the place taken are at none of them
abbrev pub Begun : Change → List ℕ → (t : ℕ) → Tree → Type 0
Begun c m t tr = Standing (fresh c) m t tr

abbrev pub Ready : Change → List ℕ → (t : ℕ) → Type 0
Ready c m t = (tr : Tree) × Begun c m t tr

-- ---- what it promises
pub record Changed (c : Change) (t : ℕ) (tr : Tree) (m m' : List ℕ) : Type 0 where
  pub stands : Stands m' t (after c tr)
  pub kept : Kept (λ z. same z t + uses (z / 8) tr + fresh c (z / 8)) m m'

-- m' is m with the tree at t changed
abbrev pub Becomes : Change → (t : ℕ) → (m m' : List ℕ) → Type 0
Becomes c t m m' = (tr : Tree) → Begun c m t tr → Changed c t tr m m'
