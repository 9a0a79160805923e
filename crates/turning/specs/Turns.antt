-- What turning and balancing promise: the tree after is Arrange's, at the seat named and on the same places, and nothing but that seat
-- and those places has been written.
use Rattle.std.specs.Prelude.{Bool, ◌≡◌, List, ℕ, ◌+◌, ◌*◌, ◌/◌, ◌≤◌}
use Rattle.shape.specs.Tree.{Tree, node, height, same, uses}
use Rattle.shape.specs.Side.{near, far}
use Rattle.shape.specs.Arrange.{turn, balance}
use Rattle.node.specs.Layout.{highest, Within, Kept}
use Rattle.node.specs.Rep.{Stands}

-- two trees at place v, and a seat s for a node over them; no place is used twice, and s is at none of them
pub record Two (m : List ℕ) (s v : ℕ) (a b : Tree) : Type 0 where
  pub first : Stands m (8 * v) a
  pub second : Stands m (8 * v + 4) b
  pub room : Within m s
  pub once : (z : ℕ) → same z (s / 8) + uses z (node v a b) ≤ 1
  pub low : height (node v a b) ≤ highest

-- res, at s, is on the places of `was`, and but for these and s the memory is as it was
pub record Arranged (s : ℕ) (was res : Tree) (m m' : List ℕ) : Type 0 where
  pub stands : Stands m' s res
  pub many : (z : ℕ) → uses z res ≡ uses z was
  pub high : height res ≤ height was
  pub kept : Kept (λ z. same z s + uses (z / 8) was) m m'

-- the code knows the place v by its left seat w
abbrev pub Both : List ℕ → (s w : ℕ) → Type 0
Both m s w = (v : ℕ) × (w ≡ 8 * v) × (a : Tree) × (b : Tree) × Two m s v a b

-- of every two trees there, the tree after is what f makes of the place and the two
abbrev pub Arranges : (f : ℕ → Tree → Tree → Tree) → (s w : ℕ) → (m m' : List ℕ) → Type 0
Arranges f s w m m' = (v : ℕ) → w ≡ 8 * v → (a b : Tree) → Two m s v a b → Arranged s (node v a b) (f v a b) m m'

abbrev pub Turns : Bool → (s w : ℕ) → (m m' : List ℕ) → Type 0
Turns left s w m m' = Arranges (λ v a b. turn left v (near left a b) (far left a b)) s w m m'

abbrev pub Balances : (s w : ℕ) → (m m' : List ℕ) → Type 0
Balances s w m m' = Arranges balance s w m m'
