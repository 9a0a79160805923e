-- What hanging and joining promise: the tree after is Clear's, at the seat named and on the same places, and nothing but that seat
-- and those places has been written (turning's Turns says it of turning and balancing).
use Rattle.std.specs.Prelude.{Bool, List, ℕ}
use Rattle.shape.specs.Side.{near, far}
use Rattle.shape.specs.Clear.{hang, join}
use Rattle.turning.specs.Turns.{Arranges}

abbrev pub Hangs : Bool → (s w : ℕ) → (m m' : List ℕ) → Type 0
Hangs left s w m m' = Arranges (λ v a b. hang left v (near left a b) (far left a b)) s w m m'

abbrev pub Joins : (s w : ℕ) → (m m' : List ℕ) → Type 0
Joins s w m m' = Arranges join s w m m'
