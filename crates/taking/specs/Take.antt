-- What taking a void promises in memory: of every state that the memory holds, the state after is the void split, and the test
-- of the room is the rule's.
use Rattle.std.specs.Prelude.{◌≡◌, List, Bool, true, false, ℕ, ◌*◌}
use Rattle.rule.specs.Key.{per_tick, start_of}
use Rattle.rule.specs.Codes.{too_many}
use Rattle.shape.specs.Tree.{size, In}
use Rattle.node.specs.Layout.{root_seat}
use Rattle.tracing.specs.Ways.{Serves}
use Rattle.state.specs.State.{State}
use Rattle.state.specs.Act.{split}
use Rattle.state.specs.Room.{Room}
use Rattle.state.specs.Sound.{Sound}
use Rattle.memory.specs.Holds.{Holds, After}
use Rattle.memory.specs.Steps.{Adds}

-- a void that may be taken apart: one of a sound link, with room for its pieces
pub record Splitting (s : State) (k e r f : ℕ) : Type 0 where
  pub sound : Sound s
  pub inside : In k e s.tree
  pub room : Room s k e r f

abbrev pub Splittable : (k e r f : ℕ) → List ℕ → Type 0
Splittable k e r f m = (s : State) × Splitting s k e r f × Holds m s

-- a way is noted that every key from f's first on and below `after` leads
abbrev pub Ahead : (f d after : ℕ) → List ℕ → List ℕ → Type 0
Ahead f d after ws m = Serves m root_seat (f * per_tick) after d ws

-- a void more, if it is kept
abbrev pub Puts : Bool → (k e : ℕ) → (m m' : List ℕ) → Type 0
Puts true k e m m' = Adds k e m m'
Puts false k e m m' = m' ≡ m

abbrev pub Splits : (k e r f : ℕ) → (m m' : List ℕ) → Type 0
Splits k e r f m m' = (s : State) → Splitting s k e r f → Holds m s → After m m' (split s k e r f)

-- "the void taken leaves two pieces and the room is full": the rule's test, of the state
abbrev pub overfull : State → (k e r f : ℕ) → Bool
overfull s k e r f = too_many s.settings s.floor (size s.tree) r f (start_of k) e
