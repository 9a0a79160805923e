-- The places of a state, those below `places room`: the place 0 is the root's; each other one is used once, as a node's or as a spare one.
use Rattle.std.specs.Prelude.{◌≡◌, ℕ, ◌+◌, length}
use Rattle.shape.specs.Tree.{size, same, uses}
use Rattle.state.specs.State.{State, places}
use Rattle.state.specs.Sound.{among, below}

pub record Placed (s : State) : Type 0 where
  pub all : (z : ℕ) → same z 0 + uses z s.tree + among z s.spares ≡ below z (places s.settings.room)
  pub many : length s.spares + size s.tree ≡ s.settings.room + 1
