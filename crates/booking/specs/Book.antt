-- What booking promises in memory: of every state that the memory holds, the answer and the state after are those of `act`.
use Rattle.std.specs.Prelude.{◌≡◌, List, ℕ}
use Rattle.rule.specs.Order.{booking}
use Rattle.rule.specs.Answer.{seven, numbers_of}
use Rattle.rule.specs.declared.answer.Answer.{Answer}
use Rattle.state.specs.State.{State}
use Rattle.state.specs.Act.{act}
use Rattle.memory.specs.Holds.{After}

-- the answer in 01's seven numbers, and the memory after
pub record Books (r l lines : ℕ) (a : Answer) (m m' : List ℕ) (s : State) : Type 0 where
  pub answer : numbers_of a ≡ seven (act s (booking r l lines)).reply (act s (booking r l lines)).count
  pub after : After m m' (act s (booking r l lines)).after
