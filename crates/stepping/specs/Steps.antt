-- What a step promises: of every state that the memory holds and whatever the tally, it gives what one record on that state gives.
use Rattle.std.specs.Prelude.{◌≡◌, ◌≤◌, List, Result, Ok, Err, ℕ}
use Rattle.tally.specs.declared.Tally.{Tally}
use Rattle.rule.specs.Answer.{numbers_of}
use Rattle.tally.specs.Counts.{index_of, raised}
use Rattle.order.specs.declared.Unread.{Unread}
use Rattle.order.specs.Records.{reading}
use Rattle.state.specs.State.{State}
use Rattle.state.specs.Sound.{Sound}
use Rattle.memory.specs.Holds.{Holds, After}
use Rattle.stepping.specs.declared.Single.{Single}
use Rattle.stepping.specs.Step.{Stepped, unused, step_on}

-- what the record gave, x, is y, once its row of the tally t is raised
pub record StepsOn (y : Stepped) (t : Tally) (x : Single) (m m' : List ℕ) : Type 0 where
  pub some : 1 ≤ x.used
  pub numbers : numbers_of x.answer ≡ y.numbers
  pub used : x.used ≡ y.used
  pub tally : raised t (index_of x.row) ≡ y.tally
  pub after : After m m' y.after
  -- and the link is whole again
  pub sound : Sound y.after

-- the record was no order: y is a refusal by 11 that uses nothing, and the state s stays
pub record Idles (y : Stepped) (s : State) (t : Tally) (m m' : List ℕ) : Type 0 where
  pub unused : y ≡ unused s t 11
  pub after : After m m' s

-- one record on a memory that is known to hold a whole link, whatever the tally
abbrev pub Steps : (bytes : List ℕ) → Result Single Unread → (m m' : List ℕ) → Type 0
Steps bytes (Ok x) m m' = (s : State) → Sound s → Holds m s → (t : Tally) → StepsOn (step_on s t (reading bytes)) t x m m'
Steps bytes (Err _) m m' = (s : State) → Sound s → Holds m s → (t : Tally) → Idles (step_on s t (reading bytes)) s t m m'
