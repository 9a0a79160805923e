-- What acting on a record and telling promise, for every input: of a memory that holds a whole link, and of one that does not.
use Rattle.std.specs.Prelude.{◌≡◌, List, ℕ}
use Rattle.tally.specs.declared.Tally.{Tally}
use Rattle.rule.specs.Answer.{refused, seven, numbers_of}
use Rattle.order.specs.Records.{reading}
use Rattle.shape.specs.Tree.{size}
use Rattle.state.specs.Sound.{Sound}
use Rattle.memory.specs.Holds.{After}
use Rattle.stepping.specs.Step.{Stepped, step_on}
use Rattle.running.specs.Runs.{Gives}
use Rattle.calls.specs.declared.act.Done.{Done}
use Rattle.calls.specs.declared.tell.Told.{Told}

-- ---- act
pub record StepsTo (x : Stepped) (d : Done) (m m' : List ℕ) : Type 0 where
  pub numbers : numbers_of d.acted.answer ≡ x.numbers
  pub used : d.acted.used ≡ x.used
  pub tally : d.tally ≡ x.tally
  pub after : After m m' x.after
  -- and the link is whole again
  pub sound : Sound x.after

-- a refusal that is no order: nothing is used, no count raised
pub record Unused (code : ℕ) (t : Tally) (d : Done) : Type 0 where
  pub numbers : numbers_of d.acted.answer ≡ seven (refused code) 0
  pub used : d.acted.used ≡ 0
  pub tally : d.tally ≡ t

-- code 2: nothing is used, raised or changed
pub record ActsNot (t : Tally) (d : Done) (m m' : List ℕ) : Type 0 where
  pub answer : Unused 2 t d
  pub same : m' ≡ m

abbrev pub Acts : Tally → (bytes : List ℕ) → Done → (m m' : List ℕ) → Type 0
Acts t bytes d m m' = Gives m (λ s. StepsTo (step_on s t (reading bytes)) d m m') (ActsNot t d m m')

-- ---- tell
abbrev pub Tells : Told → List ℕ → Type 0
Tells x m = Gives m (λ s. x ≡ record { code = 0; voids = size s.tree }) (x ≡ record { code = 2; voids = 0 })
