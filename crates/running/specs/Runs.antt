-- What a run promises, for every input: of a memory that holds a whole link, and of one that does not; and `Gives`, by which
-- every call says so.
use Rattle.std.specs.Prelude.{◌≡◌, ◌⊎◌, Result, Ok, Err, List, ◌++◌, ℕ, ◌*◌, length, drop}
use Rattle.tally.specs.declared.Tally.{Tally}
use Rattle.rule.specs.declared.refusal.Ending.{Ending}
use Rattle.rule.specs.Refusal.{ending_of}
use Rattle.state.specs.State.{State}
use Rattle.state.specs.Sound.{Sound}
use Rattle.memory.specs.Holds.{Holds, Whole, After}
use Rattle.running.specs.declared.RunDone.{RunDone}
use Rattle.running.specs.Run.{Ran, run_on, flat}

-- what a call gives, by what the memory holds: f of the whole link s, or b where it holds none (code 2)
abbrev pub Gives : List ℕ → (State → Type 0) → Type 0 → Type 0
Gives m f b = ((s : State) × Sound s × Holds m s × f s) ⊎ ((Whole m → ⊥) × b)

-- "the code that ended it (0 at its end)"
abbrev pub end_of : Result Unit Ending → ℕ
end_of (Ok _) = 0
end_of (Err why) = ending_of why

-- out, out': the answer slice before and after
pub record RunsTo (y : Ran) (x : RunDone) (m m' out out' : List ℕ) : Type 0 where
  pub code : x.ran.code ≡ y.code
  pub place : x.ran.place ≡ y.place
  pub answered : x.ran.answered ≡ length y.answers
  pub tally : x.tally ≡ y.tally
  pub after : After m m' y.state
  pub sound : Sound y.state
  -- "The unused part of the answer slice is untouched."
  pub slice : out' ≡ flat y.answers ++ drop (7 * length y.answers) out

pub record RunsNot (t : Tally) (x : RunDone) (m m' out out' : List ℕ) : Type 0 where
  pub answer : x ≡ record { tally = t; ran = record { code = 2; place = 0; answered = 0 } }
  pub same : m' ≡ m
  pub slice : out' ≡ out

abbrev pub Runs : Tally → (bytes : List ℕ) → RunDone → (m m' out out' : List ℕ) → Type 0
Runs t bytes x m m' out out' = Gives m (λ s. RunsTo (run_on s t (length out) bytes) x m m' out out') (RunsNot t x m m' out out')
