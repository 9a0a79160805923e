-- What the doors promise: what crates `calls` and `running` promise, with the tally before and after in the caller's place.
use Rattle.std.specs.Prelude.{List, ℕ}
use Rattle.tally.specs.declared.Tally.{Tally}
use Rattle.calls.specs.declared.act.Acted.{Acted}
use Rattle.running.specs.declared.Ran.{Ran}
use Rattle.running.specs.Runs.{Runs}
use Rattle.calls.specs.Calls.{Acts}

abbrev pub ActsAt : (t : Tally) (bytes : List ℕ) (t' : Tally) → Acted → (m m' : List ℕ) → Type 0
ActsAt t bytes t' a m m' = Acts t bytes (record { tally = t'; acted = a }) m m'

abbrev pub RunsAt : (t : Tally) (bytes : List ℕ) (t' : Tally) → Ran → (m m' out out' : List ℕ) → Type 0
RunsAt t bytes t' r m m' out out' = Runs t bytes (record { tally = t'; ran = r }) m m' out out'
