-- How an accepted opening ends.
use mathlib.Core.Path.{◌≡◌}
use mathlib.Core.Bool.{true}
use mathlib.Core.List.{List}
use Prim.Native.Nat.{ℕ, ◌≤◌}
use native.Mathlib.Omega.{arith}
use borrow.Author.Tests.{le-ltb}
use lib.ListN.{length}
use Rattle.rule.specs.Settings.{Settings, in_bounds}
use Rattle.state.specs.Open.{fresh}
use Rattle.memory.specs.Header.{need}
use Rattle.memory.specs.Holds.{After}
use Rattle.opening.specs.Opening.{Opens}

module _ (g : Settings) (floor : ℕ) (m : List ℕ) where
  pub opens : (m' : List ℕ) → in_bounds g ≡ true → need g.room ≤ length m → After m m' (fresh g floor) → Opens g floor m m' 0
  opens m' b l a = record { answer = rw (b, le-ltb (length m) (need g.room) l); accepted = λ h. a; refused = λ h. absurd (omega arith) }
