use mathlib.Core.Path.{◌≡◌}
use Prim.Native.Nat.{ℕ, ◌≤◌}
use mathlib.Core.List.{List}
use lib.ListN.{length}
use Rattle.rising.specs.Changes.{Change}
use Rattle.rising.specs.Rises.{Turned, Rising}
use Rattle.rising.proofs.rise.Given as goal

abbrev pub invariant-loop-i : goal.invariant-loop-i
invariant-loop-i l = (l.i ≤ l.from) × (length l.mem ≡ length l.initial.mem) × ((c : Change) (m0 : List ℕ) (t d : ℕ) → Turned c → Rising c m0 t d l.way l.from l.initial.mem → Rising c m0 t d l.way l.i l.mem)
