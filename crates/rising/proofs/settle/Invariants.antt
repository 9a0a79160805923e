use mathlib.Core.Path.{◌≡◌}
use Prim.Native.Nat.{ℕ, ◌≤◌}
use mathlib.Core.List.{List}
use lib.ListN.{length}
use Rattle.rising.specs.Changes.{Change}
use Rattle.rising.specs.Rises.{Settling}
use Rattle.rising.proofs.settle.Given as goal

abbrev pub invariant-loop-i : goal.invariant-loop-i
invariant-loop-i l = (l.i ≤ l.from) × (length l.mem ≡ length l.initial.mem) × ((c : Change) (m0 : List ℕ) (t d : ℕ) → Settling c m0 t d l.way l.from l.initial.mem → Settling c m0 t d l.way l.i l.mem)
