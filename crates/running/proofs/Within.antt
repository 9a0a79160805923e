-- What a caller of a run may lean on: the answers lie within their slice.
use mathlib.Core.Path.{◌≡◌, ap}
use mathlib.Core.Logic.{inl, inr}
use mathlib.Core.List.{List, [], ◌∷◌}
use Prim.Native.Nat.{ℕ, zero, suc, ◌+◌, ◌*◌, ◌-◌, ◌≤◌}
use native.Mathlib.Omega.{arith}
use lib.ListN.{length, drop}
use Rattle.numbers.specs.Case.{case_le}
use Rattle.tally.specs.declared.Tally.{Tally}
use Rattle.rule.specs.Order.{Order}
use Rattle.tally.specs.Counts.{row_of, raised}
use Rattle.order.specs.Records.{Reading, unread, opening, order, reading}
use Rattle.state.specs.State.{State}
use Rattle.state.specs.Act.{act}
use Rattle.running.specs.declared.RunDone.{RunDone}
use Rattle.running.specs.Run.{Ran, onward, run_from}
use Rattle.running.specs.Runs.{Runs}

onward_fits : (s : State) (t : Tally) (room place : ℕ) (x : Reading) (f : (used : ℕ) → Order → Ran) → ((used : ℕ) (o : Order) → 7 * length (f used o).answers ≤ room) → 7 * length (onward s t place x f).answers ≤ room
onward_fits s t room place (unread y) f h = omega arith
onward_fits s t room place (opening n o) f h = omega arith
onward_fits s t room place (order n o) f h = h n o

run_fits : (n : ℕ) (s : State) (t : Tally) (room place : ℕ) (bytes : List ℕ) → 7 * length (run_from n s t room place bytes).answers ≤ room
run_fits zero s t room place bytes = omega arith
run_fits (suc n) s t room place [] = omega arith
run_fits (suc n) s t room place (b ∷ bs) = elim (case_le 7 room) [
  | inl y ↦ rw y.1 (onward_fits s t room place (reading (b ∷ bs)) _ (λ used o. omega (arith, y.0, run_fits n (act s o).after (raised t (row_of (act s o).reply)) (room - 7) (place + used) (drop used (b ∷ bs)))))
  | inr y ↦ rw y.1 (omega arith)
]

pub run_within : (t : Tally) (bytes : List ℕ) (x : RunDone) (m m' out out' : List ℕ) → Runs t bytes x m m' out out' → 7 * x.ran.answered ≤ length out
run_within t bytes x m m' out out' (inl y) = omega (arith, y.3.answered, run_fits (length bytes) y.0 t (length out) 0 bytes)
run_within t bytes x m m' out out' (inr y) = let e : x.ran.answered ≡ 0 = ap (λ (z : RunDone). z.ran.answered) y.1.answer in omega (arith, e)
