-- What the header of a whole link tells.
use mathlib.Core.Path.{◌≡◌, ◌∙◌}
use mathlib.Core.List.{List}
use Prim.Native.Nat.{ℕ, ◌+◌, ◌*◌, ◌≤◌}
use native.Mathlib.Omega.{arith}
use lib.ListN.{length}
use Rattle.numbers.specs.Words.{word}
use Rattle.shape.specs.Tree.{size}
use Rattle.state.specs.State.{State}
use Rattle.memory.specs.Holds.{Holds, Whole}
use Rattle.calls.specs.declared.tell.Told.{Told}

pub header_long : (m : List ℕ) → Whole m → 8 * 6 + 8 ≤ length m
header_long m w = omega (arith, w.2.long)

pub told : (m : List ℕ) (s : State) (n : ℕ) → n ≡ word m 6 → Holds m s → ◌≡◌ {A = Told} (record { code = 0; voids = n }) (record { code = 0; voids = size s.tree })
told m s n e h = let q : n ≡ size s.tree = e ∙ h.heads 6 (omega arith) in rw q
