use mathlib.Core.List.{List}
use Prim.Native.Nat.{ℕ}
use Rattle.std.specs.Iterator.{AlwaysYields}
use Rattle.ruling.proofs.Rising.{Left}
use Rattle.ruling.proofs.bounds.rising.Given as goal

abbrev pub invariant-loop-delay : goal.invariant-loop-delay
invariant-loop-delay g l =
    (goal.iterator-loop-delay g).can_next l.delay-iterator
    × (goal.iterator-loop-delay g).is_finite l.delay-iterator
    × ((xs : List ℕ) → AlwaysYields (goal.iterator-loop-delay g).next_gives (λ x. x) l.fn.delays xs → Left (goal.iterator-loop-delay g).next_gives xs l.least l.delay-iterator)
