-- What a whole link gives to the crates above: its places, its words, and that one step may follow another.
use mathlib.Core.Path.{◌≡◌}
use mathlib.Core.List.{List}
use Prim.Native.Nat.{ℕ, ◌≤◌}
use native.Mathlib.Omega.{arith}
use Rattle.numbers.specs.Words.{word}
use Rattle.rule.specs.Moments.{last_moment}
use Rattle.state.specs.State.{State}
use Rattle.state.specs.Sound.{Sound}
use Rattle.memory.specs.Holds.{Holds, Whole, After}
use Rattle.memory.specs.Steps.{Link}
use Rattle.memory.proofs.Parts.{past_none, past_then}

pub whole_link : {m : List ℕ} {s : State} → Sound s → Holds m s → Link m s
whole_link W H = record { placed = record { all = W.all; many = W.many }; even = W.balanced; holds = H }

pub floor_is : {m : List ℕ} {s : State} → Holds m s → word m 4 ≡ s.floor
floor_is H = H.heads 4 (omega arith)

pub floor_low : {m : List ℕ} → Whole m → (x : ℕ) → x ≡ word m 4 → x ≤ last_moment
floor_low w x e = omega (arith, w.1.floor, floor_is w.2)

-- no step, and one step after another
pub after_none : {m : List ℕ} {s : State} → Holds m s → After m m s
after_none {m} {s} H = record { holds = H; past = past_none _ m }

pub after_then : {m m' m'' : List ℕ} {s u : State} → s.settings ≡ u.settings → After m m' s → After m' m'' u → After m m'' u
after_then e a b = record { holds = b.holds; past = past_then (rw e at a.past) b.past }
