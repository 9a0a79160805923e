-- What the check's answer says: a whole link, or none.
use mathlib.Core.Path.{◌≡◌, ap}
use mathlib.Core.Bool.{Bool, true, false}
use mathlib.Core.List.{List}
use Prim.Native.Nat.{ℕ}
use native.Mathlib.Omega.{arith}
use Rattle.memory.specs.Holds.{Whole}
use Rattle.settled.specs.Says.{Says}

pub yes_whole : (m : List ℕ) (b : Bool) → Says (Whole m) b → b ≡ true → Whole m
yes_whole m true s e = s
yes_whole m false s e = absurd (let z : ◌≡◌ {A = ℕ} 0 1 = cc (ap (λ (c : Bool). Rattle.numbers.specs.Case.pick {A = ℕ} c 1 0) e) in omega arith)

pub no_whole : (m : List ℕ) (b : Bool) → Says (Whole m) b → b ≡ false → Whole m → ⊥
no_whole m false s e = s
no_whole m true s e = absurd (let z : ◌≡◌ {A = ℕ} 0 1 = cc (ap (λ (c : Bool). Rattle.numbers.specs.Case.pick {A = ℕ} c 1 0) e) in omega arith)
