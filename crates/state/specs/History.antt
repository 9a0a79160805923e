-- The history of a link since its opening, and its longest idle stretches (01, The booking rule): "So at any time the
-- voids kept are the maximal idle stretches of the history" that "end after the floor" (02, K3).
use Rattle.std.specs.Prelude.{◌≡◌, true, List, [], ◌∷◌, ℕ, suc, ◌+◌, ◌≤◌, ◌<◌, leb, eqb}
use Rattle.numbers.specs.Case.{pick}
use Rattle.rule.specs.Moments.{open_end}
use Rattle.rule.specs.Kept.{stays}
use Rattle.rule.specs.Voids.{Voids}

-- ---- what has been accepted, the latest first
pub data Event : Type 0 where
  books : (channel start end : ℕ) → Event
  sweeps : (moment : ℕ) → Event

-- 1 where the span of channel d from s up to but not at e holds the tick t of channel c, else 0. That time is idle or held is said by such
-- counts, so that the laws about it are arithmetic
unfoldable pub on : (c t d s e : ℕ) → ℕ
on c t d s e = pick (eqb d c) (pick (leb s t) (pick (leb e t) 0 1) 0) 0

-- how many bookings hold the tick t of channel c
abbrev pub held : List Event → (c t : ℕ) → ℕ
held [] c t = 0
held (books d s e ∷ es) c t = on c t d s e + held es c t
held (sweeps moment ∷ es) c t = held es c t

-- the floor: the moment of the last sweep, or F, the opening's
abbrev pub floor_of : (F : ℕ) → List Event → ℕ
floor_of F [] = F
floor_of F (books d s e ∷ es) = floor_of F es
floor_of F (sweeps moment ∷ es) = moment

-- ---- idle time. F: the floor at the opening; H c t: how many bookings hold the tick t of channel c
abbrev pub Idle : (F : ℕ) → (ℕ → ℕ → ℕ) → (c t : ℕ) → Type 0
Idle F H c t = (F ≤ t) × (t < open_end) × (H c t ≡ 0)

-- a longest idle stretch of channel c: idle from s up to e, and neither at e nor at the tick before s
pub record Longest (F : ℕ) (H : ℕ → ℕ → ℕ) (c s e : ℕ) : Type 0 where
  pub some : s < e
  pub idle : (t : ℕ) → s ≤ t → t < e → Idle F H c t
  pub stops : ¬ (Idle F H c e)
  pub starts : (t : ℕ) → suc t ≡ s → ¬ (Idle F H c t)

-- those of a history that "end after the floor" (02, K3). F: the opening's floor, C: its channels
abbrev pub Stretches : (F C : ℕ) → List Event → Voids
Stretches F C past c s e = (c < C) × Longest F (held past) c s e × (stays (floor_of F past) e ≡ true)
