-- A way down is noted seat by seat.
use mathlib.Core.Path.{◌≡◌, ◌∙◌}
use mathlib.Core.List.{List}
use Prim.Native.Nat.{ℕ, suc, ◌+◌, ◌<◌, ◌≤◌}
use native.Mathlib.Decide.{ℕ_discrete}
use native.Mathlib.Omega.{arith}
use lib.ListN.{length, get_or, set, length-set}
use lib.Seq.{get_or-set_same, get_or-set_other}
use Rattle.node.specs.Paths.{Child, Down}

pub down_start : (m : List ℕ) (t : ℕ) (ws : List ℕ) → 0 < length ws → Down m t 0 (set ws 0 t)
down_start m t ws h =
    record { long = omega (arith, length-set ws 0 t); first = get_or-set_same ws 0 t 0 h; steps = λ i l. absurd (omega arith) }

-- the seats noted before stay
pub noted : (ws : List ℕ) (d x i : ℕ) → i ≤ d → get_or (set ws (d + 1) x) i 0 ≡ get_or ws i 0
noted ws d x i l = get_or-set_other ws (d + 1) i x 0 (λ q. omega arith)

pub noted_here : (ws : List ℕ) (d x : ℕ) → d + 1 < length ws → get_or (set ws (d + 1) x) (suc d) 0 ≡ x
noted_here ws d x h = let q : suc d ≡ d + 1 = omega arith in rw q (get_or-set_same ws (d + 1) x 0 h)

module _ (m : List ℕ) (t d : ℕ) (ws : List ℕ) (D : Down m t d ws) (x : ℕ) (c : Child m (get_or ws d 0) x) (h : d + 1 < length ws) where
  go : (i : ℕ) → i < d + 1 → Child m (get_or (set ws (d + 1) x) i 0) (get_or (set ws (d + 1) x) (suc i) 0)
  go i l = elim (ℕ_discrete i d) [
    | yes e ↦ rw (e, noted ws d x d (omega arith), noted_here ws d x h) c
    | no q ↦ rw (noted ws d x i (omega arith), noted ws d x (suc i) (omega arith)) (D.steps i (omega arith))
  ]

  pub down_next : Down m t (d + 1) (set ws (d + 1) x)
  down_next = record { long = omega (arith, length-set ws (d + 1) x); first = noted ws d x 0 (omega arith) ∙ D.first; steps = go }
