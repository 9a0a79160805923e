-- The rule: what an order is answered, and what it leaves (01, The booking rule; What comes back).
-- `Rule M order reply N` relates what a link means before and after. No tree and no bytes are named here.
use Rattle.std.specs.Prelude.{◌≡◌, ◌⊎◌, ◌↔◌, true, ℕ, zero, suc, length}
use Rattle.rule.specs.Fit.{hold, free}
use Rattle.rule.specs.Starts.{starts}
use Rattle.rule.specs.Voids.{Voids, Has, Meaning, Same}
use Rattle.rule.specs.Choice.{Choice, nothing, taken, Chosen}
use Rattle.rule.specs.Kept.{stays, kept, dropped}
use Rattle.rule.specs.Order.{Order, booking, sweep}
use Rattle.rule.specs.Answer.{Reply, booked, swept, refused}
use Rattle.rule.specs.Codes.{booking_code, sweep_code, chosen_reply}

-- a piece of channel c from s up to e, if it is kept
abbrev pub Piece : (floor c s e : ℕ) → Voids
Piece floor c s e c' s' e' = (c' ≡ c) × (s' ≡ s) × (e' ≡ e) × (kept floor s e ≡ true)

-- "The void taken is replaced by (s, r') and (f', e)": the void of channel c that starts at s goes, its pieces come
pub record Replaced (M : Meaning) (c s e r f : ℕ) (N : Meaning) : Type 0 where
  pub settings : N.settings ≡ M.settings
  pub floor : N.floor ≡ M.floor
  pub voids : (c' s' e' : ℕ) → Has N.voids c' s' e'
      ↔ ((Has M.voids c' s' e' × (¬ ((c' ≡ c) × (s' ≡ s)))) ⊎ (Piece M.floor c s r c' s' e' ⊎ Piece M.floor c f e c' s' e'))

-- what a booking's reply leaves
abbrev pub Effect : Meaning → (l : ℕ) → Reply → Choice → Meaning → Type 0
Effect M l (refused x) o N = Same M N
Effect M l (swept d) o N = ⊥
Effect M l (booked c i r f) nothing N = ⊥
Effect M l (booked c i r f) (taken i' r' c' s e) N = Replaced M c' s e r' (free r' (hold M.settings l)) N

-- a booking, by its code: refused by 3 to 6, or a choice is made, answered and carried out
abbrev pub Booking : Meaning → (r l m : ℕ) → Reply → Meaning → (code : ℕ) → Type 0
Booking M r l m y N zero =
    (o : Choice)
    × Chosen (Has M.voids) (hold M.settings l) (starts M.settings.delays r (hold M.settings l) m) o
    × (y ≡ chosen_reply M.settings M.floor (length M.voids) l o)
    × Effect M l y o N
Booking M r l m y N (suc x) = (y ≡ refused (suc x)) × Same M N

-- "Sweeping to moment T sets the floor to T", and "drops each void with e at or before T" (02, K3), "no others"
pub record Swept (M : Meaning) (moment : ℕ) (N : Meaning) : Type 0 where
  pub settings : N.settings ≡ M.settings
  pub floor : N.floor ≡ moment
  pub voids : (c s e : ℕ) → Has N.voids c s e ↔ (Has M.voids c s e × (stays moment e ≡ true))

-- a sweep, by its code
abbrev pub Sweep : Meaning → (moment : ℕ) → Reply → Meaning → (code : ℕ) → Type 0
Sweep M moment y N zero = (y ≡ swept (dropped moment M.voids)) × Swept M moment N
Sweep M moment y N (suc x) = (y ≡ refused (suc x)) × Same M N

abbrev pub Rule : Meaning → Order → Reply → Meaning → Type 0
Rule M (booking r l m) y N = Booking M r l m y N (booking_code M.settings M.floor r l m)
Rule M (sweep moment) y N = Sweep M moment y N (sweep_code M.settings M.floor moment)
