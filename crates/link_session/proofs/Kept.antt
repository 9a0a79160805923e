-- A whole link stays whole: opened, and after each order. Assumes nothing.
use mathlib.Core.Path.{◌≡◌, refl, sym, ◌∙◌}
use mathlib.Core.Bool.{Bool, true, false, not}
use mathlib.Core.List.{List, [], ◌∷◌}
use native.Mathlib.Omega.{arith}
use lib.Dec.{ltb}
use lib.ListN.{length}
use Prim.Native.Nat.{ℕ, ◌≤◌}
use Rattle.rule.specs.Moments.{last_moment}
use Rattle.rule.specs.Settings.{Settings, in_bounds}
use Rattle.rule.specs.Codes.{first_code}
use Rattle.rule.specs.Order.{booking, sweep}
use Rattle.rule.specs.declared.answer.Answer.{Answer}
use Rattle.state.specs.State.{State}
use Rattle.state.specs.Sound.{Sound}
use Rattle.state.proofs.SoundLaws.{act_sound}
use Rattle.state.specs.Open.{fresh}
use Rattle.state.specs.OpenLaws.{fresh_sound}
use Rattle.memory.specs.Header.{need}
use Rattle.memory.specs.Holds.{Whole, Holds}
use Rattle.opening.specs.Opening.{Opens}
use Rattle.booking.specs.Book.{Books}
use Rattle.sweeping.specs.Swept.{Sweeps}

pub booked_whole : (r l p : ℕ) (a : Answer) (m m' : List ℕ) → Whole m → ((s : State) → Sound s → Holds m s → Books r l p a m m' s) → Whole m'
booked_whole r l p a m m' w f = (_, act_sound w.0 w.1 (booking r l p) tt, (f w.0 w.1 w.2).after.holds)

pub swept_whole : (t : ℕ) (a : Answer) (m m' : List ℕ) → t ≤ last_moment → Whole m → ((s : State) → Sound s → Holds m s → Sweeps t a m m' s) → Whole m'
swept_whole t a m m' h w f = (_, act_sound w.0 w.1 (sweep t) h, (f w.0 w.1 w.2).after.holds)

accepted_in : (b x : Bool) → 0 ≡ first_code ((not b, 1) ∷ (x, 1) ∷ []) → b ≡ true
accepted_in true x e = refl
accepted_in false x e = absurd (omega (arith, e))

pub opened_whole : (g : Settings) (floor code : ℕ) (m m' : List ℕ) → floor ≤ last_moment → Opens g floor m m' code → code ≡ 0 → Whole m'
opened_whole g floor code m m' h o z = let b : in_bounds g ≡ true = accepted_in (in_bounds g) (ltb (length m) (need g.room)) (sym z ∙ o.answer) in (fresh g floor, fresh_sound g floor b h, (o.accepted z).holds)
