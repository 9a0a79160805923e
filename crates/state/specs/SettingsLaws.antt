-- No order changes the settings.
use Rattle.std.specs.Prelude.{◌≡◌, refl, ℕ, zero, suc}
use Rattle.std.proofs.Common.{inl, inr}
use Rattle.rule.specs.Kept.{least}
use Rattle.rule.specs.Fit.{hold, free}
use Rattle.rule.specs.Starts.{starts}
use Rattle.rule.specs.Key.{start_of}
use Rattle.rule.specs.Order.{Order, booking, sweep}
use Rattle.rule.specs.Answer.{Reply, booked, swept, refused}
use Rattle.rule.specs.Codes.{booking_code, sweep_code, chosen_reply}
use Rattle.shape.specs.Tree.{size}
use Rattle.state.specs.State.{State, shorten, add, drop}
use Rattle.state.specs.Act.{Sought, nowhere, found, seek, choice, split, carried, book_as, cleared, sweep_as, act}
use Rattle.state.specs.KeptLaws.{case_kept}

split_settings : (s : State) (k e r f : ℕ) → (split s k e r f).settings ≡ s.settings
unfolding split shorten add drop
split_settings s k e r f = elim (case_kept s.floor (start_of k) r) [
  | inl y ↦ rw y.1 (elim (case_kept s.floor f e) [ inl z ↦ rw z.1 | inr z ↦ rw z.1 ])
  | inr y ↦ rw y.1 (elim (case_kept s.floor f e) [ inl z ↦ rw z.1 | inr z ↦ rw z.1 ])
]

carried_settings : (s : State) (h : ℕ) (y : Reply) (o : Sought) → (carried s h y o).settings ≡ s.settings
carried_settings s h (booked c i r f) (found i' r' k e) = split_settings s k e r' (free r' h)
carried_settings s h (booked c i r f) nowhere = refl
carried_settings s h (swept d) o = refl
carried_settings s h (refused x) o = refl

pub cleared_settings : (s : State) (b : ℕ) → (cleared s b).settings ≡ s.settings
unfolding cleared
cleared_settings s b = refl

pub act_settings : (s : State) (o : Order) → (act s o).after.settings ≡ s.settings
act_settings s (booking r l m) = go (booking_code s.settings s.floor r l m)
  where
    go : (code : ℕ) → (book_as code s r l m).after.settings ≡ s.settings
    go zero =
        let h = hold s.settings l in
        let u = (seek s.tree h (starts s.settings.delays r h m)).out in
        carried_settings s h (chosen_reply s.settings s.floor (size s.tree) l (choice u)) u
    go (suc c) = refl
act_settings s (sweep moment) = go (sweep_code s.settings s.floor moment)
  where
    go : (code : ℕ) → (sweep_as code s moment).after.settings ≡ s.settings
    go zero = cleared_settings s (least moment)
    go (suc c) = refl
