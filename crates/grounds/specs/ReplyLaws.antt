-- Which replies an order can have: a booking is booked or refused by 3 to 8, a sweep is swept or refused by 9 or 10.
-- 01, What comes back: "one count for bookings, one for sweeps, one for each of codes 3 to 10".
use Rattle.std.specs.Prelude.{◌≡◌, refl, Bool, true, false, ℕ, zero, suc, ◌+◌, ◌≤◌, ◌<◌, ltb, eqb, length, get_or}
use Rattle.std.proofs.Common.{inl, inr, arith}
use Rattle.numbers.specs.Case.{pick, case_eq}
use Rattle.rule.specs.Moments.{last_moment}
use Rattle.rule.specs.Settings.{Settings}
use Rattle.rule.specs.Fit.{hold, free}
use Rattle.rule.specs.Starts.{starts}
use Rattle.rule.specs.Choice.{Choice, nothing, taken}
use Rattle.rule.specs.Order.{Order, booking, sweep}
use Rattle.rule.specs.Answer.{Reply, booked, swept, refused, seven}
use Rattle.tally.specs.Counts.{rows, row_of, row_if, row_at}
use Rattle.rule.specs.Codes.{booking_code, sweep_code, lacked, too_many, chosen_reply}
use Rattle.shape.specs.Tree.{size}
use Rattle.state.specs.State.{State}
use Rattle.state.specs.Act.{seek, choice, book_as, sweep_as, act}

abbrev pub Apt : Order → Reply → Type 0
Apt (booking r l m) (booked c i b f) = Unit {0}
Apt (booking r l m) (swept d) = ⊥
Apt (booking r l m) (refused x) = (3 ≤ x) × (x ≤ 8)
Apt (sweep moment) (booked c i b f) = ⊥
Apt (sweep moment) (swept d) = Unit {0}
Apt (sweep moment) (refused x) = (9 ≤ x) × (x ≤ 10)

-- the codes 3 to 6, or 9 and 10
booking_codes : (g : Settings) (floor r l m x : ℕ) → booking_code g floor r l m ≡ suc x → (3 ≤ suc x) × (suc x ≤ 6)
booking_codes g floor r l m x = go (eqb l 0) (ltb r floor) (lacked (length g.delays) m) (ltb last_moment (free r (hold g l)))
  where
    go : (a b c d : Bool) → pick a 3 (pick b 4 (pick c 5 (pick d 6 0))) ≡ suc x → (3 ≤ suc x) × (suc x ≤ 6)
    go true b c d q = omega arith
    go false true c d q = omega arith
    go false false true d q = omega arith
    go false false false true q = omega arith
    go false false false false q = absurd (omega arith)

sweep_codes : (g : Settings) (floor moment x : ℕ) → sweep_code g floor moment ≡ suc x → (9 ≤ suc x) × (suc x ≤ 10)
sweep_codes g floor moment x = go (ltb moment floor) (ltb (floor + g.leap) moment)
  where
    go : (a b : Bool) → pick a 9 (pick b 10 0) ≡ suc x → (9 ≤ suc x) × (suc x ≤ 10)
    go true b q = omega arith
    go false true q = omega arith
    go false false q = absurd (omega arith)

chosen_apt : (g : Settings) (floor n l r k m : ℕ) (o : Choice) → Apt (booking r k m) (chosen_reply g floor n l o)
chosen_apt g floor n l r k m nothing = omega arith
chosen_apt g floor n l r k m (taken i b c s e) = go (too_many g floor n b (free b (hold g l)) s e)
  where
    go : (t : Bool) → Apt (booking r k m) (pick t (refused 8) (booked c i b (b + l)))
    go true = omega arith
    go false = tt

pub act_apt : (s : State) (o : Order) → Apt o (act s o).reply
act_apt s (booking r l m) = go (booking_code s.settings s.floor r l m) refl
  where
    go : (x : ℕ) → booking_code s.settings s.floor r l m ≡ x → Apt (booking r l m) (book_as x s r l m).reply
    go zero q = let h = hold s.settings l in chosen_apt s.settings s.floor (size s.tree) l r l m (choice (seek s.tree h (starts s.settings.delays r h m)).out)
    go (suc x) q = omega (arith, booking_codes s.settings s.floor r l m x q)
act_apt s (sweep moment) = go (sweep_code s.settings s.floor moment) refl
  where
    go : (x : ℕ) → sweep_code s.settings s.floor moment ≡ x → Apt (sweep moment) (sweep_as x s moment).reply
    go zero q = tt
    go (suc x) q = omega (arith, sweep_codes s.settings s.floor moment x q)

-- so every reply has its row in the tally
pub row_apt : (o : Order) (y : Reply) → Apt o y → row_of y < rows
row_apt (booking r l m) (booked c i b f) a = omega arith
row_apt (booking r l m) (swept d) a = absurd a
row_apt (booking r l m) (refused x) a = omega arith
row_apt (sweep moment) (booked c i b f) a = absurd a
row_apt (sweep moment) (swept d) a = omega arith
row_apt (sweep moment) (refused x) a = omega arith

-- the row that a reply raises, by its code
pub row_at_lem : (o : Order) (y : Reply) (n : ℕ) → Apt o y → row_of y ≡ row_at (get_or (seven y n) 0 0) (row_if o)
row_at_lem (booking r l p) (booked c i b f) n a = refl
row_at_lem (booking r l p) (swept d) n a = absurd a
row_at_lem (booking r l p) (refused x) n a = elim (case_eq x 0) [ inl y ↦ absurd (omega (arith, a, y.0)) | inr y ↦ rw y.1 ]
row_at_lem (sweep moment) (booked c i b f) n a = absurd a
row_at_lem (sweep moment) (swept d) n a = refl
row_at_lem (sweep moment) (refused x) n a = elim (case_eq x 0) [ inl y ↦ absurd (omega (arith, a, y.0)) | inr y ↦ rw y.1 ]
