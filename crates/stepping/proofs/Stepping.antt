-- From what the reader, the booking and the sweep promise to what a step promises, case by case.
use mathlib.Core.Path.{◌≡◌, refl, sym, ap, ◌∙◌}
use mathlib.Core.Bool.{Bool, true, false}
use mathlib.Core.List.{List}
use Rattle.std.specs.Prelude.{Result, Ok, Err}
use Prim.Native.Nat.{ℕ, zero, suc, ◌+◌, ◌-◌, ◌≤◌}
use native.Mathlib.Omega.{arith}
use borrow.Author.Tests.{ne_eqb}
use lib.ListN.{get_or}
use Rattle.numbers.specs.Case.{pick}
use Rattle.tally.specs.declared.Tally.{Tally}
use Rattle.rule.specs.declared.answer.Answer.{Answer}
use Rattle.rule.specs.declared.answer.Refused.{Refused}
use Rattle.rule.specs.declared.moments.Moment.{Moment}
use Rattle.rule.specs.Order.{Order, booking, sweep}
use Rattle.rule.specs.Fit.{hold, free}
use Rattle.rule.specs.Starts.{starts}
use Rattle.rule.specs.Choice.{Choice, nothing, taken}
use Rattle.rule.specs.Answer.{Reply, booked, swept, refused, seven, numbers_of, answer_of}
use Rattle.rule.specs.Codes.{booking_code, sweep_code, chosen_reply, too_many}
use Rattle.tally.specs.Counts.{row_of, row_at, index_of, raised}
use Rattle.order.specs.declared.Record.{Record}
use Rattle.order.specs.declared.Record.TheVariants.{Opening, Booking, Sweep}
use Rattle.order.specs.declared.Unread.{Unread}
use Rattle.order.specs.Records.{Reading, order, reading}
use Rattle.order.specs.Kinds.{kind}
use Rattle.order.specs.Read.{meant, Reads}
use Rattle.shape.specs.Tree.{size}
use Rattle.state.specs.State.{State}
use Rattle.state.specs.Act.{seek, choice, book_as, sweep_as, act}
use Rattle.state.specs.Sound.{Sound}
use Rattle.state.specs.Range.{InRange}
use Rattle.state.proofs.SoundLaws.{act_sound}
use Rattle.memory.specs.Holds.{Holds, After}
use Rattle.memory.proofs.Whole.{after_none}
use Rattle.booking.specs.Book.{Books}
use Rattle.sweeping.specs.Swept.{Sweeps}
use Rattle.stepping.specs.declared.Single.{Single}
use Rattle.stepping.specs.Step.{step_on, unused}
use Rattle.stepping.specs.Steps.{StepsOn, Idles, Steps}

-- ---- the tally's row of an order's reply
abbrev code_of : Reply → ℕ
code_of (booked c i r f) = 0
code_of (swept d) = 0
code_of (refused x) = x

code_first : (y : Reply) (n : ℕ) → get_or (seven y n) 0 0 ≡ code_of y
code_first (booked c i r f) n = refl
code_first (swept d) n = refl
code_first (refused x) n = refl

refusal_row : (x w : ℕ) → row_at (suc x) w ≡ suc x - 1
refusal_row x w = simp (ne_eqb (suc x) 0 (λ e. omega arith))

chosen_row : (b : Bool) (c i r f : ℕ) → row_at (code_of (pick b (refused 8) (booked c i r f))) 0 ≡ row_of (pick b (refused 8) (booked c i r f))
chosen_row true c i r f = refl
chosen_row false c i r f = refl

booking_row : (s : State) (r l m : ℕ) → row_at (code_of (act s (booking r l m)).reply) 0 ≡ row_of (act s (booking r l m)).reply
booking_row s r l m = go (booking_code s.settings s.floor r l m)
  where
    by : (o : Choice) → row_at (code_of (chosen_reply s.settings s.floor (size s.tree) l o)) 0 ≡ row_of (chosen_reply s.settings s.floor (size s.tree) l o)
    by nothing = refl
    by (taken i b c u e) = chosen_row (too_many s.settings s.floor (size s.tree) b (free b (hold s.settings l)) u e) c i b (b + l)

    go : (x : ℕ) → row_at (code_of (book_as x s r l m).reply) 0 ≡ row_of (book_as x s r l m).reply
    go zero = by (choice (seek s.tree (hold s.settings l) (starts s.settings.delays r (hold s.settings l) m)).out)
    go (suc x) = refusal_row x 0

sweep_row : (s : State) (moment : ℕ) → row_at (code_of (act s (sweep moment)).reply) 1 ≡ row_of (act s (sweep moment)).reply
sweep_row s moment = go (sweep_code s.settings s.floor moment)
  where
    go : (x : ℕ) → row_at (code_of (sweep_as x s moment).reply) 1 ≡ row_of (sweep_as x s moment).reply
    go zero = refl
    go (suc x) = refusal_row x 1

-- ---- an order
module _ (bytes : List ℕ) (x : Single) (w : ℕ) (o : Order) (q : reading bytes ≡ order x.used o) (ek : index_of x.row ≡ row_at x.answer.code w) (m m' : List ℕ) where
  ordered : (s : State) → Sound s → InRange o → row_at (code_of (act s o).reply) w ≡ row_of (act s o).reply → numbers_of x.answer ≡ seven (act s o).reply (act s o).count → After m m' (act s o).after
      → (t : Tally) → StepsOn (step_on s t (reading bytes)) t x m m'
  ordered s so ir e n f t =
      let c : x.answer.code ≡ code_of (act s o).reply = ap (λ (l : List ℕ). get_or l 0 0) n ∙ code_first (act s o).reply (act s o).count in
      let k : 8 ≤ x.used = rw q at (kind bytes) in
      rw q (record {
        some = omega (arith, k);
        numbers = n;
        used = refl;
        tally = ap (raised t) (ek ∙ (ap (λ (y : ℕ). row_at y w) c ∙ e));
        after = f;
        sound = act_sound s so o ir;
      })

-- what an outcome is told as
pub record Told (outcome : Result Answer Refused) (u w : ℕ) (x : Single) : Type 0 where
  pub answer : x.answer ≡ answer_of outcome
  pub used : x.used ≡ u
  pub row : index_of x.row ≡ row_at (answer_of outcome).code w

module _ (bytes : List ℕ) (r : Result Record Unread) (n : Reads bytes r) where
  pub booked_steps : (b : Moment) (l p u : ℕ) → r ≡ Ok (Booking b l p u) → (y : Result Answer Refused) (x : Single) (m m' : List ℕ)
      → ((s : State) → Sound s → Holds m s → Books b.ticks l p (answer_of y) m m' s) → Told y u 0 x → Steps bytes (Ok x) m m'
  booked_steps b l p u q y x m m' f e s o h =
      ordered bytes x 0 (booking b.ticks l p) (sym n.is ∙ ap (meant bytes) q ∙ ap (λ (z : ℕ). order z (booking b.ticks l p)) (sym e.used)) (rw e.answer e.row) m m' s o tt (booking_row s b.ticks l p) (rw e.answer (f s o h).answer) (f s o h).after

  pub swept_steps : (b : Moment) (u : ℕ) → r ≡ Ok (Sweep b u) → (y : Result Answer Refused) (x : Single) (m m' : List ℕ)
      → ((s : State) → Sound s → Holds m s → Sweeps b.ticks (answer_of y) m m' s) → Told y u 1 x → Steps bytes (Ok x) m m'
  swept_steps b u q y x m m' f e s o h =
      ordered bytes x 1 (sweep b.ticks) (sym n.is ∙ ap (meant bytes) q ∙ ap (λ (z : ℕ). order z (sweep b.ticks)) (sym e.used)) (rw e.answer e.row) m m' s o b.in_bounds (sweep_row s b.ticks) (rw e.answer (f s o h).answer) (f s o h).after

-- ---- no order
idle_steps : (s : State) (t : Tally) (m : List ℕ) → Holds m s → (y : Reading) → step_on s t y ≡ unused s t 11 → Idles (step_on s t y) s t m m
idle_steps s t m h y e = record { unused = e; after = after_none h }

-- what is neither a booking nor a sweep: an opening, or nothing that can be read
pub no_order : (bytes : List ℕ) (r : Result Record Unread) → Reads bytes r → ((a : Moment) (b l u : ℕ) → r ≡ Ok (Booking a b l u) → ⊥) → ((a : Moment) (u : ℕ) → r ≡ Ok (Sweep a u) → ⊥)
    → (e : Unread) (m : List ℕ) → Steps bytes (Err e) m m
no_order bytes (Ok (Opening c l p f u)) x n k e m s o h t = idle_steps s t m h (reading bytes) (rw (sym x.is) refl)
no_order bytes (Ok (Booking a b l u)) x n k e m s o h t = absurd (n a b l u refl)
no_order bytes (Ok (Sweep a u)) x n k e m s o h t = absurd (k a u refl)
no_order bytes (Err i) x n k e m s o h t = idle_steps s t m h (reading bytes) (rw (sym x.is) refl)
