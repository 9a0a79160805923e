-- A run of records on a state (01, What comes back): each order acted on after the other, up to what ends the run.
use Rattle.std.specs.Prelude.{List, [], ◌∷◌, ◌++◌, ℕ, zero, suc, ◌+◌, ◌-◌, leb, length, drop}
use Rattle.numbers.specs.Case.{pick}
use Rattle.tally.specs.declared.Tally.{Tally}
use Rattle.rule.specs.Order.{Order}
use Rattle.rule.specs.Answer.{seven}
use Rattle.tally.specs.Counts.{row_of, raised}
use Rattle.order.specs.Records.{Reading, unread, opening, order, reading}
use Rattle.state.specs.State.{State}
use Rattle.state.specs.Act.{act}

pub record Ran : Type 0 where
  pub state : State
  pub tally : Tally
  pub answers : List (List ℕ)
  pub code : ℕ
  pub place : ℕ

abbrev pub ended : State → Tally → (code place : ℕ) → Ran
ended s t code place = record { state = s; tally = t; answers = []; code = code; place = place }

abbrev pub answered : List ℕ → Ran → Ran
answered numbers x = record { state = x.state; tally = x.tally; answers = numbers ∷ x.answers; code = x.code; place = x.place }

-- "Codes 2, 11 and 12 end a run, write no seven numbers, and give the place of the first byte not acted on"
abbrev pub onward : State → Tally → (place : ℕ) → Reading → ((used : ℕ) → Order → Ran) → Ran
onward s t place (unread x) f = ended s t x place
onward s t place (opening n o) f = ended s t 11 place
onward s t place (order n o) f = f n o

-- n: no more records than this; room: the numbers that the answer slice still takes; place: the bytes before these
abbrev pub run_from : (n : ℕ) → State → Tally → (room place : ℕ) → List ℕ → Ran
run_from zero s t room place bytes = ended s t 0 place
run_from (suc n) s t room place [] = ended s t 0 place
run_from (suc n) s t room place (b ∷ bs) =
    pick (leb 7 room)
    (onward s t place (reading (b ∷ bs)) (λ used o.
    let y = act s o in
    answered (seven y.reply y.count) (run_from n y.after (raised t (row_of y.reply)) (room - 7) (place + used) (drop used (b ∷ bs)))))
    (ended s t 12 place)

abbrev pub run_on : State → Tally → (room : ℕ) → List ℕ → Ran
run_on s t room bytes = run_from (length bytes) s t room 0 bytes

-- the answers one after the other
abbrev pub flat : List (List ℕ) → List ℕ
flat [] = []
flat (x ∷ xs) = x ++ flat xs
