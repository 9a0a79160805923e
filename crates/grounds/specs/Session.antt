-- Memory that only the public calls have changed since an accepted opening, and the history that its caller knows: orders that went in,
-- numbers that came out. 01, The booking rule: "What is said of the history supposes memory that only these calls have changed ..".
use Rattle.std.specs.Prelude.{◌≡◌, ◌≢◌, List, [], ◌∷◌, ℕ, eqb, get_or, take, drop}
use Rattle.numbers.specs.Case.{pick}
use Rattle.tally.specs.declared.Tally.{Tally}
use Rattle.rule.specs.Settings.{Settings}
use Rattle.rule.specs.Fit.{hold, free}
use Rattle.rule.specs.Order.{Order, booking, sweep}
use Rattle.rule.specs.Answer.{numbers_of}
use Rattle.order.specs.Records.{opening, reading}
use Rattle.numbers.specs.Words.{Bytes}
use Rattle.shape.specs.Tree.{Tree}
use Rattle.node.specs.Layout.{root_seat}
use Rattle.node.specs.Rep.{Stands}
use Rattle.state.specs.History.{Event, books, sweeps}
use Rattle.calls.specs.declared.open.Opened.{Opened}
use Rattle.calls.specs.declared.act.Done.{Done}
use Rattle.running.specs.declared.RunDone.{RunDone}
use Rattle.calls.specs.declared.tell.Told.{Told}
use Rattle.calls.specs.Opens.{Opens}
use Rattle.running.specs.Runs.{Runs}
use Rattle.calls.specs.Calls.{Acts, Tells}
use Rattle.grounds.specs.Orders.{orders_in}

-- a call from the memory m to m', with the orders in its bytes and the numbers that answer them, seven for each. Any tally may be lent, and
-- any answer slice; an opening that is refused is a call too
pub data Call (m : List ℕ) : (orders : List Order) → (numbers m' : List ℕ) → Type 0 where
  acting : {m' : List ℕ} (t : Tally) (bytes : List ℕ) (d : Done) → Bytes bytes → Acts t bytes d m m' → Call m (orders_in 1 bytes) (numbers_of d.acted.answer) m'
  running : {m' : List ℕ} (t : Tally) (bytes out out' : List ℕ) (x : RunDone) → Bytes bytes → Runs t bytes x m m' out out' → Call m (orders_in x.ran.answered bytes) out' m'
  telling : (x : Told) → Tells x m → Call m [] [] m
  opening_refused : {m' : List ℕ} (room : ℕ) (bytes : List ℕ) (o : Opened) → Bytes bytes → Opens room bytes o m m' → o.code ≢ 0 → Call m [] [] m'

-- what an order and its seven numbers (code, channel, line, start, ..) add to the history, the latest first
abbrev pub heard : Settings → Order → (numbers : List ℕ) → List Event → List Event
heard g (booking r l p) a past = pick (eqb (get_or a 0 0) 0) (books (get_or a 1 0) (get_or a 3 0) (free (get_or a 3 0) (hold g l)) ∷ past) past
heard g (sweep moment) a past = pick (eqb (get_or a 0 0) 0) (sweeps moment ∷ past) past

abbrev pub heard_all : Settings → List Order → (numbers : List ℕ) → List Event → List Event
heard_all g [] a past = past
heard_all g (o ∷ os) a past = heard_all g os (drop 7 a) (heard g o (take 7 a) past)

-- "memory that only these calls have changed since an accepted opening", with settings g and floor F; past: what was accepted since
pub data Since (g : Settings) (F : ℕ) : (past : List Event) → (m : List ℕ) → Type 0 where
  opened : {m : List ℕ} (before bytes : List ℕ) (used : ℕ) (o : Opened) → Bytes bytes → Opens g.room bytes o before m → o.code ≡ 0
      → reading bytes ≡ opening used (record { channels = g.channels; delays = g.delays; leap = g.leap; floor = F }) → Since g F [] m
  more : {past : List Event} {m m' : List ℕ} {orders : List Order} {numbers : List ℕ} → Since g F past m → Call m orders numbers m' → Since g F (heard_all g orders numbers past) m'

-- T is the tree that a memory with this history holds
abbrev pub TreeOf : Settings → (F : ℕ) → (past : List Event) → Tree → Type 0
TreeOf g F past T = (m : List ℕ) × Since g F past m × Stands m root_seat T

-- R holds of each order of a call and its seven numbers, after the history before it
abbrev pub Each : (List Event → Order → List ℕ → Type 0) → Settings → List Event → List Order → (numbers : List ℕ) → Type 0
Each R g past [] a = Unit {0}
Each R g past (o ∷ os) a = R past o (take 7 a) × Each R g (heard g o (take 7 a) past) os (drop 7 a)
