-- What opening from a record promises, for every input: the code and the bytes used, and the memory after.
use Rattle.std.specs.Prelude.{◌≡◌, Result, Ok, Err, List, ℕ, zero, suc, length}
use Rattle.rule.specs.Settings.{Settings, settings}
use Rattle.rule.specs.declared.refusal.Unopened.{Unopened}
use Rattle.rule.specs.Refusal.{unopened_of}
use Rattle.order.specs.Records.{Reading, unread, opening, order, Opening, reading}
use Rattle.state.specs.Open.{fresh}
use Rattle.memory.specs.Holds.{After}
use Rattle.opening.specs.Opening.{opening_code}
use Rattle.calls.specs.declared.open.Opened.{Opened}

abbrev pub settings_of : (room : ℕ) → Opening → Settings
settings_of room p = settings room p.channels p.leap p.delays

abbrev pub only : (code : ℕ) → Opened → (m m' : List ℕ) → Type 0
only x o m m' = (o ≡ record { code = x; used = 0 }) × (m' ≡ m)

-- by its code: accepted, the fresh link; refused, no byte used and none changed
abbrev pub OpensAs : (code used : ℕ) → Settings → (floor : ℕ) → Opened → (m m' : List ℕ) → Type 0
OpensAs zero used g floor o m m' = (o ≡ record { code = 0; used = used }) × After m m' (fresh g floor)
OpensAs (suc x) used g floor o m m' = only (suc x) o m m'

-- "for opening 11 then 1"
abbrev pub OpensRead : (room : ℕ) → Reading → Opened → (m m' : List ℕ) → Type 0
OpensRead room (unread x) o m m' = only x o m m'
OpensRead room (order n p) o m m' = only 11 o m m'
OpensRead room (opening n p) o m m' = OpensAs (opening_code (settings_of room p) (length m)) n (settings_of room p) p.floor o m m'

abbrev pub Opens : (room : ℕ) → (bytes : List ℕ) → Opened → (m m' : List ℕ) → Type 0
Opens room bytes o m m' = OpensRead room (reading bytes) o m m'

-- what is told of an opening: "the code and the bytes used", which are "0 under 1, 2 and 11"
abbrev pub opened_of : Result ℕ Unopened → Opened
opened_of (Ok used) = record { code = 0; used = used }
opened_of (Err why) = record { code = unopened_of why; used = 0 }
