-- What each public call's contract gives, in full, for every byte string and every memory: its codes, when exactly 2 is given, what a refusal
-- leaves, bytes used, tally and answer slice. Crate promise says demand 1 of it (Safety.antt).
-- 01, What comes back: "Every code but 0 leaves link memory as it stood before that record, byte for byte."
use Rattle.std.specs.Prelude.{◌≡◌, ◌⊎◌, ◌↔◌, ◌≢◌, List, [], ◌∷◌, ℕ, ◌*◌, ◌≤◌, length, drop}
use Rattle.numbers.specs.Words.{word}
use Rattle.tally.specs.declared.Tally.{Tally}
use Rattle.rule.specs.Answer.{numbers_of}
use Rattle.tally.specs.Counts.{row_if, row_at, raised}
use Rattle.rule.specs.Order.{Order}
use Rattle.order.specs.Records.{order, reading}
use Rattle.memory.specs.Header.{need}
use Rattle.memory.specs.Holds.{Whole, Past}
use Rattle.calls.specs.declared.open.Opened.{Opened}
use Rattle.calls.specs.declared.act.Done.{Done}
use Rattle.running.specs.declared.RunDone.{RunDone}
use Rattle.calls.specs.declared.tell.Told.{Told}
use Rattle.grounds.specs.Sevens.{AllRefused}

-- ---- open
pub record OpenDoor (room : ℕ) (o : Opened) (m m' : List ℕ) : Type 0 where
  pub code : (o.code ≡ 0) ⊎ ((o.code ≡ 1) ⊎ (o.code ≡ 11))
  -- "Bytes used are the record's length, and 0 under 1, 2 and 11"
  pub refused : o.code ≢ 0 → (o.used ≡ 0) × (m' ≡ m)
  -- "Memory past what that room needs is never written."
  pub past : Past (need room) m m'

-- ---- act
pub record ActDoor (t : Tally) (bytes : List ℕ) (d : Done) (m m' : List ℕ) : Type 0 where
  pub code : (d.acted.answer.code ≡ 0) ⊎ ((2 ≤ d.acted.answer.code) × (d.acted.answer.code ≤ 11))
  -- "2: the lent memory is not a whole link"
  pub whole : (d.acted.answer.code ≡ 2) ↔ (¬ (Whole m))
  -- "Every code but 0 leaves link memory as it stood before that record, byte for byte."
  pub refused : d.acted.answer.code ≢ 0 → m' ≡ m
  -- "A refusal has 0 in all but code and count"
  pub numbers : d.acted.answer.code ≢ 0 → numbers_of d.acted.answer ≡ d.acted.answer.code ∷ 0 ∷ 0 ∷ 0 ∷ 0 ∷ d.acted.answer.count ∷ 0 ∷ []
  pub used : d.acted.used ≤ length bytes
  -- "Bytes used are .. 0 under 1, 2 and 11"; "Codes 1, 2, 11 and 12 raise none."
  pub unread : (d.acted.answer.code ≡ 2) ⊎ (d.acted.answer.code ≡ 11) → (d.acted.used ≡ 0) × (d.tally ≡ t)
  -- "Bytes used are the record's length"; "An order acted on raises exactly one count": under every other code an order was read, its length
  -- is what was used, and the row of its answer is raised
  pub tally : d.acted.answer.code ≢ 2 → d.acted.answer.code ≢ 11 → (n : ℕ) × (o : Order) × (reading bytes ≡ order n o) × (d.acted.used ≡ n) × (d.tally ≡ raised t (row_at d.acted.answer.code (row_if o)))
  pub past : Past (need (word m 0)) m m'

-- ---- run. out, out': the answer slice before and after
pub record RunDoor (t : Tally) (bytes : List ℕ) (x : RunDone) (m m' out out' : List ℕ) : Type 0 where
  pub code : (x.ran.code ≡ 0) ⊎ ((x.ran.code ≡ 2) ⊎ ((x.ran.code ≡ 11) ⊎ (x.ran.code ≡ 12)))
  pub whole : (x.ran.code ≡ 2) ↔ (¬ (Whole m))
  -- "Every code but 0 leaves link memory as it stood before that record": a run none of whose answers has code 0 changes nothing
  pub refused : AllRefused x.ran.answered out' → m' ≡ m
  -- the place is "its length" at its end
  pub place : (x.ran.place ≤ length bytes) × (x.ran.code ≡ 0 → x.ran.place ≡ length bytes)
  -- "The unused part of the answer slice is untouched."
  pub answers : 7 * x.ran.answered ≤ length out
  pub slice : (length out' ≡ length out) × (drop (7 * x.ran.answered) out' ≡ drop (7 * x.ran.answered) out)
  pub past : Past (need (word m 0)) m m'

-- ---- tell: "the number of voids kept, with code 0, or 0 voids with code 2"
pub record TellDoor (x : Told) (m : List ℕ) : Type 0 where
  pub code : (x.code ≡ 0) ⊎ (x.code ≡ 2)
  pub whole : (x.code ≡ 2) ↔ (¬ (Whole m))
  pub refused : x.code ≢ 0 → x.voids ≡ 0
