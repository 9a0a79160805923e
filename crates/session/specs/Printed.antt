-- What the program writes (01, A session in full), whatever it reads: of a writer that tells its bytes.
use Rattle.std.specs.Prelude.{◌≡◌, ◌≢◌, List, [], Option, ◌++◌, ℕ, zero, suc, ◌*◌, ◌==◌, if◌then◌else◌, length, get_or, take, drop}
use Rattle.std.specs.Io.KnownBytes.{Appends}
use Rattle.digits.specs.Digits.{field}
use Rattle.rule.specs.declared.answer.Answer.{Answer}
use Rattle.tally.specs.declared.Tally.{Tally}
use Rattle.running.specs.declared.RunDone.{RunDone}
use Rattle.running.specs.Runs.{Runs}
use Rattle.calls.specs.declared.open.Opened.{Opened}
use Rattle.calls.specs.declared.tell.Told.{Told}
use Rattle.calls.specs.Opens.{Opens}
use Rattle.calls.specs.Calls.{Tells}
use Rattle.lines.specs.Lines.{line_of, written}
use Rattle.lines.specs.declared.Line.TheVariants.{Opening, Refusal, Kept}

-- the answer whose seven numbers these are
abbrev pub answer_from : List ℕ → Answer
answer_from xs = record {
  code = get_or xs 0 0;
  channel = get_or xs 1 0;
  line = get_or xs 2 0;
  start = get_or xs 3 0;
  finish = get_or xs 4 0;
  count = get_or xs 5 0;
  dropped = get_or xs 6 0;
}

-- the lines of the first answers of a run, which are numbered from 1
abbrev pub answers_written : List ℕ → (count : ℕ) → List ℕ
answers_written numbers zero = []
answers_written numbers (suc i) = answers_written numbers i ++ written (line_of (suc i) (answer_from (take 7 (drop (7 * i) numbers))))

-- so many answers have room: the least record has eight bytes, and at most 32,768 are read
abbrev pub most_answers : ℕ
most_answers = 4096

-- "A run ended by 11 prints `n R 11`"
abbrev pub ending_written : (code answered : ℕ) → List ℕ
ending_written code n = if code == 0 then [] else written (Refusal (suc n) code)

-- a run of the records, with room for every answer, and what is written of it: "then for order n ..; last `E` and the voids kept".
-- No line tells the tally, so it may begin with any.
pub record Plays (records m m' : List ℕ) (old new : Option (List ℕ)) : Type 0 where
  pub tally : Tally
  pub done : RunDone
  pub before : List ℕ
  pub numbers : List ℕ
  pub told : Told
  pub room : length before ≡ 7 * most_answers
  pub runs : Runs tally records done m m' before numbers
  pub tells : Tells told m'
  pub writes : Appends old new ((answers_written numbers done.ran.answered ++ ending_written done.ran.code done.ran.answered) ++ written (Kept told.voids))

-- an opening with room 256; "It prints the opening `0 L channels lines`"; "A refused opening prints only `0 R code`"
pub record Serves (bytes m m' : List ℕ) (old new : Option (List ℕ)) : Type 0 where
  pub opened : Opened
  pub fresh : List ℕ
  pub opens : Opens 256 bytes opened m fresh
  pub refused : opened.code ≢ 0 → Appends old new (written (Refusal 0 opened.code))
  pub played : opened.code ≡ 0 → (begun : Option (List ℕ)) × Appends old begun (written (Opening (field 2 1 bytes) (field 3 1 bytes))) × Plays (drop opened.used bytes) fresh m' begun new
