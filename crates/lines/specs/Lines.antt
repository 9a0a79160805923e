-- The lines of a session (01, A session in full): which line says an answer, and the text of each.
use Rattle.std.specs.Prelude.{List, [], ◌∷◌, ℕ, Option, ◌++◌, ◌==◌, ◌≤◌, if◌then◌else◌, length, codes, decimal}
use Rattle.std.specs.Io.KnownBytes.{Appends}
use Rattle.rule.specs.declared.answer.Answer.{Answer}
use Rattle.lines.specs.declared.Line.{Line}
use Rattle.lines.specs.declared.Line.TheVariants.{Opening, Booking, Sweep, Refusal, Kept}

-- of the n-th record's answer: "`n R code`" where it has a code, else "`n S dropped`" of a sweep, which alone has no finish,
-- else "`n B channel line start finish`"
abbrev pub line_of : (n : ℕ) → Answer → Line
line_of n a =
    if a.code == 0
    then (if a.finish == 0 then Sweep n a.dropped else Booking n a.channel a.line a.start a.finish)
    else Refusal n a.code

-- "`0 L channels lines`", "`n B channel line start finish`", "`n S dropped`", "`n R code`", "`E voids`"
abbrev pub text_of : Line → List ℕ
text_of (Opening c l) = codes "0 L " ++ decimal c ++ codes " " ++ decimal l
text_of (Booking n c l s f) = decimal n ++ codes " B " ++ decimal c ++ codes " " ++ decimal l ++ codes " " ++ decimal s ++ codes " " ++ decimal f
text_of (Sweep n d) = decimal n ++ codes " S " ++ decimal d
text_of (Refusal n x) = decimal n ++ codes " R " ++ decimal x
text_of (Kept v) = codes "E " ++ decimal v

-- a line takes at most so many bytes, its newline among them
abbrev pub longest_line : ℕ
longest_line = 128

-- a line as it is written: its text, and a newline
abbrev pub written : Line → List ℕ
written l = text_of l ++ (10 ∷ [])

-- known bytes grow, by so many at most
abbrev pub Writes : (most : ℕ) → Option (List ℕ) → Option (List ℕ) → Type 0
Writes most old new = (bs : List ℕ) × (length bs ≤ most) × Appends old new bs
