-- What waits to be written out (`lines::output`).
use Rattle.std.specs.Prelude.{List, [], ℕ, ◌+◌, leb, length, take}
use Rattle.numbers.specs.Case.{pick}
use Rattle.lines.specs.Lines.{longest_line}
use Rattle.lines.specs.declared.output.Output.{Output}

module _ {TEXT : ℕ} where
  -- the text that waits
  abbrev pub waiting : Output TEXT → List ℕ
  waiting o = take o.len o.text

  -- what still waits where a line is to come: nothing where it might find no room, since that is written out first
  abbrev pub waits_on : Output TEXT → List ℕ
  waits_on o = pick (leb (length (waiting o) + longest_line) TEXT) (waiting o) []
