-- `calls::open::try_open`: an opening of too many lines is out of bounds. The rest the check finds. Assumes nothing.
use Rattle.std.proofs.Common.{rules}
use Rattle.calls.proofs.Opening.{too_many}
use Rattle.calls.proofs.open.try_open.Goals as goal

pub returns-then-lines-gt-MOST_LINES : goal.returns-then-lines-gt-MOST_LINES
returns-then-lines-gt-MOST_LINES c =
    too_many _ c.read_opening.result c.read_opening.ensures c.in-Opening.channels c.in-Opening.lines c.in-Opening.leap c.in-Opening.floor c.in-Opening.used (search rules) _ _ c.if-lines-gt-MOST_LINES.true
