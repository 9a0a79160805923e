-- `seeking::start_on`: line 0's start is the arrival, a later one's as its delay is.
use native.Mathlib.Omega.{arith}
use Rattle.seeking.proofs.Seeking.{few_lines, short_delay, delayed_by}
use Rattle.seeking.proofs.start_on.Goals as goal

pub tried-requires : goal.tried-requires
tried-requires c = (
  c.requires.hold_bound.1,
  short_delay _ c.args.arrival.ticks c.args.hold c.args.permitted c.requires.whole.0 _ (omega (arith, c.if-line-eq0.false, c.requires.whole.1)) _ c.get-d.ensures,
  omega (arith, c.if-line-eq0.false, c.requires.whole.1, few_lines _ c.args.arrival.ticks c.args.hold c.args.permitted c.requires.whole.0),
)

pub returns-then-tried : goal.returns-then-tried
returns-then-tried c = rw c.if-tried.true at (delayed_by _ c.args.arrival.ticks c.args.hold c.args.permitted c.requires.whole.0 _ (omega (arith, c.if-line-eq0.false, c.requires.whole.1)) _ c.get-d.ensures c.args.line (omega (arith, c.if-line-eq0.false)) _ c.tried.ensures)

pub returns : goal.returns
returns c = rw c.if-tried.false at (delayed_by _ c.args.arrival.ticks c.args.hold c.args.permitted c.requires.whole.0 _ (omega (arith, c.if-line-eq0.false, c.requires.whole.1)) _ c.get-d.ensures c.args.line (omega (arith, c.if-line-eq0.false)) _ c.tried.ensures)
