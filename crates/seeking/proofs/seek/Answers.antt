-- `seeking::seek`: line after line (Seeking).
use mathlib.Core.Path.{◌≡◌, ◌∙◌}
use Prim.Native.Nat.{◌+◌}
use native.Mathlib.Omega.{arith}
use Rattle.seeking.proofs.Seeking.{At, searchable, foresees, few_visits, few_lines, skipped, taken_here, missed, nowhere_left}
use Rattle.seeking.proofs.seek.Goals as goal
use Rattle.seeking.proofs.seek.Goals.{in-Some+in_default-leaf, in_default}

pub search-x-requires-clause-searchable : goal.search-x-requires-clause-searchable
search-x-requires-clause-searchable c = searchable _ c.args.arrival.ticks c.args.hold c.args.permitted c.requires.whole c.loop-line.way (omega (arith, c.requires.hold_bound.2, c.loop-line.invariant.1))

pub overflow_add-count : goal.overflow_add-count
overflow_add-count c = omega (arith, c.loop-line.invariant.0.few, c.loop-line-test.true, c.get-lines.ensures, few_lines _ c.args.arrival.ticks c.args.hold c.args.permitted c.requires.whole, few_visits _ c.args.arrival.ticks c.args.hold c.args.permitted c.requires.whole _ _ c.search-x.ensures.0)

pub returns-in-Some-leaf : goal.returns-in-Some-leaf
returns-in-Some-leaf c = (
  taken_here _ c.args.arrival.ticks c.args.hold c.args.permitted _ _ c.loop-line.invariant.0 _ c.start_on.ensures _ c.in-Some.is _ c.search-x.ensures.0 _ c.in-Some-leaf.is,
  record { long = omega (arith, c.requires.hold_bound.2, c.loop-line.invariant.1, c.search-x.auto.way); reaches = rw c.in-Some-leaf.is at c.search-x.ensures.1 },
  foresees _ c.args.arrival.ticks c.args.hold c.args.permitted c.requires.whole _ _ c.search-x.result c.search-x.ensures.2,
)

pub loop-line-preserved : goal.loop-line-preserved
loop-line-preserved c =
    -- the line's start is passed, whether it was tried or not
    let passed : At c.args.mem.now c.args.arrival.ticks c.args.hold c.args.permitted c.match-start_on.count (c.loop-line.line + 1) = elim c.match-start_on.branch [
      | in-Some+in_default-leaf w ↦ rw w.count-is (missed _ c.args.arrival.ticks c.args.hold c.args.permitted _ _ c.loop-line.invariant.0 _ c.start_on.ensures _ w.in-Some.is _ w.search-x.ensures.0 c.requires.whole w.in_default-leaf.is)
      | in_default w ↦ rw w.count-is (skipped _ c.args.arrival.ticks c.args.hold c.args.permitted _ _ c.loop-line.invariant.0 _ c.start_on.ensures w.in_default.is)
    ] in
    (passed, c.match-start_on.auto.way' ∙ c.loop-line.invariant.1, c.match-start_on.auto.far ∙ c.loop-line.invariant.2)

pub returns-after-start_on : goal.returns-after-start_on
returns-after-start_on c =
    let passed : At c.args.mem.now c.args.arrival.ticks c.args.hold c.args.permitted c.match-start_on.count (c.loop-line.line + 1) = elim c.match-start_on.branch [
      | in-Some+in_default-leaf w ↦ rw w.count-is (missed _ c.args.arrival.ticks c.args.hold c.args.permitted _ _ c.loop-line.invariant.0 _ c.start_on.ensures _ w.in-Some.is _ w.search-x.ensures.0 c.requires.whole w.in_default-leaf.is)
      | in_default w ↦ rw w.count-is (skipped _ c.args.arrival.ticks c.args.hold c.args.permitted _ _ c.loop-line.invariant.0 _ c.start_on.ensures w.in_default.is)
    ] in
    let last : c.loop-line.line ≡ c.get-lines.result = omega (arith, c.loop-line-test.true) in
    (nowhere_left _ c.args.arrival.ticks c.args.hold c.args.permitted _ _ passed (last ∙ c.get-lines.ensures), tt, tt)
