use native.Mathlib.Omega.{arith}
use Rattle.tracing.proofs.Tracing.{noted_low, noted_in, tracing_start, traced, place_small, right_in, next_in, deeper, tracing_next, tracing_at, lower}
use Rattle.tracing.proofs.trace_on.Goals as goal

pub offset_bounds-way-noted : goal.offset_bounds-way-noted
offset_bounds-way-noted c = omega (arith, noted_low _ _ _ _ _ c.requires.1)

pub bounds-way-noted : goal.bounds-way-noted
bounds-way-noted c = (noted_low _ _ _ _ _ c.requires.1).1

pub overflow_cast-way : goal.overflow_cast-way
overflow_cast-way c = omega (arith, noted_in _ _ _ _ _ c.requires.1)

pub load-n-requires : goal.load-n-requires
load-n-requires c = noted_in _ _ _ _ _ c.requires.1

pub loop-n-init : goal.loop-n-init
loop-n-init c = λ t P. tracing_start _ _ _ _ _ P _ c.load-n.ensures

pub far-requires : goal.far-requires
far-requires c = omega (arith, place_small _ _ _ _ _ _ _ _ (c.loop-n.invariant _ c.requires.1))

pub load-split-requires : goal.load-split-requires
load-split-requires c = right_in _ _ _ _ _ _ _ _ (c.loop-n.invariant _ c.requires.1) c.loop-n-test.true _ c.far.ensures

pub near-at-requires : goal.near-at-requires
near-at-requires c = omega (arith, place_small _ _ _ _ _ _ _ _ (c.loop-n.invariant _ c.requires.1))

pub overflow_add-depth : goal.overflow_add-depth
overflow_add-depth c = omega (arith, (deeper _ _ _ _ _ _ _ _ (c.loop-n.invariant _ c.requires.1) c.loop-n-test.true _ c.far.ensures _ c.load-split.ensures _ c.near-at.ensures).1)

pub overflow_cast-way-in-loop-n : goal.overflow_cast-way-in-loop-n
overflow_cast-way-in-loop-n c = omega (arith, next_in _ _ _ _ _ _ _ _ (c.loop-n.invariant _ c.requires.1) c.loop-n-test.true _ c.far.ensures _ c.load-split.ensures _ c.near-at.ensures)

pub offset_bounds-way-depth : goal.offset_bounds-way-depth
offset_bounds-way-depth c = omega (arith, (deeper _ _ _ _ _ _ _ _ (c.loop-n.invariant _ c.requires.1) c.loop-n-test.true _ c.far.ensures _ c.load-split.ensures _ c.near-at.ensures).1)

pub bounds-way-depth : goal.bounds-way-depth
bounds-way-depth c = (deeper _ _ _ _ _ _ _ _ (c.loop-n.invariant _ c.requires.1) c.loop-n-test.true _ c.far.ensures _ c.load-split.ensures _ c.near-at.ensures).0

pub load-n-requires-in-loop-n : goal.load-n-requires-in-loop-n
load-n-requires-in-loop-n c = next_in _ _ _ _ _ _ _ _ (c.loop-n.invariant _ c.requires.1) c.loop-n-test.true _ c.far.ensures _ c.load-split.ensures _ c.near-at.ensures

pub loop-n-smaller : goal.loop-n-smaller
loop-n-smaller c = lower _ _ _ _ _ _ _ _ (c.loop-n.invariant _ c.requires.1) c.loop-n-test.true _ c.far.ensures _ c.load-split.ensures _ c.near-at.ensures _ c.load-n-in-loop-n.ensures

pub loop-n-preserved : goal.loop-n-preserved
loop-n-preserved c = λ t P. tracing_at (tracing_next _ _ _ _ _ _ _ _ (c.loop-n.invariant t P) c.loop-n-test.true _ c.far.ensures _ c.load-split.ensures _ c.near-at.ensures _ c.load-n-in-loop-n.ensures)

pub shape_of-way : goal.shape_of-way
shape_of-way c = (c.loop-n.invariant _ c.requires.1).len

pub returns : goal.returns
returns c = λ t P. traced _ _ _ _ _ _ _ _ (c.loop-n.invariant t P) c.loop-n-test.false
