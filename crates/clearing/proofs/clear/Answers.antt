-- `clearing::clear`: the whole tree is cleared, and the header says so. Assumes nothing.
use native.Mathlib.Omega.{arith}
use Rattle.clearing.proofs.Sweep.{counts, clearable, in_range, closed_up}
use Rattle.clearing.proofs.clear.Goals as goal

pub overflow_add-spare : goal.overflow_add-spare
overflow_add-spare c = omega (arith, counts c.args.bound _ _ c.requires.1 _ _ c.get-kept.ensures c.get-room.ensures)

pub overflow_sub-spare : goal.overflow_sub-spare
overflow_sub-spare c = omega (arith, counts c.args.bound _ _ c.requires.1 _ _ c.get-kept.ensures c.get-room.ensures)

pub below-requires : goal.below-requires
below-requires c = clearable c.args.bound _ _ c.requires.1 _ _ c.get-kept.ensures c.get-room.ensures

pub overflow_sub-dropped : goal.overflow_sub-dropped
overflow_sub-dropped c = omega (arith, in_range c.args.bound _ _ c.requires.1 _ _ c.get-kept.ensures c.get-room.ensures _ _ c.below.ensures)

pub overflow_sub-kept : goal.overflow_sub-kept
overflow_sub-kept c = omega (arith, in_range c.args.bound _ _ c.requires.1 _ _ c.get-kept.ensures c.get-room.ensures _ _ c.below.ensures)

pub returns : goal.returns
returns c = λ s L. closed_up c.args.bound _ s L _ _ c.get-kept.ensures c.get-room.ensures _ _ c.below.ensures _ c.put.ensures
