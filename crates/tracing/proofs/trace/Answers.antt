use native.Mathlib.Omega.{arith}
use mathlib.Core.Path.{◌∙◌}
use lib.ListN.{length-set}
use Rattle.tracing.proofs.Below.{within_alone}
use Rattle.tracing.proofs.Tracing.{partway_root}
use Rattle.tracing.proofs.trace.Goals as goal

pub overflow_cast-way : goal.overflow_cast-way
overflow_cast-way c = omega (arith, within_alone _ _ c.requires.alone)

pub trace_on-requires : goal.trace_on-requires
trace_on-requires c = (_, partway_root _ _ _ c.args.way.now c.requires.longest_way_in_bounds c.requires.alone)

pub shape_of-way : goal.shape_of-way
shape_of-way c = c.trace_on.auto.way ∙ length-set c.args.way.now 0 c.args.root

pub returns : goal.returns
returns c = c.trace_on.ensures _ (partway_root _ _ _ c.args.way.now c.requires.longest_way_in_bounds c.requires.alone)
