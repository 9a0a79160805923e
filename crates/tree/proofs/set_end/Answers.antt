-- `tree::set_end`: the way from the root. Assumes nothing.
use native.Mathlib.Omega.{arith}
use Rattle.tracing.proofs.Below.{within_alone}
use Rattle.tracing.proofs.Tracing.{partway_head}
use Rattle.tree.proofs.set_end.Goals as goal

pub overflow_cast-way : goal.overflow_cast-way
overflow_cast-way c = omega (arith, within_alone _ _ c.requires)

pub set_end_on-requires : goal.set_end_on-requires
set_end_on-requires c = (_, partway_head _ _ _ _ (omega arith) c.requires)

pub returns : goal.returns
returns c = c.set_end_on.ensures _ (partway_head _ _ _ _ (omega arith) c.requires)
