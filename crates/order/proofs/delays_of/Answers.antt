-- `order::delays_of`: after i turns the first i delays are there. Assumes nothing.
use mathlib.Core.Path.{refl}
use native.Mathlib.Omega.{arith}
use lib.ListN.{length-set}
use Rattle.order.proofs.Delays.{none_yet, one_more, all_of_them}
use Rattle.order.proofs.delays_of.Goals as goal

pub loop-i-init : goal.loop-i-init
loop-i-init c = (refl, none_yet _ _ _)

pub loop-i-preserved : goal.loop-i-preserved
loop-i-preserved c = (simp length-set c.loop-i.invariant.0, one_more _ _ _ _ _ (omega arith) c.requires.0 c.requires.1 c.loop-i.invariant.0 c.delay.ensures.0 c.loop-i.invariant.1)

pub returns : goal.returns
returns c = (c.loop-i.invariant.0, all_of_them _ _ _ _ (omega arith) (omega arith) c.requires.0 c.loop-i.invariant.0 c.loop-i.invariant.1)
