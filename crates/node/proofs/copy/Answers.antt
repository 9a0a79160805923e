-- `node::copy`: the four words of one seat are written at the other. Assumes nothing.
use native.Mathlib.Omega.{arith}
use Rattle.node.proofs.Nodes.{copied_of}
use Rattle.node.proofs.copy.Goals as goal

pub returns : goal.returns
returns c = copied_of _ _ _ _ _ _ _ c.get.ensures c.get-2.ensures c.get-3.ensures c.get-links.ensures (omega (arith, c.get-links.type_inv)) (record { lo = omega (arith, c.get.type_inv); top = omega (arith, c.get-2.type_inv); low = omega (arith, c.get-3.type_inv) }) c.save_sums.ensures.0 (cc) c.requires.within_2
