-- `memory::refloor` writes one word. Assumes nothing.
use native.Mathlib.Omega.{arith}
use Rattle.memory.proofs.Shortening.{refloored}
use Rattle.memory.proofs.refloor.Goals as goal

pub returns : goal.returns
returns c = λ s L. refloored _ s L _ _ (omega arith) c.put.ensures
