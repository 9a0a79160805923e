-- `memory::take_spare`: the first spare place is the answer, the next one becomes the first. Assumes nothing.
use Rattle.memory.proofs.Parts.{spare_read}
use Rattle.memory.proofs.take_spare.Goals as goal

pub returns : goal.returns
returns c = (c.get-p.ensures, rw (← spare_read _ _ c.near.ensures c.load-n.ensures) c.put.ensures)
