-- `memory::shorten`: the way noted is the beginning of the key's, and from there on it is the tree's. Assumes nothing.
use Rattle.memory.proofs.Shortening.{partway, shortened}
use Rattle.memory.proofs.shorten.Goals as goal

pub set_end_on-requires : goal.set_end_on-requires
set_end_on-requires c = (_, partway _ _ c.requires.1.link _ _ _ c.requires.1)

pub returns : goal.returns
returns c = λ s L. shortened _ s L _ _ _ (c.set_end_on.ensures _ (partway _ _ c.requires.1.link _ _ _ c.requires.1))
