-- `door::curlywether_act`: what `calls::act::act` promises, with the tally in the caller's place. Assumes nothing.
use Rattle.door.proofs.curlywether_act.Goals as goal

pub returns : goal.returns
returns c = c.act-done.ensures
