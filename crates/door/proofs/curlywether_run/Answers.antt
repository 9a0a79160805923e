-- `door::curlywether_run`: what `running::run` promises, with the tally in the caller's place. Assumes nothing.
use Rattle.door.proofs.curlywether_run.Goals as goal

pub returns : goal.returns
returns c = c.run-done.ensures
