-- `ruling::bounds::Settings::delays_rise`: the iterator gives the delays. Assumes nothing.
use Rattle.std.proofs.lemmas.Iterator.{YieldsList-from_slice}
use Rattle.std.proofs.lemmas.Iterator.Consumers.{YieldsList-from_copied, YieldsList-at}
use Rattle.ruling.proofs.bounds.Settings.delays_rise.Goals as goal

pub returns : goal.returns
returns c = c.rising.ensures _ (YieldsList-from_copied (YieldsList-at c.copied.ensures.source (YieldsList-from_slice _ c.iter.ensures.rest))).runs
