-- `rule::fit::hold`: the burst's own length. Assumes nothing.
use mathlib.Core.Path.{refl}
use Rattle.rule.specs.Fit.{hold}
use Rattle.rule.proofs.fit.hold.Goals as goal

pub returns : goal.returns
unfolding hold
returns c = (λ g. refl, c.requires)
