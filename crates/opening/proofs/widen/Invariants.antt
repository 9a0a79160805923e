use Rattle.rule.specs.Settings.{Settings}
use Rattle.state.specs.Open.{single, widened, fewer}
use Rattle.memory.specs.Holds.{After}
use Rattle.opening.specs.Stages.{Begun}
use Rattle.opening.proofs.widen.Given as goal

abbrev pub invariant-loop-channel : goal.invariant-loop-channel
invariant-loop-channel l = (g : Settings) → Begun g l.channels l.floor l.initial.mem → After l.initial.mem l.mem (widened (fewer l.channel) (single g l.floor))
