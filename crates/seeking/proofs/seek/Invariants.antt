use Rattle.std.proofs.Common.{◌≡◌, length}
use Rattle.seeking.proofs.Seeking.{At}
use Rattle.seeking.proofs.seek.Given as goal

abbrev pub invariant-loop-line : goal.invariant-loop-line
invariant-loop-line l = At l.mem l.arrival.ticks l.hold l.permitted l.count l.line × (length l.way ≡ length l.initial.way) × (length l.far ≡ length l.initial.far)
