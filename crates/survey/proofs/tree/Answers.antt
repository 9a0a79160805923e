-- `survey::tree`: what the survey of the root says is what the tree of a whole link is. Assumes nothing.
use Prim.Native.Nat.{ℕ, ◌+◌, ◌≤◌, ◌<◌}
use native.Mathlib.Omega.{arith}
use Rattle.std.proofs.Common.{rules}
use Rattle.rule.specs.Height.{Allowed}
use Rattle.settled.proofs.Saying.{says_not}
use Rattle.survey.proofs.Planting.{Limits, zeros, not_planted, plants}
use Rattle.survey.proofs.tree.Goals as goal

limits : (k h limit : ℕ) → Allowed k h → limit ≤ h + 1 → h < limit → Limits k h limit
limits k h limit a i j = record { allowed = a; keeps = i; takes = j }

pub returns-then-visits-eq0 : goal.returns-then-visits-eq0
returns-then-visits-eq0 c = plants _ _ _ _ _ _ _ c.get-room.ensures c.get-channels.ensures c.get-floor.ensures c.get-kept.ensures (omega (arith, c.get-kept.ensures, c.requires.bounded)) (limits _ _ _ c.allowed-limit.ensures (omega arith) (omega arith)) _ _ _ (omega (arith, c.get-channels.ensures, c.requires.bounded)) (zeros 64) _ _ c.is_some.ensures c.survey-last.ensures c.open_ends.result c.if-visits-eq0.true.0 c.if-visits-eq0.true.1 c.open_ends.ensures

pub returns-else-visits-eq0 : goal.returns-else-visits-eq0
returns-else-visits-eq0 c = says_not _ _ (search rules) (not_planted _ _ _ _ _ _ _ c.get-room.ensures c.get-channels.ensures c.get-floor.ensures c.get-kept.ensures (omega (arith, c.get-kept.ensures, c.requires.bounded)) (limits _ _ _ c.allowed-limit.ensures (omega arith) (omega arith)) _ _ _ (omega (arith, c.get-channels.ensures, c.requires.bounded)) (zeros 64) _ _ c.is_some.ensures c.survey-last.ensures c.if-visits-eq0.either)
