use mathlib.Core.Path.{◌≡◌}
use Prim.Native.Nat.{ℕ}
use lib.ListN.{length, get_or}
use Rattle.node.specs.Layout.{node_at}
use Rattle.search.specs.Trails.{Followable, Trailing}
use Rattle.search.proofs.follow_on.Given as goal

abbrev pub invariant-loop-u : goal.invariant-loop-u
invariant-loop-u l =
    Followable l.mem l.far l.u × ((root : ℕ) → Trailing l.mem root l.behind l.initial.far l.initial.u → Trailing l.mem root l.behind l.far l.u) × (length l.far ≡ length l.initial.far)

-- the height of the node reached
abbrev pub decreases-loop-u : goal.decreases-loop-u
decreases-loop-u l = (node_at l.mem (get_or l.far l.u.ahead.deep 0)).height
