use mathlib.Core.Path.{◌≡◌}
use lib.ListN.{length, get_or}
use Rattle.shape.specs.Tree.{Tree}
use Rattle.node.specs.Layout.{node_at}
use Rattle.node.specs.Rep.{Stands}
use Rattle.search.proofs.Walks.{On}
use Rattle.search.proofs.Treads.{Treading}
use Rattle.search.specs.Trails.{Followable}
use Rattle.search.proofs.Trails.{Trailed}
use Rattle.search.proofs.walk.Given as goal

abbrev pub invariant-loop-place : goal.invariant-loop-place
invariant-loop-place l =
    (l.place ≡ (node_at l.mem (get_or l.way l.depth 0)).place) × ((t : Tree) → Stands l.mem l.root t → On l.mem l.r l.f t l.way l.depth l.mark l.visits) × Treading l.mem l.root l.initial.way l.way l.depth l.mark l.below
    × Followable l.mem l.far l.t × Trailed l.mem l.root l.behind l.far l.t × (length l.far ≡ length l.initial.far)

-- the height of the node reached
abbrev pub decreases-loop-place : goal.decreases-loop-place
decreases-loop-place l = (node_at l.mem (get_or l.way l.depth 0)).height
