use lib.ListN.{get_or}
use Rattle.node.specs.Layout.{node_at}
use Rattle.search.proofs.+descend.Given as goal

-- the height falls at each call
abbrev pub decreases-descend : goal.decreases-descend
decreases-descend l = (node_at l.mem.now (get_or l.way.now l.depth 0)).height
