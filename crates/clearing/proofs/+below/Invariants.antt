use Rattle.node.specs.Layout.{node_at}
use Rattle.clearing.proofs.+below.Given as goal

-- the height falls at each call
abbrev pub decreases-below : goal.decreases-below
decreases-below l = (node_at l.mem.now l.s).height
