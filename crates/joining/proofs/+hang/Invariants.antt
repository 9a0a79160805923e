use Rattle.node.specs.Layout.{node_at}
use Rattle.node.proofs.Seats.{near_of}
use Rattle.joining.proofs.+hang.Given as goal

-- the height of the higher one falls at each call
abbrev pub decreases-hang : goal.decreases-hang
decreases-hang l = (node_at l.mem.now (near_of l.left l.w)).height
