use Rattle.node.specs.Layout.{node_at}
use Rattle.node.proofs.load.Goals as goal

pub returns : goal.returns
unfolding node_at
returns c = cc
