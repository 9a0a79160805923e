use Rattle.tree.proofs.remove.Goals as goal

pub returns : goal.returns
returns c = c.take_out.ensures _ c.trace-depth.ensures c.requires.bound c.requires.alone
