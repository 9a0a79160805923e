-- `opening::single::open_single`: header, leaf, spare places. Assumes nothing.
use Rattle.ruling.specs.Settings.{settings_of}
use Rattle.opening.proofs.Beginning.{lay_pre, begun}
use Rattle.opening.proofs.single.open_single.Goals as goal

pub lay-requires : goal.lay-requires
lay-requires c = lay_pre _ _ _ (settings_of c.args.settings.now) c.args.floor.ticks c.requires.0 c.requires.1 c.put_header.ensures _ c.key-key.ensures (rw c.leaf.ensures at c.save.ensures)

pub returns : goal.returns
returns c = begun _ _ _ (settings_of c.args.settings.now) c.args.floor.ticks c.requires.0 c.requires.1 c.put_header.ensures _ c.key-key.ensures (rw c.leaf.ensures at c.save.ensures) _ c.requires.2 c.lay.ensures
