-- `joining::join`: by the heights read, the higher tree takes the lower (Joining). Assumes nothing.
use mathlib.Core.Path.{refl}
use mathlib.Core.Bool.{true}
use Rattle.summing.proofs.Sums.{read_at}
use Rattle.turning.proofs.Sides.{both_within, both_small}
use Rattle.joining.proofs.Joining.{joins_by}
use Rattle.joining.proofs.join.Goals as goal

pub near-requires : goal.near-requires
near-requires c = both_small _ _ _ c.requires

pub load-l-requires : goal.load-l-requires
load-l-requires c = rw c.near.ensures (both_within _ true _ _ c.requires).0

pub far-requires : goal.far-requires
far-requires c = both_small _ _ _ c.requires

pub load-r-requires : goal.load-r-requires
load-r-requires c = rw c.far.ensures (both_within _ true _ _ c.requires).1

pub returns : goal.returns
returns c = joins_by _ _ _ _ _ (read_at _ c.near.ensures c.load-l.ensures) (read_at _ c.far.ensures c.load-r.ensures) _ _ refl c.hang.ensures
