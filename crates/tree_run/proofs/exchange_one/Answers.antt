-- `tree_run::exchange_one`: the void that comes takes the place that is free. Assumes nothing.
use Rattle.tree_run.proofs.Steps.{alone, inner, cut_insertable, cut_grown, ended}
use Rattle.tree_run.proofs.exchange_one.Goals as goal

pub remove-q-requires : goal.remove-q-requires
remove-q-requires c = record { bound = inner _ c.requires.1; alone = alone _ c.requires.1 }

pub insert-requires : goal.insert-requires
insert-requires c = cut_insertable _ _ _ _ c.requires.1 c.remove-q.ensures _ _

pub set_end-requires : goal.set_end-requires
set_end-requires c = alone _ (cut_grown _ _ _ _ c.requires.1 c.remove-q.ensures _ _ _ c.insert.ensures)

pub returns : goal.returns
returns c = ended _ _ _ _ (cut_grown _ _ _ _ c.requires.1 c.remove-q.ensures _ _ _ c.insert.ensures) c.set_end.ensures
