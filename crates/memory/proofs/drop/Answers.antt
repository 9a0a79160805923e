use native.Mathlib.Omega.{arith}
use Rattle.memory.proofs.Shortening.{kept_is}
use Rattle.memory.proofs.Dropping.{remove_pre, removal}
use Rattle.memory.proofs.drop.Goals as goal

pub remove-q-requires : goal.remove-q-requires
remove-q-requires c = let p = remove_pre _ _ c.requires.1 c.requires.2 in record { bound = p.0; alone = p.1 }

pub give_back-requires : goal.give_back-requires
give_back-requires c = (_, _, _, removal _ _ c.requires.1 _ _ _ c.requires.2 c.remove-q.ensures)

pub returns : goal.returns
returns c = λ s L. c.give_back.ensures _ s _ (removal _ s L _ _ _ (omega (arith, c.requires.2, kept_is _ _ c.requires.1, kept_is _ s L)) c.remove-q.ensures)
