use native.Mathlib.Omega.{arith}
use Rattle.memory.proofs.Dropping.{counts, give, dropped}
use Rattle.memory.proofs.give_back.Goals as goal

pub overflow_add-room : goal.overflow_add-room
overflow_add-room c = omega (arith, counts _ _ _ _ _ c.requires.3 _ _ c.get-kept.ensures c.get-room.ensures)

pub overflow_sub-room : goal.overflow_sub-room
overflow_sub-room c = omega (arith, counts _ _ _ _ _ c.requires.3 _ _ c.get-kept.ensures c.get-room.ensures)

pub give_spare-requires : goal.give_spare-requires
give_spare-requires c = give _ _ _ _ _ c.requires.3 _ _ c.get-kept.ensures c.get-room.ensures

pub overflow_sub-kept : goal.overflow_sub-kept
overflow_sub-kept c = omega (arith, counts _ _ _ _ _ c.requires.3 _ _ c.get-kept.ensures c.get-room.ensures)

pub returns : goal.returns
returns c = λ m0 s k R. dropped m0 s k _ _ R _ _ c.get-kept.ensures c.get-room.ensures _ c.give_spare.ensures _ c.put.ensures
