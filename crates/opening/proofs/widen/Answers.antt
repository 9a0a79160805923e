-- `opening::widen`: with c channels written, the memory holds the opening's state of c channels. Assumes nothing.
use native.Mathlib.Omega.{arith}
use Rattle.opening.proofs.Widening.{limits, ends, roomy, widens}
use Rattle.opening.proofs.widen.Goals as goal

pub add-requires : goal.add-requires
add-requires c = roomy c.requires.0 _ _ _ c.requires.1 _ (omega arith) c.loop-channel-test.true _ (c.loop-channel.invariant c.requires.0 c.requires.1) _ c.put.ensures

pub loop-channel-preserved : goal.loop-channel-preserved
loop-channel-preserved c = λ g B. widens g _ _ _ B _ (omega arith) c.loop-channel-test.true _ (c.loop-channel.invariant g B) _ c.put.ensures _ _ c.key.ensures c.add.ensures

pub returns : goal.returns
returns c = λ g B. ends g _ _ _ B _ _ (omega (arith, limits g _ _ _ B)) c.loop-channel-test.false (c.loop-channel.invariant g B)
