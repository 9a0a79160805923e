-- `whole::spares::spared`: what is left of the list is right exactly if the whole list is. Assumes nothing.
use mathlib.Core.Bool.{false}
use native.Mathlib.Omega.{arith}
use Rattle.std.proofs.lemmas.Grind.{common_steps}
use Rattle.settled.proofs.Saying.{says_yes, says_no}
use Rattle.whole.proofs.Threading.{way_out, way_not, way_beside, way_more, way_end, read_spares}
use Rattle.whole.proofs.spares.spared.Goals as goal
use Rattle.whole.proofs.spares.spared.Goals.{then-not-spare-via-then-not-spare, then-not-spare-via-else-not-spare+then-not-blank}

pub returns-then-not-contains : goal.returns-then-not-contains
returns-then-not-contains c = read_spares _ _ _ _ false c.get-room.ensures c.get-kept.ensures c.get-at.ensures (way_out _ _ _ _ _ _ c.loop-after.invariant c.loop-after-test.true (λ h. grind (arith, common_steps)))

pub returns-then-not-spare : goal.returns-then-not-spare
returns-then-not-spare c = read_spares _ _ _ _ false c.get-room.ensures c.get-kept.ensures c.get-at.ensures (elim c.then-not-spare.branch [
  | then-not-spare-via-then-not-spare w ↦ way_not _ _ _ _ _ _ c.loop-after.invariant c.loop-after-test.true _ _ c.near.ensures c.load-n.ensures (says_no _ c.spare.result c.spare.ensures w.if-not-spare.true)
  | then-not-spare-via-else-not-spare+then-not-blank w ↦ way_beside _ _ _ _ _ _ c.loop-after.invariant c.loop-after-test.true _ _ c.near.ensures c.load-n.ensures _ _ c.far.ensures c.load-beside.ensures (says_no _ w.blank.result w.blank.ensures w.if-not-blank.true)
])

pub loop-after-preserved : goal.loop-after-preserved
loop-after-preserved c = way_more _ _ _ _ _ _ c.loop-after.invariant c.loop-after-test.true _ _ c.near.ensures c.load-n.ensures _ _ c.far.ensures c.load-beside.ensures (grind (arith, common_steps)) (grind (arith, common_steps)) (says_yes _ c.spare.result c.spare.ensures c.if-not-spare.false) (says_yes _ c.blank.result c.blank.ensures c.if-not-blank.false)

pub returns : goal.returns
returns c = read_spares _ _ _ _ _ c.get-room.ensures c.get-kept.ensures c.get-at.ensures (way_end _ _ _ _ _ _ c.loop-after.invariant c.loop-after-test.false)
