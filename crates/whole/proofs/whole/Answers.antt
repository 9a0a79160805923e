-- `whole::whole`: the three parts are the whole link. Assumes nothing.
use native.Mathlib.Omega.{arith}
use Rattle.std.proofs.Common.{rules}
use Rattle.settled.proofs.Saying.{says_no, says_not, says_map}
use Rattle.whole.proofs.Wholeness.{whole_long, whole_settled, whole_treed, whole_spared, parts_whole}
use Rattle.whole.proofs.whole.Goals as goal
use Rattle.whole.proofs.whole.Goals.{then-mem-ge-HEADER_BYTES, else-mem-ge-HEADER_BYTES, then-settled, else-settled}

pub returns-then-tree : goal.returns-then-tree
returns-then-tree c = says_map _ _ c.spared.result (λ s. parts_whole _ (search rules) (search rules) s) (λ w. whole_spared _ w) c.spared.ensures

pub returns-else-tree : goal.returns-else-tree
returns-else-tree c = says_not _ _ (search rules) (λ x. elim c.if-settled.branch [
  | then-settled w ↦ says_no _ w.tree.result w.tree.ensures (cc) (whole_treed _ x)
  | else-settled w ↦ elim c.if-mem-ge-HEADER_BYTES.branch [
    | then-mem-ge-HEADER_BYTES v ↦ says_no _ v.settled.result v.settled.ensures (cc) (whole_settled _ x)
    | else-mem-ge-HEADER_BYTES v ↦ omega (arith, whole_long _ x)
  ]
])
