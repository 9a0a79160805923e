-- `survey::survey`: each answer, by the law for it in proofs/Surveying.antt. The measure is the limit of the height.
-- Assumes nothing.
use native.Mathlib.Omega.{arith}
use Rattle.std.proofs.Common.{rules}
use Rattle.settled.proofs.Saying.{says_yes, says_no}
use Rattle.survey.proofs.Surveying.{nothing, spent, high, leaf_says, seated, left_no, right_no, lower, node_says}
use Rattle.survey.proofs.+survey.Goals as goal

pub returns-then-visits-eq0 : goal.returns-then-visits-eq0
returns-then-visits-eq0 t c = nothing _ _ _ _ _ _ _ _ _ _ _ (omega arith) (spent _ _ _ _ _ _ _ _ _ c.if-visits-eq0.true)

pub returns-then-limit-h : goal.returns-then-limit-h
returns-then-limit-h t c = nothing _ _ _ _ _ _ _ _ _ _ _ (omega arith) (high _ _ _ _ _ _ _ _ _ _ c.load-n.ensures c.if-limit-h.true)

pub returns-then-h-eq0 : goal.returns-then-h-eq0
returns-then-h-eq0 t c = leaf_says _ _ _ _ _ _ _ _ _ _ c.load-n.ensures _ c.leaf.result c.then.result c.if-visits-eq0.false (omega arith) c.if-h-eq0.true c.if-limit-h.false c.leaf.ensures c.then.ensures.variant (search rules)

pub returns-then-not-placed : goal.returns-then-not-placed
returns-then-not-placed t c = nothing _ _ _ _ _ _ _ _ _ _ _ (omega arith) (λ v w. says_no _ c.placed.result c.placed.ensures c.if-not-placed.true (seated _ _ _ _ _ _ _ _ _ _ c.load-n.ensures c.if-h-eq0.false v w))

pub returns-in_default : goal.returns-in_default
returns-in_default t c = (left_no _ _ _ _ _ _ _ _ _ _ c.load-n.ensures _ c.near-l.ensures c.if-h-eq0.false c.if-visits-eq0.false _ _ c.in_default.ensures)

pub returns-in_default-survey : goal.returns-in_default-survey
returns-in_default-survey t c = (right_no _ _ _ _ _ _ _ _ _ _ c.load-n.ensures _ c.near-l.ensures c.if-h-eq0.false c.if-visits-eq0.false _ _ _ c.in-Some.ensures _ c.far-r.ensures _ _ c.in_default-survey.ensures)

pub joined-requires : goal.joined-requires
joined-requires t c = let l = lower _ _ _ _ _ _ c.args.limit _ _ _ c.load-n.ensures _ c.near-l.ensures c.if-h-eq0.false c.if-visits-eq0.false _ _ _ c.in-Some.ensures _ c.far-r.ensures _ _ _ c.in-Some-survey.ensures _ _ c.load.ensures c.load-2.ensures in omega (arith, l, c.load-n.type_inv)

pub returns : goal.returns
returns t c = rw c.then_some.ensures (node_says _ _ _ _ _ _ _ _ _ _ c.load-n.ensures _ c.near-l.ensures c.if-h-eq0.false c.if-visits-eq0.false _ _ _ c.in-Some.ensures _ c.far-r.ensures _ _ _ c.in-Some-survey.ensures _ _ c.load.ensures c.load-2.ensures (says_yes _ c.placed.result c.placed.ensures c.if-not-placed.false) (omega arith) c.if-limit-h.false c.joined.result c.joined.ensures)
