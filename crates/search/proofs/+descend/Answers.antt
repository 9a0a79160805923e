use Prim.Native.Nat.{◌+◌}
use mathlib.Core.Path.{◌≡◌}
use native.Mathlib.Omega.{arith}
use Rattle.numbers.proofs.Slices.{whole}
use Rattle.search.proofs.Descents.{few, ends_here}
use Rattle.search.proofs.+descend.Goals as goal

pub returns-then-place-eq0 : goal.returns-then-place-eq0
returns-then-place-eq0 t c = ends_here _ _ c.args.f _ _ c.requires c.if-place-eq0.true

pub returns-then-a-eq0 : goal.returns-then-a-eq0
returns-then-a-eq0 t c = let z : 0 + c.step_down-a.result.visits ≡ c.step_down-a.result.visits = omega arith in rw z at (c.step_down-a.ensures.on _ _ _ (ends_here _ _ c.args.f _ _ c.step_down-a.ensures.able c.if-a-eq0.true))

pub overflow_add-result : goal.overflow_add-result
overflow_add-result t c = omega (arith, few _ _ c.args.f _ _ c.step_down-b.ensures.able _ (rw (whole c.args.mem.now) at c.descend-d.ensures).0, c.step_down-b.ensures.few)

pub overflow_add-result-2 : goal.overflow_add-result-2
overflow_add-result-2 t c = omega (arith, few _ _ c.args.f _ _ c.step_down-b.ensures.able _ (rw (whole c.args.mem.now) at c.descend-d.ensures).0, c.step_down-b.ensures.few, c.step_down-a.ensures.few)

pub returns : goal.returns
returns t c = c.step_down-a.ensures.on _ _ _ (c.step_down-b.ensures.on _ _ c.descend-d.result (rw (whole c.args.mem.now) at c.descend-d.ensures))
