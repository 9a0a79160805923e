-- `running::run`: the run so far is a beginning of the run. Assumes nothing.
use native.Mathlib.Omega.{arith}
use Rattle.std.proofs.Common.{rules}
use Rattle.running.proofs.Deciding.{yes_whole}
use Rattle.running.proofs.Running.{runs_as, start, run_done, run_full, more, no_more}
use Rattle.running.proofs.run.Goals as goal

pub loop-place-init : goal.loop-place-init
loop-place-init c = start _ _ _ _ (search (rules, yes_whole))

pub returns-then-answers-written-lt7 : goal.returns-then-answers-written-lt7
returns-then-answers-written-lt7 c = runs_as _ c.args.records.now _ _ _ _ _ _ c.ended-then-answers-written-lt7.ensures (run_full c.loop-place.invariant c.loop-place-test.true c.if-answers-written-lt7.true)

pub returns-in_default : goal.returns-in_default
returns-in_default c = runs_as _ c.args.records.now _ _ _ _ _ _ c.ended-in_default.ensures (no_more c.loop-place.invariant c.loop-place-test.true c.if-answers-written-lt7.false c.step.new.mem c.step.result c.step.ensures c.in_default.field-0 c.in_default.is)

pub overflow_add-place : goal.overflow_add-place
overflow_add-place c = omega (arith, (more c.loop-place.invariant c.loop-place-test.true c.if-answers-written-lt7.false c.step.new.mem c.step.result c.step.ensures c.in-Ok.x c.in-Ok.is).1.in_bytes)

pub loop-place-smaller : goal.loop-place-smaller
loop-place-smaller c = omega (arith, c.loop-place-test.true, (more c.loop-place.invariant c.loop-place-test.true c.if-answers-written-lt7.false c.step.new.mem c.step.result c.step.ensures c.in-Ok.x c.in-Ok.is).0)

pub loop-place-preserved : goal.loop-place-preserved
loop-place-preserved c = rw (c.write.ensures, c.raise-t.ensures, c.into.ensures) (more c.loop-place.invariant c.loop-place-test.true c.if-answers-written-lt7.false c.step.new.mem c.step.result c.step.ensures c.in-Ok.x c.in-Ok.is).1

pub returns : goal.returns
returns c = runs_as _ c.args.records.now _ _ _ _ _ _ c.ended-2.ensures (run_done c.loop-place.invariant c.loop-place-test.false)
