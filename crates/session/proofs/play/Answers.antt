-- `session::play`: the answers lie within their slice, by the run's own contract; what is written is theirs. Assumes nothing.
use native.Mathlib.Omega.{arith}
use Rattle.std.proofs.Common.{rules}
use Rattle.std.proofs.lemmas.Result.{on_ok_weaker}
use Rattle.running.proofs.Within.{run_within}
use Rattle.lines.proofs.Writing.{more}
use Rattle.session.proofs.play.Goals as goal

pub answers-requires : goal.answers-requires
answers-requires g c = omega (arith, run_within c.default.result c.args.records.now c.run.result c.args.mem.now c.run.new.mem _ c.run.new.answers c.run.ensures, c.run.auto.answers)

pub ending-requires : goal.ending-requires
ending-requires g c = omega (arith, run_within c.default.result c.args.records.now c.run.result c.args.mem.now c.run.new.mem _ c.run.new.answers c.run.ensures, c.run.auto.answers)

pub returns : goal.returns
returns g c = on_ok_weaker c.write.result (λ a. record {
  tally = c.default.result;
  done = c.run.result;
  before = _;
  numbers = c.run.new.answers;
  told = c.tell-voids.result;
  room = search rules;
  runs = c.run.ensures;
  tells = c.tell-voids.ensures;
  writes = more _ _ _ _ _ (more _ _ _ _ _ c.in_ok-answers.ensures c.in_ok-ending.ensures) a;
}) c.write.ensures.text
