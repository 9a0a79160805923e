-- `calls::act::act`: a run with room for one answer, and what it says of the record at its start. Assumes nothing.
use mathlib.Core.Path.{refl, sym, ◌∙◌}
use Rattle.calls.proofs.Acting.{act_spoiled, act_unread, act_done}
use Rattle.calls.proofs.act.act.Goals as goal

pub returns-then-ran-from : goal.returns-then-ran-from
returns-then-ran-from c = act_spoiled c.args.tally c.args.bytes.now c.run-done.result c.args.mem.now c.run-done.new.mem _ c.run-done.new.answers refl c.run-done.ensures _ (c.if-ran-from.true ∙ c.from.ensures) c.refused.ensures

pub returns-then-ran-eq0 : goal.returns-then-ran-eq0
returns-then-ran-eq0 c = act_unread c.args.tally c.args.bytes.now c.run-done.result c.args.mem.now c.run-done.new.mem _ c.run-done.new.answers refl c.run-done.ensures _ (λ e. c.if-ran-from.false (e ∙ sym c.from.ensures)) c.if-ran-eq0.true c.refused-then-ran-eq0.ensures

pub returns : goal.returns
returns c = act_done c.args.tally c.args.bytes.now c.run-done.result c.args.mem.now c.run-done.new.mem _ c.run-done.new.answers refl c.run-done.ensures _ (λ e. c.if-ran-from.false (e ∙ sym c.from.ensures)) c.if-ran-eq0.false c.read.ensures
