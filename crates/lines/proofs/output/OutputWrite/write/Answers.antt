-- `lines::output::Output::write`: as much is taken as there is room for behind what waits. Assumes nothing.
use mathlib.Core.Path.{ap, sym, ◌∙◌}
use Prim.Native.Nat.{◌-◌}
use lib.ListN.{length}
use Rattle.std.specs.Prelude.{min}
use Rattle.lines.proofs.output.OutputWrite.write.Goals as goal

pub returns-clause-took : goal.returns-clause-took
returns-clause-took g c = c.min-n.ensures ∙ ap (λ n. min (length c.args.buf.now) (g.row.TEXT - n)) (sym c.ready.ensures.held ∙ ap length c.ready.ensures.waits)
