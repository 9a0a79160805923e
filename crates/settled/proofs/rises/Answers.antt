-- `settled::rises`: the iterator gives the words of the lines. Assumes nothing.
use mathlib.Core.Path.{refl, ap, ◌∙◌}
use Prim.Native.Nat.{◌+◌}
use native.Mathlib.Omega.{arith}
use Rattle.std.proofs.Common.{rules, tests}
use Rattle.std.proofs.lemmas.Iterator.{YieldsList-from_map, YieldsList-from_range}
use Rattle.std.proofs.lemmas.Iterator.Consumers.{YieldsList-at}
use Rattle.numbers.specs.Words.{word}
use Rattle.rule.specs.Settings.{rising}
use Rattle.settled.proofs.Settling.{listed_map}
use Rattle.settled.proofs.rises.Goals as goal

pub returns : goal.returns
returns c =
    c.rising.ensures _ (YieldsList-from_map _ (λ i. word c.args.mem.now (8 + i)) (YieldsList-at c.map.ensures.source (YieldsList-from_range 0 _ c.args.lines refl (omega arith))) c.map.ensures.closure (λ x r q k. search (rules, tests))).runs
    ∙ ap (rising 0) (listed_map c.args.mem.now c.args.lines 8 0)
