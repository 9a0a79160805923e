-- `settled::zeros`: `all` over the words from one on is the claim for each of them. Assumes nothing.
use Rattle.std.proofs.Common.{rules, tests}
use mathlib.Core.Path.{◌≡◌, refl}
use Rattle.std.proofs.lemmas.Iterator.{cases_from_all, YieldsList-from_range}
use Rattle.numbers.specs.Words.{word}
use Rattle.settled.proofs.Saying.{says_range}
use Rattle.settled.proofs.zeros.Goals as goal

pub returns : goal.returns
returns c = says_range (λ j. word c.args.mem.now j ≡ 0) c.args.from 28 _
    (cases_from_all _ _ _ (λ j. word c.args.mem.now j ≡ 0) (λ j. word c.args.mem.now j ≡ 0 → ⊥) c.all.ensures.ran (YieldsList-from_range c.args.from 28 _ refl refl)
    (λ x q k. search (rules, tests)) (λ x q k. search (rules, tests)))
