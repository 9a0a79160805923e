use mathlib.Core.Path.{◌≡◌, ap, ◌∙◌}
use Rattle.std.proofs.Common.{rules, arith, take, drop, ◌+◌, ◌-◌, ◌*◌}
use Rattle.std.specs.Int.{w64, from_le_bytes}
use Rattle.numbers.specs.Words.{word}
use Rattle.numbers.proofs.Bytes.{reads}
use Rattle.numbers.proofs.words.get.Goals as goal

pub returns : goal.returns
unfolding word
returns c =
    let k : 8 * c.args.i + 8 - 8 * c.args.i ≡ 8 = omega arith in
    let e : c.unwrap.result ≡ take (8 * c.args.i + 8 - 8 * c.args.i) (drop (8 * c.args.i) c.args.mem.now) = search rules in
    c.from_le_bytes.ensures ∙ (ap (from_le_bytes w64) (rw k at e) ∙ reads c.args.mem.now (8 * c.args.i))
