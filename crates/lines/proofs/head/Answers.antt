-- `lines::head`. Assumes nothing.
use native.Mathlib.Omega.{arith}
use mathlib.Core.Path.{ap, ◌∙◌}
use mathlib.Core.List.{◌∷◌, ◌++◌}
use Rattle.std.specs.Fmt.{decimal}
use Rattle.lines.proofs.Spelt.{spelt}
use Rattle.lines.proofs.head.Goals as goal

pub write_digits-requires : goal.write_digits-requires
write_digits-requires c = (omega (arith, spelt c.args.n c.ranges.n.fits, c.requires.0, c.byte-at.ensures.0, c.byte-blank.ensures.0), omega (arith, c.requires.1, c.byte-at.ensures.0, c.byte-blank.ensures.0, c.byte-at.auto.text, c.byte-blank.auto.text))

pub returns : goal.returns
returns c = (omega (arith, c.write_digits.ensures.start, c.byte-at.ensures.0, c.byte-blank.ensures.0), c.write_digits.ensures.written ∙ ap (λ l. decimal c.args.n ++ l) (c.byte-blank.ensures.1 ∙ ap (λ l. 32 ∷ l) c.byte-at.ensures.1))
