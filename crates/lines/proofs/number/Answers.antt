-- `lines::number`. Assumes nothing.
use native.Mathlib.Omega.{arith}
use mathlib.Core.Path.{ap, ◌∙◌}
use mathlib.Core.List.{◌∷◌}
use Rattle.lines.proofs.Spelt.{spelt}
use Rattle.lines.proofs.number.Goals as goal

pub write_digits-at-requires : goal.write_digits-at-requires
write_digits-at-requires c = (omega (arith, spelt c.args.v c.ranges.v.fits, c.requires.0), c.requires.1)

pub byte-requires : goal.byte-requires
byte-requires c = (omega (arith, spelt c.args.v c.ranges.v.fits, c.requires.0, c.write_digits-at.ensures.start), omega (arith, c.requires.1, c.write_digits-at.ensures.start, c.write_digits-at.auto.buf))

pub returns : goal.returns
returns c = (omega (arith, spelt c.args.v c.ranges.v.fits, c.write_digits-at.ensures.start, c.byte.ensures.0), omega (arith, c.write_digits-at.ensures.start, c.byte.ensures.0), c.byte.ensures.1 ∙ ap (λ l. 32 ∷ l) c.write_digits-at.ensures.written)
