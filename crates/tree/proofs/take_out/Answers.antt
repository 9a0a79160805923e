-- `tree::take_out`: the sibling moved up, then the way up (Starting). Assumes nothing.
use mathlib.Core.Path.{refl}
use native.Mathlib.Omega.{arith}
use Rattle.rising.specs.Changes.{cutting}
use Rattle.turning.proofs.Sides.{copied_at}
use Rattle.tree.proofs.Starting.{end_in, deep_one, above_in, sibling_in, cutting_start, freed}
use Rattle.tree.proofs.take_out.Goals as goal

pub overflow_cast-leaf : goal.overflow_cast-leaf
overflow_cast-leaf c = omega (arith, end_in _ _ _ _ _ c.requires.1 c.requires.3)

pub overflow_sub-above : goal.overflow_sub-above
overflow_sub-above c = deep_one _ _ _ _ _ c.requires.1 c.requires.3 c.requires.2

pub overflow_mul-q : goal.overflow_mul-q
overflow_mul-q c = omega (arith, (end_in _ _ _ _ _ c.requires.1 c.requires.3).2)

pub far-requires : goal.far-requires
far-requires c = omega (arith, (end_in _ _ _ _ _ c.requires.1 c.requires.3).2)

pub overflow_cast-way : goal.overflow_cast-way
overflow_cast-way c = omega (arith, above_in _ _ _ _ _ c.requires.1 c.requires.3 c.requires.2)

pub copy-requires : goal.copy-requires
copy-requires c = record { within = rw c.far.ensures (sibling_in _ _ _ _ _ c.requires.1 c.requires.3 c.requires.2); within_2 = above_in _ _ _ _ _ c.requires.1 c.requires.3 c.requires.2 }

pub rise-requires : goal.rise-requires
rise-requires c = (_, _, _, _, tt, cutting_start _ _ _ _ _ c.requires.1 c.requires.3 c.requires.2 _ (copied_at _ _ c.far.ensures refl c.copy.ensures))

pub returns : goal.returns
returns c = λ t W h a tr B. (freed _ _ _ _ _ W a h tr B, c.rise.ensures (cutting c.args.key) _ _ _ tt (cutting_start _ _ _ _ _ W a h _ (copied_at _ _ c.far.ensures refl c.copy.ensures)) tr B)
