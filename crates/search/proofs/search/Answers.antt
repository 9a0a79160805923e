use native.Mathlib.Omega.{arith}
use Rattle.search.proofs.Descents.{few}
use Rattle.search.proofs.Finds.{walk_few, answer_leaf, answer_deep, notes_found, still_ahead}
use Rattle.search.proofs.Treads.{leaf_within, reaches_leaf, mark_descendable, below_mark, end_within, reaches_mark}
use Rattle.search.proofs.search.Goals as goal

pub load-n-requires : goal.load-n-requires
load-n-requires c = leaf_within _ _ _ _ _ _ c.walk-w.ensures.0 c.walk-w.ensures.1 _ c.requires.searchable.1

pub returns-then-fits : goal.returns-then-fits
returns-then-fits c =
    let w = c.walk-w.ensures in
    let e = c.load-n.ensures in
    let x = c.found_at.ensures in (
      (λ t s. answer_leaf _ _ _ _ _ _ w.0 _ e _ c.start.ensures _ c.fits.ensures t s c.if-fits.true _ _ x),
      notes_found _ _ _ _ _ _ _ _ (reaches_leaf _ _ _ _ _ _ c.walk-w.ensures.0 c.walk-w.ensures.1 _ c.requires.searchable.1 _ e) _ x,
      still_ahead _ _ _ _ _ _ x w.2,
    )

pub descend-d-requires : goal.descend-d-requires
descend-d-requires c = mark_descendable _ _ _ _ _ _ c.walk-w.ensures.0 c.walk-w.ensures.1 _ c.requires.searchable.1 c.if-mark-ne0.true

pub load-b-requires : goal.load-b-requires
load-b-requires c = end_within _ _ _ _ _ _ c.walk-w.ensures.0 c.walk-w.ensures.1 _ c.requires.searchable.1 c.if-mark-ne0.true _ _ _ (below_mark _ _ _ _ _ _ c.walk-w.ensures.0 c.walk-w.ensures.1 _ c.requires.searchable.1 c.if-mark-ne0.true _ c.descend-d.ensures.0) c.descend-d.ensures.1

pub overflow_add-w : goal.overflow_add-w
overflow_add-w c = omega (arith, walk_few _ _ _ _ _ _ c.walk-w.ensures.0 _ c.requires.searchable.1 c.requires.searchable.2, few _ _ c.args.f _ _ (mark_descendable _ _ _ _ _ _ c.walk-w.ensures.0 c.walk-w.ensures.1 _ c.requires.searchable.1 c.if-mark-ne0.true) _ c.descend-d.ensures.0)

pub returns-then-mark-ne0 : goal.returns-then-mark-ne0
returns-then-mark-ne0 c =
    let w = c.walk-w.ensures in
    let d = c.descend-d.ensures in
    let g = below_mark _ _ _ _ _ _ w.0 w.1 _ c.requires.searchable.1 c.if-mark-ne0.true _ d.0 in
    let b = c.load-b.ensures in
    let x = c.found_at-then-mark-ne0.ensures in (
      (λ t s. answer_deep _ _ _ _ _ _ w.0 _ c.load-n.ensures _ c.start.ensures _ c.fits.ensures t s c.if-fits.false c.if-mark-ne0.true _ g _ b _ _ x),
      notes_found _ _ _ _ _ _ _ _ (reaches_mark _ _ _ _ _ _ w.0 w.1 _ c.requires.searchable.1 c.if-mark-ne0.true _ _ _ g d.1 _ b) _ x,
      still_ahead _ _ _ _ _ _ x w.2,
    )
