-- `opening::open`: two refusals, then one channel and the others. Assumes nothing.
use mathlib.Core.Path.{◌≡◌, refl, sym, ◌∙◌}
use mathlib.Core.Bool.{true}
use Rattle.rule.specs.Settings.{in_bounds}
use Rattle.ruling.specs.Settings.{settings_of}
use Rattle.opening.specs.Stages.{Begun}
use native.Mathlib.Omega.{arith}
use Rattle.opening.proofs.Widening.{both}
use Rattle.opening.proofs.Answering.{opens}
use Rattle.opening.proofs.open.Goals as goal

pub widen-requires : goal.widen-requires
widen-requires c =
    let g = settings_of c.args.settings.now in
    let b : in_bounds g ≡ true = sym c.in_bounds.ensures ∙ c.if-not-in_bounds.false in
    let B : Begun g _ _ _ = record { bounds = b; early = c.args.floor.in_bounds; many = refl; holds = c.open_single.ensures.holds } in
    (g, B)

pub returns : goal.returns
returns c =
    let g = settings_of c.args.settings.now in
    let b : in_bounds g ≡ true = sym c.in_bounds.ensures ∙ c.if-not-in_bounds.false in
    let B : Begun g _ _ _ = record { bounds = b; early = c.args.floor.in_bounds; many = refl; holds = c.open_single.ensures.holds } in
    opens g _ _ _ b (omega (arith, c.need.ensures, c.if-mem-need.false)) (both g _ _ _ _ c.open_single.ensures (c.widen.ensures g B))
