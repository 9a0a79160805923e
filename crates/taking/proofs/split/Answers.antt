use mathlib.Core.Path.{refl}
use mathlib.Core.Bool.{true, false}
use Rattle.rule.specs.Key.{start_of}
use Rattle.taking.proofs.Splitting.{piece, roomy_front, ahead_front, split_front, split_both, going, several, split_gone}
use Rattle.taking.proofs.split.Goals as goal

pub put_in-requires : goal.put_in-requires
put_in-requires c =
    let H = c.requires.splittable.2 in record {
      roomy = roomy_front _ _ _ _ _ _ c.requires.splittable.1 H _ c.shorten.ensures
          (piece H _ c.floor-floor.ensures _ (start_of c.args.leaf.key) c.args.r c.start.ensures _ true c.kept-front.ensures c.if-front.true)
          (piece H _ c.floor-floor.ensures _ c.args.f c.args.leaf.end refl _ true c.kept-behind.ensures c.if-behind.true);
      way = λ l. ahead_front _ _ _ _ _ _ c.requires.splittable.1 H _ c.shorten.ensures _ _ _ c.requires.ahead _ (_, c.channel.ensures, c.key-next.ensures) l;
    }

pub returns-then-behind : goal.returns-then-behind
returns-then-behind c =
    λ s S H.
    split_both _ _ _ _ _ s S H _ c.shorten.ensures
    (piece H _ c.floor-floor.ensures _ (start_of c.args.leaf.key) c.args.r c.start.ensures _ true c.kept-front.ensures c.if-front.true)
    (piece H _ c.floor-floor.ensures _ c.args.f c.args.leaf.end refl _ true c.kept-behind.ensures c.if-behind.true)
    _ (_, c.channel.ensures, c.key-next.ensures) _ c.put_in.ensures

pub returns-else-behind : goal.returns-else-behind
returns-else-behind c =
    λ s S H.
    split_front _ _ _ _ _ s S H _ c.shorten.ensures
    (piece H _ c.floor-floor.ensures _ (start_of c.args.leaf.key) c.args.r c.start.ensures _ true c.kept-front.ensures c.if-front.true)
    (piece H _ c.floor-floor.ensures _ c.args.f c.args.leaf.end refl _ false c.kept-behind.ensures c.if-behind.false)

pub drop-requires : goal.drop-requires
drop-requires c =
    let a = c.args in
    let s = c.requires.splittable.0 in
    let S = c.requires.splittable.1 in
    let H = c.requires.splittable.2 in
    several _ _ _ _ _ s S H _
    (going _ _ _ _ _ s S H (piece H _ c.floor-floor.ensures _ (start_of a.leaf.key) a.r c.start.ensures _ false c.kept-front.ensures c.if-front.false) _ (piece H _ c.floor-floor.ensures _ a.f a.leaf.end refl _ _ c.kept-behind.ensures refl) _ (_, c.channel.ensures, c.key-next.ensures) _ c.put_behind.ensures)

pub returns : goal.returns
returns c =
    let a = c.args in
    λ s S H.
    split_gone _ _ _ _ _ s S H _
    (going _ _ _ _ _ s S H (piece H _ c.floor-floor.ensures _ (start_of a.leaf.key) a.r c.start.ensures _ false c.kept-front.ensures c.if-front.false) _ (piece H _ c.floor-floor.ensures _ a.f a.leaf.end refl _ _ c.kept-behind.ensures refl) _ (_, c.channel.ensures, c.key-next.ensures) _ c.put_behind.ensures)
    _ c.drop.ensures
