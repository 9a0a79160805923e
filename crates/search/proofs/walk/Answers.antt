use mathlib.Core.Path.{refl, ap, ◌∙◌}
use mathlib.Core.Bool.{true, false}
use Prim.Native.Nat.{ℕ, ◌+◌}
use native.Mathlib.Omega.{arith}
use lib.Dec.{leb}
use lib.Seq.{get_or-set_same}
use Rattle.node.specs.declared.Node.{Node}
use Rattle.node.specs.Layout.{node_at}
use Rattle.node.proofs.Reps.{within}
use Rattle.search.proofs.Look.{small_here, child_within, child_lower, place_next}
use Rattle.search.proofs.Walks.{on_root, on_few, on_next, on_leaf}
use Rattle.search.proofs.Treads.{treading_start, noted_place, deeper, treading_next, trodden}
use Rattle.search.proofs.Trails.{begun_able, begun_trailed, ahead}
use Rattle.search.proofs.walk.Goals as goal

pub overflow_cast-way : goal.overflow_cast-way
overflow_cast-way c = omega (arith, within c.requires.0.1)

pub load-place-requires : goal.load-place-requires
load-place-requires c = within c.requires.0.1

pub begin-t-requires : goal.begin-t-requires
begin-t-requires c = let w = within c.requires.0.1 in omega (arith, w.2, c.requires.1)

pub loop-place-init : goal.loop-place-init
loop-place-init c =
    let T = treading_start _ _ c.args.way.now c.requires.0 in
    let e = ap (λ (n : Node). n.place) c.load-place.ensures in
    let B = c.begin-t.ensures in (
      rw T.down.first e,
      on_root _ _ _ _ c.args.way.now (omega (arith, c.requires.0.3)),
      T,
      begun_able _ _ _ e c.args.way.now c.requires.0 _ _ c.requires.1 _ B,
      begun_trailed _ _ _ e c.args.way.now c.requires.0 _ _ c.requires.1 _ B _,
      refl,
    )

pub far-requires : goal.far-requires
far-requires c = omega (arith, small_here c.loop-place.invariant.0 _ (c.loop-place.invariant.1 _ c.requires.0.1).reached)

pub load-y-requires : goal.load-y-requires
load-y-requires c = child_within false c.loop-place.invariant.0 c.loop-place-test.true _ c.far.ensures _ (c.loop-place.invariant.1 _ c.requires.0.1).reached

pub near-requires : goal.near-requires
near-requires c = omega (arith, small_here c.loop-place.invariant.0 _ (c.loop-place.invariant.1 _ c.requires.0.1).reached)

pub load-x-requires : goal.load-x-requires
load-x-requires c = child_within true c.loop-place.invariant.0 c.loop-place-test.true _ c.near.ensures _ (c.loop-place.invariant.1 _ c.requires.0.1).reached

pub near-requires-in-loop-place : goal.near-requires-in-loop-place
near-requires-in-loop-place c = omega (arith, small_here c.loop-place.invariant.0 _ (c.loop-place.invariant.1 _ c.requires.0.1).reached)

pub overflow_add-visits : goal.overflow_add-visits
overflow_add-visits c = omega (arith, on_few _ _ _ _ _ _ _ _ (c.loop-place.invariant.1 _ c.requires.0.1) c.requires.0.2, c.step_visits-visits.ensures.1)

pub overflow_cast-way-in-loop-place : goal.overflow_cast-way-in-loop-place
overflow_cast-way-in-loop-place c = omega (arith, child_within _ c.loop-place.invariant.0 c.loop-place-test.true _ c.near-in-loop-place.ensures _ (c.loop-place.invariant.1 _ c.requires.0.1).reached)

pub bounds-way-depth : goal.bounds-way-depth
bounds-way-depth c = (deeper _ _ _ _ _ _ _ c.loop-place.invariant.2 _ c.loop-place.invariant.0 c.loop-place-test.true _ (c.loop-place.invariant.1 _ c.requires.0.1).reached).0

pub loop-place-smaller : goal.loop-place-smaller
loop-place-smaller c =
    let lower = child_lower _ c.loop-place.invariant.0 c.loop-place-test.true _ c.near-in-loop-place.ensures _ (c.loop-place.invariant.1 _ c.requires.0.1).reached in
    let deep = deeper _ _ _ _ _ _ _ c.loop-place.invariant.2 _ c.loop-place.invariant.0 c.loop-place-test.true _ (c.loop-place.invariant.1 _ c.requires.0.1).reached in
    omega (arith, lower, ap (λ (x : ℕ). (node_at c.args.mem.now x).height) (get_or-set_same c.loop-place.way (c.loop-place.depth + 1) c.near-in-loop-place.result 0 deep.0))

pub loop-place-preserved : goal.loop-place-preserved
loop-place-preserved c =
    let l = c.loop-place in
    let F = c.follow-t.ensures in
    let T = l.invariant.2 in
    let e = l.invariant.0 in
    let h = c.loop-place-test.true in
    let late = leb c.args.f c.load-x.result.top in
    let s = (l.invariant.1 _ c.requires.0.1).reached in
    let y = c.load-y.ensures in
    let z = c.load-x.ensures in
    let x = c.near-in-loop-place.ensures in
    let i = c.step_mark-mark.ensures in
    let deep = (deeper _ _ _ _ _ _ _ T _ e h _ s).0 in (
      noted_place _ l.way l.depth _ _ deep (place_next _ l.place _ _ c.far.ensures _ y _ c.near.ensures _ z _ x _ c.by_turn-place.ensures),
      (λ t g. on_next _ _ _ t _ _ _ _ (l.invariant.1 t g) _ e h deep T.turn _ c.far.ensures _ y _ c.near.ensures _ z _ x _ i _ c.step_visits-visits.ensures.0),
      treading_next _ _ _ _ _ _ _ T _ e h _ s _ c.near.ensures _ z _ _ late x _ i _ (rw c.by_turn.ensures at c.by_turn-below.ensures),
      F.able,
      (λ tr a b g o n. F.trails _ (l.invariant.4 tr a b g o n)),
      c.follow-t.auto.far ∙ l.invariant.5,
    )

pub overflow_add-result : goal.overflow_add-result
overflow_add-result c = omega (arith, on_few _ _ _ _ _ _ _ _ (c.loop-place.invariant.1 _ c.requires.0.1) c.requires.0.2)

pub returns : goal.returns
returns c = (
  (λ t s. on_leaf _ _ _ t _ _ _ _ (c.loop-place.invariant.1 t s) _ c.loop-place.invariant.0 c.loop-place-test.false _ _),
  trodden _ _ _ _ _ _ _ c.loop-place.invariant.2 _ _,
  ahead _ _ _ _ _ _ _ c.loop-place.invariant.4 c.follow_on-e.ensures,
)
