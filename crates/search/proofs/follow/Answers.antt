use Prim.Native.Nat.{ℕ}
use mathlib.Core.Bool.{Bool, true, false, not}
use native.Mathlib.Omega.{arith}
use lib.Dec.{leb}
use Rattle.node.specs.declared.Node.{Node}
use Rattle.search.proofs.Descents.{low_place, child_in, room}
use Rattle.search.proofs.Trails.{follows_next}
use Rattle.search.proofs.follow.Goals as goal

-- whether the way turns right, v being the node there
abbrev turn : Node → ℕ → Bool
turn v b = leb v.lo b

pub far-requires : goal.far-requires
far-requires c = omega (arith, low_place _ _ 0 _ _ c.requires)

pub load-v-requires : goal.load-v-requires
load-v-requires c = child_in _ _ 0 _ _ c.requires c.if-t-eq0.false false _ c.far.ensures

pub near-requires : goal.near-requires
near-requires c = omega (arith, low_place _ _ 0 _ _ c.requires)

pub overflow_cast-far : goal.overflow_cast-far
overflow_cast-far c = omega (arith, child_in _ _ 0 _ _ c.requires c.if-t-eq0.false (not (turn c.load-v.result c.args.behind)) _ c.near.ensures)

pub bounds-far-deep : goal.bounds-far-deep
bounds-far-deep c = (room _ _ 0 _ _ c.requires c.if-t-eq0.false).0

pub near-requires-2 : goal.near-requires-2
near-requires-2 c = omega (arith, low_place _ _ 0 _ _ c.requires)

pub load-u-requires : goal.load-u-requires
load-u-requires c = child_in _ _ 0 _ _ c.requires c.if-t-eq0.false true _ c.near-2.ensures

pub returns : goal.returns
returns c = follows_next _ _ _ _ c.requires c.if-t-eq0.false _ c.far.ensures _ c.load-v.ensures _ c.near.ensures _ c.by_turn-2.ensures _ c.near-2.ensures _ c.load-u.ensures _ c.by_turn.ensures
