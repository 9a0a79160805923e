-- `search::step_down`: the child gone to is noted, and what is found from there is found from here (Descents). Assumes nothing.
use mathlib.Core.Bool.{Bool, true, false, not}
use native.Mathlib.Omega.{arith}
use Prim.Native.Nat.{ℕ, ◌+◌}
use lib.Dec.{leb}
use lib.ListN.{length-set}
use Rattle.node.specs.declared.Node.{Node}
use Rattle.search.proofs.Descents.{low_place, child_in, room, at_lower, at_descendable, goes_on}
use Rattle.search.proofs.step_down.Goals as goal

-- whether the descent goes right, y being the node there
abbrev side : ℕ → (y : Node) → Bool
side f y = leb f y.top

pub far-requires : goal.far-requires
far-requires c = omega (arith, low_place _ _ c.args.f _ _ c.requires.0)

pub load-right-requires : goal.load-right-requires
load-right-requires c = child_in _ _ c.args.f _ _ c.requires.0 c.requires.1 false _ c.far.ensures

pub near-requires : goal.near-requires
near-requires c = omega (arith, low_place _ _ c.args.f _ _ c.requires.0)

pub overflow_cast-way : goal.overflow_cast-way
overflow_cast-way c = omega (arith, child_in _ _ c.args.f _ _ c.requires.0 c.requires.1 (not (side c.args.f c.load-right.result)) _ c.near.ensures)

pub bounds-way-depth : goal.bounds-way-depth
bounds-way-depth c = (room _ _ c.args.f _ _ c.requires.0 c.requires.1).0

pub near-requires-2 : goal.near-requires-2
near-requires-2 c = omega (arith, low_place _ _ c.args.f _ _ c.requires.0)

pub load-left-requires : goal.load-left-requires
load-left-requires c = child_in _ _ c.args.f _ _ c.requires.0 c.requires.1 true _ c.near-2.ensures

pub returns : goal.returns
returns c =
    record {
      able = at_descendable _ _ c.args.f _ _ c.requires.0 c.requires.1 (side c.args.f c.load-right.result) _ c.near.ensures _ c.far.ensures _ c.load-right.ensures _ c.near-2.ensures _ c.load-left.ensures _ c.by_turn.ensures;
      lower = at_lower _ _ c.args.f _ _ c.requires.0 c.requires.1 (side c.args.f c.load-right.result) _ c.near.ensures;
      len = length-set c.args.way.now (c.args.depth + 1) c.near.result;
      few = c.step_visits.ensures.1;
      on = λ ws n d k. goes_on _ _ c.args.f _ _ c.requires.0 c.requires.1 _ c.far.ensures _ c.load-right.ensures _ c.near.ensures ws n d k.0 _ c.step_visits.ensures.0 k.1;
    }
