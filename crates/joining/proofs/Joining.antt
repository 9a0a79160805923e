-- The two cases of a join: the higher one takes the lower.
use mathlib.Core.Path.{◌≡◌}
use mathlib.Core.Bool.{Bool, true, false}
use mathlib.Core.Logic.{inl, inr}
use lib.Dec.{leb}
use Rattle.numbers.specs.Case.{case_le}
use mathlib.Core.List.{List}
use Prim.Native.Nat.{ℕ, ◌+◌, ◌*◌, ◌<◌, ◌≤◌}
use native.Mathlib.Omega.{arith}
use Rattle.shape.specs.Tree.{Tree, height}
use Rattle.shape.specs.HangLaws.{join_left, join_right}
use Rattle.node.specs.declared.Node.{Node}
use Rattle.node.specs.Layout.{node_at}
use Rattle.node.proofs.Seats.{reads_height}
use Rattle.turning.specs.Turns.{Two}
use Rattle.joining.specs.Joins.{Hangs, Joins}

module _ (m : List ℕ) (t w : ℕ) (x y : Node) (ex : x ≡ node_at m w) (ey : y ≡ node_at m (w + 4)) (m1 : List ℕ) where
  heights : (v : ℕ) → w ≡ 8 * v → (a b : Tree) → Two m t v a b → (x.height ≡ height a) × (y.height ≡ height b)
  heights v e a b f = (reads_height m (8 * v) x (rw e at ex) f.first, reads_height m (8 * v + 4) y (rw e at ey) f.second)

  pub joins_left : y.height ≤ x.height → Hangs true t w m m1 → Joins t w m m1
  joins_left h hangs v e a b f =
      let q : height b ≤ height a = omega (arith, heights v e a b f) in
      rw (join_left v a b q) (hangs v e a b f)

  pub joins_right : x.height < y.height → Hangs false t w m m1 → Joins t w m m1
  joins_right h hangs v e a b f =
      let q : height a < height b = omega (arith, heights v e a b f) in
      rw (join_right v a b q) (hangs v e a b f)

  -- by the test of the two heights
  pub joins_by : (b : Bool) → b ≡ leb y.height x.height → Hangs b t w m m1 → Joins t w m m1
  joins_by b e = elim (case_le y.height x.height) [ inl h ↦ rw (e, h.1) (joins_left h.0) | inr h ↦ rw (e, h.1) (joins_right h.0) ]
