-- The steps of a balance: the two turns, and the node left as it is.
use mathlib.Core.Path.{◌≡◌, refl}
use mathlib.Core.Bool.{true, false}
use mathlib.Core.List.{List}
use Prim.Native.Nat.{ℕ, ◌+◌, ◌*◌, ◌<◌, ◌≤◌}
use native.Mathlib.Omega.{arith}
use borrow.Author.Tests.{le-leb, lt-leb}
use Rattle.shape.specs.Tree.{Tree, height}
use Rattle.shape.specs.Arrange.{balance}
use Rattle.node.specs.declared.Node.{Node}
use Rattle.node.specs.Layout.{node_at, Over, Mendable}
use Rattle.node.proofs.Frames.{kept_less}
use Rattle.node.proofs.Seats.{reads_height}
use Rattle.turning.specs.Turns.{Two, Both, Turns, Balances}
use Rattle.turning.proofs.Sides.{two_mendable, two_over}

pub mendable_both : (m : List ℕ) (t w : ℕ) → Both m t w → Mendable m t w
mendable_both m t w (v, e, a, b, f) = rw e (two_mendable f)

module _ (m : List ℕ) (t w : ℕ) (x y : Node) (ex : x ≡ node_at m w) (ey : y ≡ node_at m (w + 4)) where
  heights : (v : ℕ) → w ≡ 8 * v → (a b : Tree) → Two m t v a b → (x.height ≡ height a) × (y.height ≡ height b)
  heights v e a b f = (reads_height m (8 * v) x (rw e at ex) f.first, reads_height m (8 * v + 4) y (rw e at ey) f.second)

  pub low_both : Both m t w → (x.height < 4294967290) × (y.height < 4294967290)
  low_both (v, e, a, b, f) = omega (arith, heights v e a b f, f.low)

  pub steep_left : y.height + 2 ≤ x.height → (node_at m (w + 4)).height + 2 ≤ (node_at m w).height
  steep_left h = rw (← ex, ← ey) h

  pub steep_right : x.height + 2 ≤ y.height → (node_at m w).height + 2 ≤ (node_at m (w + 4)).height
  steep_right h = rw (← ex, ← ey) h

  pub balance_left : (m1 : List ℕ) → y.height + 2 ≤ x.height → Turns true t w m m1 → Balances t w m m1
  unfolding balance
  balance_left m1 h turns v e a b f =
      let k : height b + 2 ≤ height a = omega (arith, heights v e a b f) in
      rw (le-leb (height b + 2) (height a) k) (turns v e a b f)

  pub balance_right : (m1 : List ℕ) → x.height < y.height + 2 → x.height + 2 ≤ y.height → Turns false t w m m1 → Balances t w m m1
  unfolding balance
  balance_right m1 g h turns v e a b f =
      let j : height a < height b + 2 = omega (arith, heights v e a b f) in
      let k : height a + 2 ≤ height b = omega (arith, heights v e a b f) in
      rw (lt-leb (height b + 2) (height a) j, le-leb (height a + 2) (height b) k) (turns v e a b f)

  pub balance_here : (m1 : List ℕ) → x.height < y.height + 2 → y.height < x.height + 2 → Over t w m m1 → Balances t w m m1
  unfolding balance
  balance_here m1 g h o v e a b f =
      let j : height a < height b + 2 = omega (arith, heights v e a b f) in
      let k : height b < height a + 2 = omega (arith, heights v e a b f) in
      rw (lt-leb (height b + 2) (height a) j, lt-leb (height a + 2) (height b) k)
      (record { stands = two_over f m1 (rw e at o); many = λ z. refl; high = omega arith; kept = kept_less o.kept (λ z u. omega arith) })
