-- A turn by what was read: the high tree is taken apart, and each step of the turn (Steps) is one that the code may take.
-- The code knows a place by its left seat: near_is and far_is say which that is.
use mathlib.Core.Path.{◌≡◌, refl, ap}
use mathlib.Core.Bool.{Bool}
use mathlib.Core.List.{List}
use Prim.Native.Nat.{ℕ, ◌+◌, ◌*◌, ◌/◌, ◌<◌, ◌≤◌}
use native.Mathlib.Omega.{arith}
use borrow.Author.Tests.{le-leb, lt-leb}
use Rattle.shape.specs.Tree.{Tree, node, height, same, uses}
use Rattle.shape.specs.Side.{near, far}
use Rattle.shape.specs.Arrange.{turn}
use Rattle.node.specs.declared.Node.{Node}
use Rattle.node.specs.Layout.{Within, node_at, Kept, Over, Copied, Mendable}
use Rattle.summing.proofs.Sums.{read_at}
use Rattle.node.specs.Rep.{Stands}
use Rattle.shape.specs.TurnLaws.{twice_over, turn_over, weight_turn, height_turn}
use Rattle.shape.specs.SideLaws.{height_over, height_sides}
use Rattle.node.proofs.Frames.{kept_less}
use Rattle.node.proofs.Reps.{tall, within}
use Rattle.node.proofs.Seats.{near_of, far_of, near_seat, far_seat, near_half, near_is, far_is, near_stands, far_stands, reads_height, Parts, parts}
use Rattle.turning.specs.Turns.{Two, Both, Arranged, Turns}
use Rattle.turning.proofs.Sides.{uses_over, uses_sides, copied_at, over_at, mendable_at, within_at}
use Rattle.turning.proofs.Steps.{Single, mend1, mend2, single_end, Double, e1, high1, mend_x, mend_w, mend_y, double_end}

-- ---- the high tree taken apart by what was read
module _ (m : List ℕ) (s : Bool) (t w : ℕ) (n : Node) (en : n ≡ node_at m (near_of s w))
    (big : (node_at m (far_of s w)).height + 2 ≤ (node_at m (near_of s w)).height) where
  module _ (v : ℕ) (e : w ≡ 8 * v) (a b : Tree) (f : Two m t v a b) where
    high_at : Stands m (near_seat s v) (near s a b)
    high_at = near_stands s v f.first f.second

    low_at : Stands m (far_seat s v) (far s a b)
    low_at = far_stands s v f.first f.second

    steep_here : (node_at m (far_seat s v)).height + 2 ≤ (node_at m (near_seat s v)).height
    steep_here = rw e at big

    heights : (n.height ≡ height (near s a b)) × (height (far s a b) + 2 ≤ height (near s a b))
    heights = (reads_height m (near_seat s v) n (read_at m (near_is s v e) en) high_at, omega (arith, tall high_at, tall low_at, steep_here))

    open_high : Parts m s n.place (near s a b)
    open_high = parts m s (near_seat s v) n (read_at m (near_is s v e) en) (omega (arith, heights)) (near s a b) high_at

    single : Single m s t (t / 8) v open_high.q open_high.a open_high.c (far s a b)
    single =
        let i = ap height open_high.is in
        let k = height_over s open_high.q open_high.a open_high.c in
        record {
          seat = refl;
          room = f.room;
          high_in = within high_at;
          a_at = open_high.a_at;
          c_at = open_high.c_at;
          b_at = low_at;
          once = λ z. omega (arith, f.once z, uses_sides z s a b, ap (uses z) open_high.is, uses_over z s open_high.q open_high.a open_high.c);
          steep = omega (arith, heights);
          low = omega (arith, heights, f.low, height_sides s a b);
        }

    -- whatever the turn has written is t, or at v or a place of the high tree
    arranged : (m' : List ℕ) (k : ℕ → ℕ) → Stands m' t (turn s v (near s a b) (far s a b)) → Kept k m m'
        → ((z : ℕ) → same z t + uses (z / 8) (node v a b) ≡ 0 → k z ≡ 0) → Arranged t (node v a b) (turn s v (near s a b) (far s a b)) m m'
    arranged m' k st kept less =
        record {
          stands = st;
          many = λ z. omega (arith, weight_turn (λ j u. 0) (same z) s v (near s a b) (far s a b), uses_sides z s a b);
          high = omega (arith, height_turn s v (near s a b) (far s a b) heights.1, height_sides s a b);
          kept = kept_less kept less;
        }

  -- ---- what the code may do
  pub within_below : Both m t w → Within m (near_of s n.place) × Within m (far_of s n.place) × (n.place < 65536)
  within_below (v, e, a, b, f) =
      let p = open_high v e a b f in
      let i = within p.a_at in
      (within_at m (near_is s p.q p.at) i, within_at m (far_is s p.q p.at) (within p.c_at), omega (arith, p.at, i.2, near_half s p.q))

  pub mend_single_1 : (m1 : List ℕ) → Copied (far_of s n.place) (near_of s w) m m1 → Both m t w → Mendable m1 (far_of s n.place) w
  mend_single_1 m1 o1 (v, e, a, b, f) =
      let p = open_high v e a b f in
      mendable_at m1 (far_is s p.q p.at) e (mend1 (single v e a b f) m1 (copied_at _ _ (far_is s p.q p.at) (near_is s v e) o1))

  pub mend_single_2 : (m1 m2 : List ℕ) → Copied (far_of s n.place) (near_of s w) m m1 → Over (far_of s n.place) w m1 m2 → Both m t w
      → Mendable m2 t n.place
  mend_single_2 m1 m2 o1 o2 (v, e, a, b, f) =
      let p = open_high v e a b f in
      mendable_at m2 refl p.at (mend2 (single v e a b f) m1 (copied_at _ _ (far_is s p.q p.at) (near_is s v e) o1) m2 (over_at _ _ (far_is s p.q p.at) e o2))

  module _ (outer inner : Node) (eo : outer ≡ node_at m (near_of s n.place)) (ei : inner ≡ node_at m (far_of s n.place)) where
    compared : (v : ℕ) (e : w ≡ 8 * v) (a b : Tree) (f : Two m t v a b)
        → (outer.height ≡ height (open_high v e a b f).a) × (inner.height ≡ height (open_high v e a b f).c)
    compared v e a b f =
        let p = open_high v e a b f in
        (reads_height m _ outer (read_at m (near_is s p.q p.at) eo) p.a_at, reads_height m _ inner (read_at m (far_is s p.q p.at) ei) p.c_at)

    pub turn_single : (m1 m2 m3 : List ℕ) → inner.height ≤ outer.height → Copied (far_of s n.place) (near_of s w) m m1
        → Over (far_of s n.place) w m1 m2 → Over t n.place m2 m3 → Turns s t w m m3
    turn_single m1 m2 m3 le o1 o2 o3 v e a b f =
        let p = open_high v e a b f in
        let q : height p.c ≤ height p.a = omega (arith, compared v e a b f) in
        let g = single_end (single v e a b f) m1 (copied_at _ _ (far_is s p.q p.at) (near_is s v e) o1) m2 (over_at _ _ (far_is s p.q p.at) e o2) m3 (over_at _ _ refl p.at o3) in
        arranged v e a b f m3 _ (rw (p.is, turn_over s v p.q p.a p.c (far s a b), le-leb (height p.c) (height p.a) q) g.0) g.1
        (λ z i. omega (arith, i, uses_sides (z / 8) s a b, ap (uses (z / 8)) p.is, uses_over (z / 8) s p.q p.a p.c))

    module _ (lt : outer.height < inner.height) where
      module _ (v : ℕ) (e : w ≡ 8 * v) (a b : Tree) (f : Two m t v a b) where
        open_inner : Parts m s inner.place (open_high v e a b f).c
        open_inner =
            let p = open_high v e a b f in
            parts m s _ inner (read_at m (far_is s p.q p.at) ei) (omega arith) p.c p.c_at

        double : Double m s t (t / 8) v (open_high v e a b f).q open_inner.q (open_high v e a b f).a open_inner.a open_inner.c (far s a b)
        double =
            let g = single v e a b f in
            let j = ap height open_inner.is in
            let k = height_over s open_inner.q open_inner.a open_inner.c in
            let q = compared v e a b f in
            record {
              seat = refl;
              room = g.room;
              high_in = g.high_in;
              inner_in = within g.c_at;
              a_at = g.a_at;
              d_at = open_inner.a_at;
              e_at = open_inner.c_at;
              b_at = g.b_at;
              once = λ z. omega (arith, g.once z, ap (uses z) open_inner.is, uses_over z s open_inner.q open_inner.a open_inner.c);
              steep = omega (arith, g.steep);
              low = omega (arith, g.low);
            }

      pub within_inner : Both m t w → Within m (near_of s inner.place) × Within m (far_of s inner.place) × (inner.place < 65536)
      within_inner (v, e, a, b, f) =
          let p = open_inner v e a b f in
          let i = within p.a_at in
          (within_at m (near_is s p.q p.at) i, within_at m (far_is s p.q p.at) (within p.c_at), omega (arith, p.at, i.2, near_half s p.q))

      module _ (m1 : List ℕ) (o1 : Copied (near_of s inner.place) (far_of s n.place) m m1) where
        module _ (v : ℕ) (e : w ≡ 8 * v) (a b : Tree) (f : Two m t v a b) where
          first_copied : Copied (near_seat s (open_inner v e a b f).q) (far_seat s (open_high v e a b f).q) m m1
          first_copied = copied_at _ _ (near_is s _ (open_inner v e a b f).at) (far_is s _ (open_high v e a b f).at) o1

        pub within_second : Both m t w → Within m1 (far_of s inner.place) × Within m1 (near_of s w)
        within_second (v, e, a, b, f) =
            let d = double v e a b f in
            let c = first_copied v e a b f in
            (within_at m1 (far_is s _ (open_inner v e a b f).at) (within (e1 d m1 c)), within_at m1 (near_is s v e) (high1 d m1 c))

        module _ (m2 : List ℕ) (o2 : Copied (far_of s inner.place) (near_of s w) m1 m2) where
          module _ (v : ℕ) (e : w ≡ 8 * v) (a b : Tree) (f : Two m t v a b) where
            second_copied : Copied (far_seat s (open_inner v e a b f).q) (near_seat s v) m1 m2
            second_copied = copied_at _ _ (far_is s _ (open_inner v e a b f).at) (near_is s v e) o2

          pub mend_double_1 : Both m t w → Mendable m2 (near_of s inner.place) n.place
          mend_double_1 (v, e, a, b, f) =
              mendable_at m2 (near_is s _ (open_inner v e a b f).at) (open_high v e a b f).at (mend_x (double v e a b f) m1 (first_copied v e a b f) m2 (second_copied v e a b f))

          module _ (m3 : List ℕ) (o3 : Over (near_of s inner.place) n.place m2 m3) where
            module _ (v : ℕ) (e : w ≡ 8 * v) (a b : Tree) (f : Two m t v a b) where
              first_over : Over (near_seat s (open_inner v e a b f).q) (8 * (open_high v e a b f).q) m2 m3
              first_over = over_at _ _ (near_is s _ (open_inner v e a b f).at) (open_high v e a b f).at o3

            pub mend_double_2 : Both m t w → Mendable m3 (far_of s inner.place) w
            mend_double_2 (v, e, a, b, f) =
                mendable_at m3 (far_is s _ (open_inner v e a b f).at) e
                (mend_w (double v e a b f) m1 (first_copied v e a b f) m2 (second_copied v e a b f) m3 (first_over v e a b f))

            module _ (m4 : List ℕ) (o4 : Over (far_of s inner.place) w m3 m4) where
              module _ (v : ℕ) (e : w ≡ 8 * v) (a b : Tree) (f : Two m t v a b) where
                second_over : Over (far_seat s (open_inner v e a b f).q) (8 * v) m3 m4
                second_over = over_at _ _ (far_is s _ (open_inner v e a b f).at) e o4

              pub mend_double_3 : Both m t w → Mendable m4 t inner.place
              mend_double_3 (v, e, a, b, f) =
                  mendable_at m4 refl (open_inner v e a b f).at
                  (mend_y (double v e a b f) m1 (first_copied v e a b f) m2 (second_copied v e a b f) m3 (first_over v e a b f) m4 (second_over v e a b f))

              pub turn_double : (m5 : List ℕ) → Over t inner.place m4 m5 → Turns s t w m m5
              turn_double m5 o5 v e a b f =
                  let j = open_high v e a b f in
                  let i = open_inner v e a b f in
                  let q : height j.a < height j.c = omega (arith, compared v e a b f) in
                  let g = double_end (double v e a b f) m1 (first_copied v e a b f) m2 (second_copied v e a b f) m3 (first_over v e a b f) m4 (second_over v e a b f) m5 (over_at _ _ refl i.at o5) in
                  arranged v e a b f m5 _
                  (rw (j.is, turn_over s v j.q j.a j.c (far s a b), lt-leb (height j.c) (height j.a) q, i.is, twice_over s v j.q i.q j.a i.a i.c (far s a b)) g.0) g.1
                  (λ z k. omega (arith, k, uses_sides (z / 8) s a b, ap (uses (z / 8)) j.is, uses_over (z / 8) s j.q j.a j.c, ap (uses (z / 8)) i.is, uses_over (z / 8) s i.q i.a i.c))
