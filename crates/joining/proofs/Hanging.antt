-- The steps of a hanging: a node over the two trees here, or the inner child beside the lower tree, hung anew, and a balance on the way up.
-- Once for both sides.
use mathlib.Core.Path.{◌≡◌, refl, sym, ap}
use mathlib.Core.Logic.{◌≢◌}
use mathlib.Core.Bool.{Bool, true, false}
use mathlib.Core.List.{List}
use Prim.Native.Nat.{ℕ, ◌+◌, ◌*◌, ◌/◌, ◌<◌, ◌≤◌, max}
use native.Mathlib.Omega.{arith}
use Rattle.shape.specs.Tree.{Tree, node, height, same, uses}
use Rattle.shape.specs.Side.{over, near, far}
use Rattle.shape.specs.Arrange.{balance}
use Rattle.shape.specs.Clear.{hang}
use Rattle.shape.specs.HangLaws.{hang_over, hang_side, weight_hang, height_hang}
use Rattle.shape.specs.SideLaws.{height_over, height_sides, over_sides}
use Rattle.shape.specs.PlaceLaws.{same_self, same_other, same_none}
use Rattle.node.specs.declared.Node.{Node}
use Rattle.node.specs.Layout.{highest, Within, node_at, Kept, Over, Copied}
use Rattle.summing.proofs.Sums.{read_at}
use Rattle.node.specs.Rep.{Stands}
use Rattle.node.proofs.Frames.{kept_then, kept_less, within_kept}
use Rattle.node.proofs.Reps.{tall, within, stands_frame}
use Rattle.node.proofs.Seats.{near_of, far_of, near_seat, far_seat, near_half, far_half, near_is, far_is, near_far, near_stands, far_stands, stands_past, copied_past, reads_height, Parts, parts}
use Rattle.turning.specs.Turns.{Two, Both, Arranged, Balances}
use Rattle.turning.proofs.Sides.{uses_over, uses_sides, apart, seat_free, two_on, two_over, copied_at, over_at, within_at}
use Rattle.joining.specs.Joins.{Hangs}

-- ---- with the tree on the side named first
hangs_on : {m m' : List ℕ} {t w : ℕ} (v : ℕ) → w ≡ 8 * v → (a b : Tree) (s : Bool) → Hangs s t w m m' → Two m t v (near s a b) (far s a b) → Arranged t (over s v a b) (hang s v a b) m m'
hangs_on v e a b true h f = h v e a b f
hangs_on v e a b false h f = h v e b a f

hang_below : (s : Bool) (w x : ℕ) (c d b : Tree) → height b + 1 < height (over s x c d)
    → hang s w (over s x c d) b ≡ balance x (near s c (hang s w d b)) (far s c (hang s w d b))
hang_below true w x c d b h = hang_side true w x c d b h
hang_below false w x c d b h = hang_side false w x d c b h

-- ---- one step down: the high tree, at place x, is c and d, the inner child; beside it is b; the node over all goes to the seat t
record Step (m : List ℕ) (s : Bool) (t w x : ℕ) (c d b : Tree) : Type 0 where
  room : Within m t
  high_in : Within m (near_seat s w)
  c_at : Stands m (near_seat s x) c
  d_at : Stands m (far_seat s x) d
  b_at : Stands m (far_seat s w) b
  once : (z : ℕ) → same z (t / 8) + (same z w + (same z x + uses z c + uses z d) + uses z b) ≤ 1
  steep : height b + 1 ≤ max (height c) (height d)
  low : max (height c) (height d) + 2 ≤ highest

-- d goes where the high tree was, w over d and b to where d was, and x over c and that to t
module _ {m : List ℕ} {s : Bool} {t w x : ℕ} {c d b : Tree} (f : Step m s t w x c d b) where
  x_w : x ≢ w
  x_w = same_none x w (omega (arith, f.once x, same_self x))

  module _ (m1 : List ℕ) (o1 : Copied (far_seat s x) (near_seat s w) m m1) where
    d1 : Stands m1 (near_seat s w) d
    d1 = copied_past (near_half s w) o1 f.high_in (omega (arith, f.once w, same_self w)) f.d_at

    b1 : Stands m1 (far_seat s w) b
    b1 = stands_past (near_half s w) o1.kept (λ e. near_far s w (sym e)) (omega (arith, f.once w, same_self w)) f.b_at

    c1 : Stands m1 (near_seat s x) c
    c1 = stands_past (near_half s w) o1.kept (apart (near_half s x) (near_half s w) x_w) (omega (arith, f.once w, same_self w)) f.c_at

    two1 : Two m1 (far_seat s x) w (near s d b) (far s d b)
    two1 =
        two_on s d1 b1 (within_kept _ m m1 o1.kept (far_seat s x) (within f.d_at))
        (λ z. rw (far_half s x) (omega (arith, f.once z)))
        (omega (arith, f.steep, f.low))

    module _ (m2 : List ℕ) (hangs : Hangs s (far_seat s x) (8 * w) m1 m2) where
      hung : Arranged (far_seat s x) (over s w d b) (hang s w d b) m1 m2
      hung = hangs_on w refl d b s hangs two1

      c2 : Stands m2 (near_seat s x) c
      c2 =
          let g : uses (near_seat s x / 8) (over s w d b) ≡ 0 = rw (near_half s x) (omega (arith, f.once x, same_self x, uses_over x s w d b)) in
          stands_frame hung.kept (omega (arith, g, same_other (near_seat s x) (far_seat s x) (near_far s x)))
          (λ z u. omega (arith, f.once (z / 8), uses_over (z / 8) s w d b, seat_free z (far_seat s x) x (far_half s x) (omega (arith, f.once (z / 8)))))
          c1

      two2 : Two m2 t x (near s c (hang s w d b)) (far s c (hang s w d b))
      two2 =
          two_on s c2 hung.stands (within_kept _ m1 m2 hung.kept t (within_kept _ m m1 o1.kept t f.room))
          (λ z. omega (arith, f.once z, hung.many z, uses_over z s w d b))
          (omega (arith, f.steep, f.low, hung.high, height_over s w d b))

      hung_end : (m3 : List ℕ) → Balances t (8 * x) m2 m3
          → Stands m3 t (balance x (near s c (hang s w d b)) (far s c (hang s w d b)))
          × Kept (λ z. same z t + (same (z / 8) w + (same (z / 8) x + uses (z / 8) c + uses (z / 8) d) + uses (z / 8) b)) m m3
      hung_end m3 bal =
          let i = bal x refl _ _ two2 in (
            i.stands,
            kept_then {n = λ z. same (z / 8) w + (same (z / 8) x + uses (z / 8) d + uses (z / 8) b)}
                (kept_then o1.kept hung.kept (λ z e. (
                  seat_free z _ w (near_half s w) (omega arith),
                  omega (arith, seat_free z (far_seat s x) x (far_half s x) (omega arith), uses_over (z / 8) s w d b),
                )))
                i.kept (λ z e. (
                  omega arith,
                  omega (arith, uses_sides (z / 8) s c (hang s w d b), hung.many (z / 8), uses_over (z / 8) s w d b),
                )),
          )

-- ---- seats as the code has them, by their equations
pub both_at : (m : List ℕ) {u u' w : ℕ} → u ≡ u' → Both m u' w → Both m u w
both_at m e g = rw e g

pub hangs_at : (m m' : List ℕ) {u u' w w' : ℕ} (s : Bool) → u ≡ u' → w ≡ w' → Hangs s u w m m' → Hangs s u' w' m m'
hangs_at m m' s e d h = rw (e, d) at h

balances_at : (m m' : List ℕ) (u : ℕ) {w w' : ℕ} → w ≡ w' → Balances u w m m' → Balances u w' m m'
balances_at m m' u e h = rw e at h

lower_at : (m1 m : List ℕ) {u u' : ℕ} → u ≡ u' → (node_at m1 u').height < (node_at m u').height → (node_at m1 u).height < (node_at m u).height
lower_at m1 m e h = rw e h

-- ---- by the two nodes read
module _ (m : List ℕ) (s : Bool) (t w : ℕ) (n k : Node) (en : n ≡ node_at m (near_of s w)) (ek : k ≡ node_at m (far_of s w)) where
  module _ (v : ℕ) (e : w ≡ 8 * v) (a b : Tree) (f : Two m t v a b) where
    high_at : Stands m (near_seat s v) (near s a b)
    high_at = near_stands s v f.first f.second

    low_at : Stands m (far_seat s v) (far s a b)
    low_at = far_stands s v f.first f.second

    heights : (n.height ≡ height (near s a b)) × (k.height ≡ height (far s a b))
    heights = (reads_height m _ n (read_at m (near_is s v e) en) high_at, reads_height m _ k (read_at m (far_is s v e) ek) low_at)

    arranged : (m' : List ℕ) → Stands m' t (hang s v (near s a b) (far s a b)) → Kept (λ z. same z t + uses (z / 8) (node v a b)) m m'
        → Arranged t (node v a b) (hang s v (near s a b) (far s a b)) m m'
    arranged m' st kept =
        record {
          stands = st;
          many = λ z. omega (arith, weight_hang (λ j u. 0) (same z) s v (near s a b) (far s a b), uses_sides z s a b);
          high = omega (arith, height_hang s v (near s a b) (far s a b), height_sides s a b);
          kept = kept;
        }

  pub low_side : Both m t w → k.height < 4294967290
  low_side (v, e, a, b, f) = omega (arith, heights v e a b f, f.low, height_sides s a b)

  -- ---- here
  pub hang_here : (m1 : List ℕ) → n.height ≤ k.height + 1 → Over t w m m1 → Hangs s t w m m1
  hang_here m1 le o v e a b f =
      let q : height (near s a b) ≤ height (far s a b) + 1 = omega (arith, heights v e a b f) in
      arranged v e a b f m1 (rw (hang_over s v (near s a b) (far s a b) q, ← over_sides s v a b) (two_over f m1 (over_at _ _ refl e o))) (kept_less o.kept (λ z u. omega arith))

  -- ---- further down
  module _ (deep : k.height + 1 < n.height) where
    module _ (v : ℕ) (e : w ≡ 8 * v) (a b : Tree) (f : Two m t v a b) where
      open_high : Parts m s n.place (near s a b)
      open_high = parts m s (near_seat s v) n (read_at m (near_is s v e) en) (omega arith) (near s a b) (high_at v e a b f)

      step : Step m s t v open_high.q open_high.a open_high.c (far s a b)
      step =
          let i = ap height open_high.is in
          let j = height_over s open_high.q open_high.a open_high.c in
          let g = heights v e a b f in
          record {
            room = f.room;
            high_in = within (high_at v e a b f);
            c_at = open_high.a_at;
            d_at = open_high.c_at;
            b_at = low_at v e a b f;
            once = λ z. omega (arith, f.once z, uses_sides z s a b, ap (uses z) open_high.is, uses_over z s open_high.q open_high.a open_high.c);
            steep = omega arith;
            low = omega (arith, f.low, height_sides s a b);
          }

    pub within_inner : Both m t w → Within m (far_of s n.place) × (n.place < 65536)
    within_inner (v, e, a, b, f) =
        let p = open_high v e a b f in
        let i = within p.c_at in
        (within_at m (far_is s p.q p.at) i, omega (arith, p.at, i.2, far_half s p.q))

    module _ (m1 : List ℕ) (o1 : Copied (far_of s n.place) (near_of s w) m m1) where
      copied : (v : ℕ) (e : w ≡ 8 * v) (a b : Tree) (f : Two m t v a b) → Copied (far_seat s (open_high v e a b f).q) (near_seat s v) m m1
      copied v e a b f = copied_at _ _ (far_is s _ (open_high v e a b f).at) (near_is s v e) o1

      pub hang_down : Both m t w → Both m1 (far_of s n.place) w × ((node_at m1 (near_of s w)).height < (node_at m (near_of s w)).height)
      hang_down (v, e, a, b, f) =
          let p = open_high v e a b f in
          let i = ap height p.is in
          let j = height_over s p.q p.a p.c in
          let c = copied v e a b f in
          let h : (node_at m1 (near_seat s v)).height < (node_at m (near_seat s v)).height = omega (arith, tall (d1 (step v e a b f) m1 c), tall (high_at v e a b f)) in
          (both_at m1 (far_is s p.q p.at) (v, e, _, _, two1 (step v e a b f) m1 c), lower_at m1 m (near_is s v e) h)

      module _ (m2 : List ℕ) (hangs : Hangs s (far_of s n.place) w m1 m2) where
        hung_here : (v : ℕ) (e : w ≡ 8 * v) (a b : Tree) (f : Two m t v a b) → Hangs s (far_seat s (open_high v e a b f).q) (8 * v) m1 m2
        hung_here v e a b f = hangs_at _ _ s (far_is s _ (open_high v e a b f).at) e hangs

        pub hung_both : Both m t w → Both m2 t n.place
        hung_both (v, e, a, b, f) =
            let p = open_high v e a b f in
            (p.q, p.at, _, _, two2 (step v e a b f) m1 (copied v e a b f) m2 (hung_here v e a b f))

        pub hang_on : (m3 : List ℕ) → Balances t n.place m2 m3 → Hangs s t w m m3
        hang_on m3 bal v e a b f =
            let p = open_high v e a b f in
            let g = hung_end (step v e a b f) m1 (copied v e a b f) m2 (hung_here v e a b f) m3 (balances_at _ _ t p.at bal) in
            let q : height (far s a b) + 1 < height (over s p.q p.a p.c) = omega (arith, heights v e a b f, ap height p.is) in
            arranged v e a b f m3 (rw (p.is, hang_below s v p.q p.a p.c (far s a b) q) g.0)
            (kept_less g.1 (λ z u. omega (arith, u, uses_sides (z / 8) s a b, ap (uses (z / 8)) p.is, uses_over (z / 8) s p.q p.a p.c)))
