-- The steps of a turn, single and double, for either side: one seat after the other is written, and each tree that is still needed stays.
-- What the code reads and may do by it is in Turning.
use mathlib.Core.Path.{◌≡◌, sym}
use mathlib.Core.Logic.{◌≢◌}
use mathlib.Core.Bool.{Bool}
use mathlib.Core.List.{List}
use Prim.Native.Nat.{ℕ, ◌+◌, ◌*◌, ◌/◌, ◌≤◌, max}
use native.Mathlib.Omega.{arith}
use Rattle.shape.specs.Tree.{Tree, height, same, uses}
use Rattle.shape.specs.Side.{over}
use Rattle.node.specs.Layout.{highest, Within, Kept, Over, Copied, Mendable}
use Rattle.node.specs.Rep.{Stands}
use Rattle.shape.specs.SideLaws.{height_over}
use Rattle.shape.specs.PlaceLaws.{same_self, same_none}
use Rattle.node.proofs.Frames.{kept_then, within_kept}
use Rattle.node.proofs.Reps.{within}
use Rattle.node.proofs.Seats.{near_seat, far_seat, near_half, far_half, near_far, over_stands, stands_past, copied_past}
use Rattle.turning.proofs.Sides.{uses_over, apart, seat_free, mendable_on}

-- ---- the single turn: the high tree, at place x, is a and c; beside it is b; the node over all goes to the seat t of the place p
pub record Single (m : List ℕ) (s : Bool) (t p w x : ℕ) (a c b : Tree) : Type 0 where
  pub seat : t / 8 ≡ p
  pub room : Within m t
  pub high_in : Within m (near_seat s w)
  pub a_at : Stands m (near_seat s x) a
  pub c_at : Stands m (far_seat s x) c
  pub b_at : Stands m (far_seat s w) b
  pub once : (z : ℕ) → same z p + (same z w + (same z x + uses z a + uses z c) + uses z b) ≤ 1
  pub steep : height b + 1 ≤ max (height a) (height c)
  pub low : max (height a) (height c) + 2 ≤ highest

-- c goes where the high tree was, w over c and b where c was, and x over a and that to t
module _ {m : List ℕ} {s : Bool} {t p w x : ℕ} {a c b : Tree} (f : Single m s t p w x a c b) where
  w_x : x ≢ w
  w_x = same_none x w (omega (arith, f.once x, same_self x))

  p_x : p ≢ x
  p_x = same_none p x (omega (arith, f.once p, same_self p))

  module _ (m1 : List ℕ) (o1 : Copied (far_seat s x) (near_seat s w) m m1) where
    c1 : Stands m1 (near_seat s w) c
    c1 = copied_past (near_half s w) o1 f.high_in (omega (arith, f.once w, same_self w)) f.c_at

    b1 : Stands m1 (far_seat s w) b
    b1 = stands_past (near_half s w) o1.kept (λ e. near_far s w (sym e)) (omega (arith, f.once w, same_self w)) f.b_at

    a1 : Stands m1 (near_seat s x) a
    a1 = stands_past (near_half s w) o1.kept (apart (near_half s x) (near_half s w) w_x) (omega (arith, f.once w, same_self w)) f.a_at

    in1 : Within m1 (far_seat s x)
    in1 = within_kept _ m m1 o1.kept (far_seat s x) (within f.c_at)

    pub mend1 : Mendable m1 (far_seat s x) (8 * w)
    mend1 = mendable_on s in1 c1 b1 (omega (arith, f.low)) (omega (arith, f.low, f.steep))

    module _ (m2 : List ℕ) (o2 : Over (far_seat s x) (8 * w) m1 m2) where
      w2 : Stands m2 (far_seat s x) (over s w c b)
      w2 = over_stands s (far_half s x) in1 o2 c1 b1 w_x (omega (arith, f.once x, same_self x)) (omega (arith, f.once x, same_self x))

      a2 : Stands m2 (near_seat s x) a
      a2 = stands_past (far_half s x) o2.kept (near_far s x) (omega (arith, f.once x, same_self x)) a1

      in2 : Within m2 t
      in2 = within_kept _ m1 m2 o2.kept t (within_kept _ m m1 o1.kept t f.room)

      pub mend2 : Mendable m2 t (8 * x)
      mend2 = mendable_on s in2 a2 w2 (omega (arith, f.low)) (omega (arith, f.low, f.steep, height_over s w c b))

      pub single_end : (m3 : List ℕ) → Over t (8 * x) m2 m3
          → Stands m3 t (over s x a (over s w c b)) × Kept (λ z. same z t + same (z / 8) w + same (z / 8) x) m m3
      single_end m3 o3 = (
        over_stands s f.seat in2 o3 a2 w2 p_x (omega (arith, f.once p, same_self p)) (omega (arith, f.once p, same_self p, uses_over p s w c b)),
        kept_then {n = λ z. same (z / 8) w + same (z / 8) x}
            (kept_then o1.kept o2.kept (λ z e. (seat_free z _ w (near_half s w) (omega arith), seat_free z _ x (far_half s x) (omega arith))))
            o3.kept (λ z e. (omega arith, omega arith)),
      )

-- ---- the double turn: the high tree's inner child, at place y, is d and e
pub record Double (m : List ℕ) (s : Bool) (t p w x y : ℕ) (a d e b : Tree) : Type 0 where
  pub seat : t / 8 ≡ p
  pub room : Within m t
  pub high_in : Within m (near_seat s w)
  pub inner_in : Within m (far_seat s x)
  pub a_at : Stands m (near_seat s x) a
  pub d_at : Stands m (near_seat s y) d
  pub e_at : Stands m (far_seat s y) e
  pub b_at : Stands m (far_seat s w) b
  pub once : (z : ℕ) → same z p + (same z w + (same z x + uses z a + (same z y + uses z d + uses z e)) + uses z b) ≤ 1
  pub steep : max (height a) (height b) ≤ max (height d) (height e)
  pub low : max (height d) (height e) + 3 ≤ highest

-- d goes where the inner child was, e where the high tree was; x over a and d, w over e and b where d and e were; y over these to t
module _ {m : List ℕ} {s : Bool} {t p w x y : ℕ} {a d e b : Tree} (f : Double m s t p w x y a d e b) where
  x_w : x ≢ w
  x_w = same_none x w (omega (arith, f.once x, same_self x))

  y_w : y ≢ w
  y_w = same_none y w (omega (arith, f.once y, same_self y))

  y_x : y ≢ x
  y_x = same_none y x (omega (arith, f.once y, same_self y))

  p_y : p ≢ y
  p_y = same_none p y (omega (arith, f.once p, same_self p))

  module _ (m1 : List ℕ) (o1 : Copied (near_seat s y) (far_seat s x) m m1) where
    d1 : Stands m1 (far_seat s x) d
    d1 = copied_past (far_half s x) o1 f.inner_in (omega (arith, f.once x, same_self x)) f.d_at

    a1' : Stands m1 (near_seat s x) a
    a1' = stands_past (far_half s x) o1.kept (near_far s x) (omega (arith, f.once x, same_self x)) f.a_at

    pub e1 : Stands m1 (far_seat s y) e
    e1 = stands_past (far_half s x) o1.kept (apart (far_half s y) (far_half s x) y_x) (omega (arith, f.once x, same_self x)) f.e_at

    b1' : Stands m1 (far_seat s w) b
    b1' = stands_past (far_half s x) o1.kept (apart (far_half s w) (far_half s x) (λ q. x_w (sym q))) (omega (arith, f.once x, same_self x)) f.b_at

    pub high1 : Within m1 (near_seat s w)
    high1 = within_kept _ m m1 o1.kept (near_seat s w) f.high_in

    module _ (m2 : List ℕ) (o2 : Copied (far_seat s y) (near_seat s w) m1 m2) where
      e2 : Stands m2 (near_seat s w) e
      e2 = copied_past (near_half s w) o2 high1 (omega (arith, f.once w, same_self w)) e1

      d2 : Stands m2 (far_seat s x) d
      d2 = stands_past (near_half s w) o2.kept (apart (far_half s x) (near_half s w) x_w) (omega (arith, f.once w, same_self w)) d1

      a2' : Stands m2 (near_seat s x) a
      a2' = stands_past (near_half s w) o2.kept (apart (near_half s x) (near_half s w) x_w) (omega (arith, f.once w, same_self w)) a1'

      b2 : Stands m2 (far_seat s w) b
      b2 = stands_past (near_half s w) o2.kept (λ q. near_far s w (sym q)) (omega (arith, f.once w, same_self w)) b1'

      moved : (u : ℕ) → Within m u → Within m2 u
      moved u i = within_kept _ m1 m2 o2.kept u (within_kept _ m m1 o1.kept u i)

      pub mend_x : Mendable m2 (near_seat s y) (8 * x)
      mend_x = mendable_on s (moved _ (within f.d_at)) a2' d2 (omega (arith, f.low, f.steep)) (omega (arith, f.low))

      module _ (m3 : List ℕ) (o3 : Over (near_seat s y) (8 * x) m2 m3) where
        x3 : Stands m3 (near_seat s y) (over s x a d)
        x3 = over_stands s (near_half s y) (moved _ (within f.d_at)) o3 a2' d2 y_x (omega (arith, f.once y, same_self y)) (omega (arith, f.once y, same_self y))

        e3 : Stands m3 (near_seat s w) e
        e3 = stands_past (near_half s y) o3.kept (apart (near_half s w) (near_half s y) (λ q. y_w (sym q))) (omega (arith, f.once y, same_self y)) e2

        b3 : Stands m3 (far_seat s w) b
        b3 = stands_past (near_half s y) o3.kept (apart (far_half s w) (near_half s y) (λ q. y_w (sym q))) (omega (arith, f.once y, same_self y)) b2

        far3 : Within m3 (far_seat s y)
        far3 = within_kept _ m2 m3 o3.kept _ (moved _ (within f.e_at))

        pub mend_w : Mendable m3 (far_seat s y) (8 * w)
        mend_w = mendable_on s far3 e3 b3 (omega (arith, f.low)) (omega (arith, f.low, f.steep))

        module _ (m4 : List ℕ) (o4 : Over (far_seat s y) (8 * w) m3 m4) where
          w4 : Stands m4 (far_seat s y) (over s w e b)
          w4 = over_stands s (far_half s y) far3 o4 e3 b3 y_w (omega (arith, f.once y, same_self y)) (omega (arith, f.once y, same_self y))

          x4 : Stands m4 (near_seat s y) (over s x a d)
          x4 = stands_past (far_half s y) o4.kept (near_far s y) (omega (arith, f.once y, same_self y, uses_over y s x a d)) x3

          in4 : Within m4 t
          in4 = within_kept _ m3 m4 o4.kept t (within_kept _ m2 m3 o3.kept t (moved t f.room))

          pub mend_y : Mendable m4 t (8 * y)
          mend_y = mendable_on s in4 x4 w4 (omega (arith, f.low, f.steep, height_over s x a d)) (omega (arith, f.low, f.steep, height_over s w e b))

          pub double_end : (m5 : List ℕ) → Over t (8 * y) m4 m5
              → Stands m5 t (over s y (over s x a d) (over s w e b)) × Kept (λ z. same z t + same (z / 8) w + same (z / 8) x + same (z / 8) y) m m5
          double_end m5 o5 = (
            over_stands s f.seat in4 o5 x4 w4 p_y (omega (arith, f.once p, same_self p, uses_over p s x a d)) (omega (arith, f.once p, same_self p, uses_over p s w e b)),
            kept_then {n = λ z. same (z / 8) w + same (z / 8) x + same (z / 8) y}
                (kept_then {n = λ z. same (z / 8) w + same (z / 8) x}
                (kept_then o1.kept o2.kept (λ z q. (seat_free z _ x (far_half s x) (omega arith), seat_free z _ w (near_half s w) (omega arith))))
                (kept_then {k = λ z. same (z / 8) y} o3.kept o4.kept (λ z q. (seat_free z _ y (near_half s y) q, seat_free z _ y (far_half s y) q)))
                (λ z q. (omega arith, omega arith)))
                o5.kept (λ z q. (omega arith, omega arith)),
          )
