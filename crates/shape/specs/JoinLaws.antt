-- What `hang` and `join` come to: the leaves of both trees, one after the other, on the same places, and balanced whatever their heights were;
-- and `clear` and `freed`, case by case.
use Rattle.std.specs.Prelude.{◌≡◌, refl, Bool, true, false, [], ◌++◌, ℕ, ◌+◌, ◌≤◌, ◌<◌, max}
use Rattle.std.proofs.Common.{sym, inl, inr, arith}
use Rattle.numbers.specs.Case.{case_le}
use Rattle.shape.specs.Tree.{Tree, leaf, node, height, low, leaves, weight, All, Balanced}
use Rattle.shape.specs.Side.{near, far, over}
use Rattle.shape.specs.SideLaws.{joined, joined_assoc, leaves_over, height_over, all_over, over_all, over_even}
use Rattle.shape.specs.Arrange.{balance}
use Rattle.shape.specs.BalanceLaws.{balance_over}
use Rattle.shape.specs.HangLaws.{hang_over, hang_side, weight_hang, height_hang, join_left, join_right}
use Rattle.shape.specs.Clear.{hang, join, gone, rest, meet, clear, unused, freed}

-- t is w over x, on the side named, and y, which is no higher (weight and greatest height: HangLaws)
pub record Hung (left : Bool) (x y t : Tree) : Type 1 where
  pub list : leaves t ≡ joined left (leaves x) (leaves y)
  pub all : (P : (k e : ℕ) → Type 0) → All P x → All P y → All P t
  pub even : Balanced t
  pub tall : height x ≤ height t

module _ (left : Bool) (w : ℕ) where
  -- right under w
  at_once : (x y : Tree) → Balanced x → Balanced y → height y ≤ height x → height x ≤ height y + 1 → Hung left x y (over left w x y)
  at_once x y X Y h i = record {
    list = leaves_over left w x y;
    all = λ P c d. over_all left w x y P c d;
    even = over_even left w x y X Y i (omega arith);
    tall = omega (arith, height_over left w x y);
  }

  -- below the node q, beside its inner child d
  deeper : (q : ℕ) (c d y : Tree) → Balanced c → height c ≤ height d + 1 → height d ≤ height c + 1 → height y ≤ height d
      → Hung left d y (hang left w d y) → Hung left (over left q c d) y (balance q (near left c (hang left w d y)) (far left c (hang left w d y)))
  deeper q c d y C h i j Z =
      let z = hang left w d y in
      let B = balance_over left q c z C Z.even (omega (arith, Z.tall)) (omega (arith, height_hang left w d y)) in
      record {
        list = rw (B.list, Z.list, leaves_over left q c d) (sym (joined_assoc left (leaves c) (leaves d) (leaves y)));
        all = λ P a b. let A = all_over left q c d P a in B.all P A.0 (Z.all P A.1 b);
        even = B.even;
        tall = omega (arith, B.tall, Z.tall, height_over left q c d);
      }

pub hang_ok : (left : Bool) (w : ℕ) (x y : Tree) → Balanced x → Balanced y → height y ≤ height x → Hung left x y (hang left w x y)
hang_ok left w (leaf k e) y X Y h = rw (hang_over left w (leaf k e) y (omega arith)) (at_once left w (leaf k e) y X Y h (omega arith))
hang_ok true w (node q c d) y X Y h = elim (case_le (height (node q c d)) (height y + 1)) [
  | inl z ↦ rw (hang_over true w (node q c d) y z.0) (at_once true w (node q c d) y X Y h z.0)
  | inr z ↦
      let l : height y ≤ height d = omega (arith, z.0, X.2, X.3) in
      rw (hang_side true w q c d y z.0) (deeper true w q c d y X.0 X.2 X.3 l (hang_ok true w d y X.1 Y l))
]
hang_ok false w (node q c d) y X Y h = elim (case_le (height (node q c d)) (height y + 1)) [
  | inl z ↦ rw (hang_over false w (node q c d) y z.0) (at_once false w (node q c d) y X Y h z.0)
  | inr z ↦
      let l : height y ≤ height c = omega (arith, z.0, X.2, X.3) in
      rw (hang_side false w q c d y z.0) (deeper false w q d c y X.1 X.3 X.2 l (hang_ok false w c y X.0 Y l))
]

-- t is l and r joined by w
pub record Met (w : ℕ) (l r t : Tree) : Type 1 where
  pub list : leaves t ≡ leaves l ++ leaves r
  pub weigh : (f : (k e : ℕ) → ℕ) (v : ℕ → ℕ) → weight f v t ≡ v w + weight f v l + weight f v r
  pub all : (P : (k e : ℕ) → Type 0) → All P l → All P r → All P t
  pub even : Balanced t
  pub high : height t ≤ max (height l) (height r) + 1

pub join_ok : (w : ℕ) (l r : Tree) → Balanced l → Balanced r → Met w l r (join w l r)
join_ok w l r L R = elim (case_le (height r) (height l)) [
  | inl z ↦
      let H = hang_ok true w l r L R z.0 in
      rw (join_left w l r z.0) (record { list = H.list; weigh = λ f v. weight_hang f v true w l r; all = H.all; even = H.even; high = height_hang true w l r })
  | inr z ↦
      let H = hang_ok false w r l R L (omega (arith, z.0)) in
      rw (join_right w l r z.0) (record {
        list = H.list;
        weigh = λ f v. omega (arith, weight_hang f v false w r l);
        all = λ P a b. H.all P b a;
        even = H.even;
        high = omega (arith, height_hang false w r l);
      })
]

-- ---- a tree with no leaf to clear stays as it is
pub clear_none : (b : ℕ) (t : Tree) → b ≤ low t → clear b t ≡ rest t
unfolding clear
clear_none b (leaf k e) h = elim (case_le b e) [ inl z ↦ rw z.1 | inr z ↦ absurd (omega arith) ]
clear_none b (node x l r) h = elim (case_le b (low (node x l r))) [ inl z ↦ rw z.1 | inr z ↦ absurd (omega arith) ]

pub freed_none : (b : ℕ) (t : Tree) → b ≤ low t → freed b t ≡ []
unfolding freed
freed_none b (leaf k e) h = refl
freed_none b (node x l r) h = elim (case_le b (low (node x l r))) [ inl z ↦ rw z.1 | inr z ↦ absurd (omega arith) ]

-- else a node's sides are cleared
pub clear_sides : (b x : ℕ) (l r : Tree) → low (node x l r) < b → clear b (node x l r) ≡ meet x (clear b l) (clear b r)
unfolding clear
clear_sides b x l r h = elim (case_le b (low (node x l r))) [ inl z ↦ absurd (omega arith) | inr z ↦ rw z.1 ]

pub freed_sides : (b x : ℕ) (l r : Tree) → low (node x l r) < b → freed b (node x l r) ≡ unused x (clear b l) (clear b r) ++ (freed b r ++ freed b l)
unfolding freed
freed_sides b x l r h = elim (case_le b (low (node x l r))) [ inl z ↦ absurd (omega arith) | inr z ↦ rw z.1 ]

pub clear_leaf : (b k e : ℕ) → e < b → clear b (leaf k e) ≡ gone
unfolding clear
clear_leaf b k e h = elim (case_le b e) [ inl z ↦ absurd (omega arith) | inr z ↦ rw z.1 ]

-- a leaf has no place to give
pub freed_leaf : (b k e : ℕ) → freed b (leaf k e) ≡ []
unfolding freed
freed_leaf b k e = refl
