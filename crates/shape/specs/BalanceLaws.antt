-- What `balance w l r` comes to: the leaves and their order are those of a node w over l and r, and it is balanced.
-- One record says it of a turn and of the whole, with the side of the first tree as a parameter.
use Rattle.std.specs.Prelude.{◌≡◌, refl, Bool, true, false, not, ℕ, ◌+◌, ◌*◌, ◌≤◌, min, max, leb}
use Rattle.std.proofs.Common.{inl, inr, arith}
use Rattle.numbers.specs.Case.{pick, case_le}
use Rattle.shape.specs.Tree.{Tree, leaf, node, height, lo, top, low, Balanced, Ord, All, leaves, weight}
use Rattle.shape.specs.Side.{over, near, far}
use Rattle.shape.specs.SideLaws.{joined, joined_assoc, joined_swap, over_swap, leaves_over, height_over, top_over, low_over, weight_over, all_over, over_all, over_even}
use Rattle.shape.specs.Rising.{lo_list, ord_list}
use Rattle.shape.specs.Arrange.{twice, turn, balance}

-- t is a node w over x and y, x on the side named, evened out
pub record Evened (left : Bool) (w : ℕ) (x y t : Tree) : Type 1 where
  pub list : leaves t ≡ joined left (leaves x) (leaves y)
  pub first : lo t ≡ lo (over left w x y)
  pub most : top t ≡ max (top x) (top y)
  pub least : low t ≡ min (low x) (low y)
  pub weigh : (f : (k e : ℕ) → ℕ) (v : ℕ → ℕ) → weight f v t ≡ v w + weight f v x + weight f v y
  pub all : (P : (k e : ℕ) → Type 0) → All P x → All P y → All P t
  pub ord : (a b : ℕ) → Ord a b (over left w x y) → Ord a b t
  pub even : Balanced t
  -- one more than the higher of the two; where that is higher by 2, perhaps just as high
  pub high : height t ≤ max (height x) (height y) + 1
  pub tall : height x + height y + 2 ≤ 2 * height t

abbrev pub Balances : (w : ℕ) → (l r t : Tree) → Type 1
Balances w l r t = Evened true w l r t

-- ---- what a turn does not change
record Alike (left : Bool) (w : ℕ) (x y t : Tree) : Type 1 where
  list : leaves t ≡ joined left (leaves x) (leaves y)
  most : top t ≡ max (top x) (top y)
  least : low t ≡ min (low x) (low y)
  weigh : (f : (k e : ℕ) → ℕ) (v : ℕ → ℕ) → weight f v t ≡ v w + weight f v x + weight f v y
  all : (P : (k e : ℕ) → Type 0) → All P x → All P y → All P t

once_alike : (left : Bool) (w x : ℕ) (a i b : Tree) → Alike left w (over left x a i) b (over left x a (over left w i b))
once_alike left w x a i b = record {
  list = simp (leaves_over, joined_assoc);
  most = simp top_over (omega arith);
  least = simp low_over (omega arith);
  weigh = λ f v. simp weight_over (omega arith);
  all = λ P h g. let s = all_over left x a i P h in over_all left x a _ P s.0 (over_all left w i b P s.1 g);
}

twice_alike : (left : Bool) (w x y : ℕ) (a c d b : Tree)
    → Alike left w (over left x a (over left y c d)) b (over left y (over left x a c) (over left w d b))
twice_alike left w x y a c d b = record {
  list = simp (leaves_over, joined_assoc);
  most = simp top_over (omega arith);
  least = simp low_over (omega arith);
  weigh = λ f v. simp weight_over (omega arith);
  all = λ P h g.
      let s = all_over left x a (over left y c d) P h in
      let m = all_over left y c d P s.1 in
      over_all left y _ _ P (over_all left x a c P s.0 m.0) (over_all left w d b P m.1 g);
}

-- order and least key follow from the list
evened : (left : Bool) (w : ℕ) (x y t : Tree) → Alike left w x y t → Balanced t → height t ≤ max (height x) (height y) + 1
    → height x + height y + 2 ≤ 2 * height t → Evened left w x y t
evened left w x y t s e h i =
    let q : leaves t ≡ leaves (over left w x y) = rw leaves_over s.list in
    record {
      list = s.list;
      first = lo_list t (over left w x y) q;
      most = s.most;
      least = s.least;
      weigh = s.weigh;
      all = s.all;
      ord = λ a b o. ord_list a b (over left w x y) t q o;
      even = e;
      high = h;
      tall = i;
    }

-- ---- the turns, of a tree too high by 2 on the side named
twice_over : (left : Bool) (w x y : ℕ) (a c d b : Tree) → Balanced a → Balanced c → Balanced d → Balanced b
    → height c ≤ height d + 1 → height d ≤ height c + 1 → max (height c) (height d) ≡ height b → height a ≡ height b
    → Evened left w (over left x a (over left y c d)) b (over left y (over left x a c) (over left w d b))
twice_over left w x y a c d b A C D B h i j k =
    evened left w _ b _ (twice_alike left w x y a c d b)
    (over_even left y _ _ (over_even left x a c A C (omega arith) (omega arith)) (over_even left w d b D B (omega arith) (omega arith))
    (simp height_over (omega arith)) (simp height_over (omega arith)))
    (simp height_over (omega arith))
    (simp height_over (omega arith))

twice_ok : (left : Bool) (w x : ℕ) (a i b : Tree) → Balanced a → Balanced i → Balanced b
    → height i ≡ height b + 1 → height a ≡ height b → Evened left w (over left x a i) b (twice left w x a i b)
unfolding twice
twice_ok left w x a (leaf k e) b A I B h j = absurd (omega arith)
twice_ok true w x a (node y c d) b A I B h j = twice_over true w x y a c d b A I.0 I.1 B I.2 I.3 (omega arith) j
twice_ok false w x a (node y c d) b A I B h j = twice_over false w x y a d c b A I.1 I.0 B I.3 I.2 (omega arith) j

turn_over : (left : Bool) (w x : ℕ) (a i b : Tree) → Balanced a → Balanced i → Balanced b
    → height a ≤ height i + 1 → height i ≤ height a + 1 → max (height a) (height i) ≡ height b + 1
    → Evened left w (over left x a i) b (pick (leb (height i) (height a)) (over left x a (over left w i b)) (twice left w x a i b))
turn_over left w x a i b A I B h j k = elim (case_le (height i) (height a)) [
  | inl z ↦ rw z.1 (evened left w _ b _ (once_alike left w x a i b)
      (over_even left x a _ A (over_even left w i b I B (omega arith) (omega arith))
      (simp height_over (omega arith)) (simp height_over (omega arith)))
      (simp height_over (omega arith))
      (simp height_over (omega arith)))
  | inr z ↦ rw z.1 (twice_ok left w x a i b A I B (omega arith) (omega arith))
]

pub turn_ok : (left : Bool) (w : ℕ) (high low : Tree) → Balanced high → Balanced low → height high ≡ height low + 2
    → Evened left w high low (turn left w high low)
unfolding turn
turn_ok left w (leaf k e) b H B h = absurd (omega arith)
turn_ok true w (node x c d) b H B h = turn_over true w x c d b H.0 H.1 B H.2 H.3 (omega arith)
turn_ok false w (node x c d) b H B h = turn_over false w x d c b H.1 H.0 B H.3 H.2 (omega arith)

-- ---- balance
-- seen from the other side
swapped : (left : Bool) (w : ℕ) (x y t : Tree) → Evened left w x y t → Evened (not left) w y x t
swapped left w x y t s = record {
  list = rw joined_swap s.list;
  first = rw over_swap s.first;
  most = omega arith;
  least = omega arith;
  weigh = λ f v. omega (arith, s.weigh f v);
  all = λ P h i. s.all P i h;
  ord = λ a b o. s.ord a b (rw over_swap at o);
  even = s.even;
  high = omega arith;
  tall = omega arith;
}

pub balance_ok : (w : ℕ) (l r : Tree) → Balanced l → Balanced r → height l ≤ height r + 2 → height r ≤ height l + 2
    → Balances w l r (balance w l r)
unfolding balance
balance_ok w l r L R h i = elim (case_le (height r + 2) (height l)) [
  | inl z ↦ rw z.1 (turn_ok true w l r L R (omega arith))
  | inr z ↦ elim (case_le (height l + 2) (height r)) [
    | inl y ↦ rw (z.1, y.1) (swapped false w r l _ (turn_ok false w r l R L (omega arith)))
    | inr y ↦ rw (z.1, y.1) (evened true w l r _ (record { list = refl; most = refl; least = refl; weigh = λ f v. refl; all = λ P h g. (h, g) })
        (L, R, omega arith, omega arith) (omega arith) (omega arith))
  ]
]

-- the same with the first tree on the side named
pub balance_over : (left : Bool) (w : ℕ) (x y : Tree) → Balanced x → Balanced y → height x ≤ height y + 2 → height y ≤ height x + 2
    → Evened left w x y (balance w (near left x y) (far left x y))
balance_over true w x y X Y h i = balance_ok w x y X Y h i
balance_over false w x y X Y h i = swapped true w y x _ (balance_ok w y x Y X i h)
