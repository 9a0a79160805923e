-- Hanging and joining of any trees: which of the two cases it is, by the heights, and what the whole comes to in weight and height.
-- No order and no balance is asked: the code in memory needs no more than these.
use Rattle.std.specs.Prelude.{◌≡◌, refl, Bool, true, false, ℕ, ◌+◌, ◌≤◌, ◌<◌, max}
use Rattle.std.proofs.Common.{inl, inr, arith, le-leb}
use Rattle.std.proofs.lemmas.Bool.{lt-leb}
use Rattle.numbers.specs.Case.{case_le}
use Rattle.shape.specs.Tree.{Tree, leaf, node, height, weight}
use Rattle.shape.specs.Side.{over, near, far}
use Rattle.shape.specs.SideLaws.{weight_over, height_over}
use Rattle.shape.specs.Arrange.{balance}
use Rattle.shape.specs.TurnLaws.{weight_balance, height_balance}
use Rattle.shape.specs.Clear.{hang, join}

-- ---- the two cases of hanging: w over the two trees here, or the inner child hung anew
pub hang_over : (s : Bool) (w : ℕ) (a b : Tree) → height a ≤ height b + 1 → hang s w a b ≡ over s w a b
unfolding hang
hang_over true w (leaf k e) b h = refl
hang_over false w (leaf k e) b h = refl
hang_over true w (node x c d) b h = rw (le-leb (height (node x c d)) (height b + 1) h)
hang_over false w (node x c d) b h = rw (le-leb (height (node x c d)) (height b + 1) h)

pub hang_side : (s : Bool) (w x : ℕ) (c d b : Tree) → height b + 1 < height (node x c d)
    → hang s w (node x c d) b ≡ balance x (near s (near s c d) (hang s w (far s c d) b)) (far s (near s c d) (hang s w (far s c d) b))
unfolding hang
hang_side true w x c d b h = rw (lt-leb (height (node x c d)) (height b + 1) h)
hang_side false w x c d b h = rw (lt-leb (height (node x c d)) (height b + 1) h)

-- ---- what hanging comes to
module _ (u : (k e : ℕ) → ℕ) (v : ℕ → ℕ) where
  pub weight_hang : (s : Bool) (w : ℕ) (a b : Tree) → weight u v (hang s w a b) ≡ v w + weight u v a + weight u v b
  weight_hang s w (leaf k e) b = rw (hang_over s w (leaf k e) b (omega arith)) (weight_over s w (leaf k e) b u v)
  weight_hang true w (node x c d) b = elim (case_le (height (node x c d)) (height b + 1)) [
    | inl y ↦ rw (hang_over true w (node x c d) b y.0)
    | inr y ↦ rw (hang_side true w x c d b y.0) (omega (arith, weight_balance u v x c (hang true w d b), weight_hang true w d b))
  ]
  weight_hang false w (node x c d) b = elim (case_le (height (node x c d)) (height b + 1)) [
    | inl y ↦ rw (hang_over false w (node x c d) b y.0) (omega arith)
    | inr y ↦ rw (hang_side false w x c d b y.0) (omega (arith, weight_balance u v x (hang false w c b) d, weight_hang false w c b))
  ]

pub height_hang : (s : Bool) (w : ℕ) (a b : Tree) → height (hang s w a b) ≤ max (height a) (height b) + 1
height_hang s w (leaf k e) b = rw (hang_over s w (leaf k e) b (omega arith)) (omega (arith, height_over s w (leaf k e) b))
height_hang true w (node x c d) b = elim (case_le (height (node x c d)) (height b + 1)) [
  | inl y ↦ rw (hang_over true w (node x c d) b y.0) (omega arith)
  | inr y ↦ rw (hang_side true w x c d b y.0) (omega (arith, height_balance x c (hang true w d b), height_hang true w d b))
]
height_hang false w (node x c d) b = elim (case_le (height (node x c d)) (height b + 1)) [
  | inl y ↦ rw (hang_over false w (node x c d) b y.0) (omega arith)
  | inr y ↦ rw (hang_side false w x c d b y.0) (omega (arith, height_balance x (hang false w c b) d, height_hang false w c b))
]

-- ---- joining: the higher one takes the lower
pub join_left : (w : ℕ) (l r : Tree) → height r ≤ height l → join w l r ≡ hang true w l r
unfolding join
join_left w l r h = rw (le-leb (height r) (height l) h)

pub join_right : (w : ℕ) (l r : Tree) → height l < height r → join w l r ≡ hang false w r l
unfolding join
join_right w l r h = rw (lt-leb (height r) (height l) h)
