-- What turning and balancing come to in weight and height, of any trees: no order and no balance is asked.
-- The code in memory needs no more than these.
use Rattle.std.specs.Prelude.{◌≡◌, Bool, ℕ, ◌+◌, ◌≤◌, ◌<◌, max, leb}
use Rattle.std.proofs.Math.Path.{refl}
use Rattle.std.proofs.Math.Logic.{inl, inr}
use Rattle.std.proofs.Math.Bool.{true, false}
use Rattle.std.proofs.Common.{arith}
use Rattle.numbers.specs.Case.{pick, case_le}
use Rattle.shape.specs.Tree.{Tree, leaf, node, height, weight}
use Rattle.shape.specs.Side.{over, near, far}
use Rattle.shape.specs.SideLaws.{weight_over, weight_sides, height_over, height_sides}
use Rattle.shape.specs.Arrange.{twice, turn, balance}

pub twice_over : (s : Bool) (w x y : ℕ) (a c d b : Tree) → twice s w x a (over s y c d) b ≡ over s y (over s x a c) (over s w d b)
unfolding twice
twice_over true w x y a c d b = refl
twice_over false w x y a c d b = refl

pub turn_over : (s : Bool) (w x : ℕ) (a c b : Tree) → turn s w (over s x a c) b ≡ pick (leb (height c) (height a)) (over s x a (over s w c b)) (twice s w x a c b)
unfolding turn
turn_over true w x a c b = refl
turn_over false w x a c b = refl

module _ (u : (k e : ℕ) → ℕ) (v : ℕ → ℕ) where
  weight_twice : (s : Bool) (w x : ℕ) (a c b : Tree) → weight u v (twice s w x a c b) ≡ v w + (v x + weight u v a + weight u v c) + weight u v b
  unfolding twice
  weight_twice s w x a (leaf k e) b =
      omega (arith, weight_over s w (over s x a (leaf k e)) b u v, weight_over s x a (leaf k e) u v)
  weight_twice s w x a (node y c d) b =
      omega (arith, weight_over s y (over s x a (near s c d)) (over s w (far s c d) b) u v, weight_over s x a (near s c d) u v, weight_over s w (far s c d) b u v, weight_sides u v s c d)

  pub weight_turn : (s : Bool) (w : ℕ) (a b : Tree) → weight u v (turn s w a b) ≡ v w + weight u v a + weight u v b
  unfolding turn
  weight_turn s w (leaf k e) b = weight_over s w (leaf k e) b u v
  weight_turn s w (node x c d) b = elim (case_le (height (far s c d)) (height (near s c d))) [
    | inl y ↦ rw y.1 (omega (arith, weight_over s x (near s c d) (over s w (far s c d) b) u v, weight_over s w (far s c d) b u v, weight_sides u v s c d))
    | inr y ↦ rw y.1 (omega (arith, weight_twice s w x (near s c d) (far s c d) b, weight_sides u v s c d))
  ]

  pub weight_balance : (w : ℕ) (l r : Tree) → weight u v (balance w l r) ≡ v w + weight u v l + weight u v r
  unfolding balance
  weight_balance w l r = elim (case_le (height r + 2) (height l)) [
    | inl y ↦ rw y.1 (weight_turn true w l r)
    | inr y ↦ rw y.1 (elim (case_le (height l + 2) (height r)) [ inl z ↦ rw z.1 (omega (arith, weight_turn false w r l)) | inr z ↦ rw z.1 refl ])
  ]

height_twice : (s : Bool) (w x : ℕ) (a c b : Tree) → height a < height c → height b < height c + 1 → height (twice s w x a c b) ≤ height c + 2
unfolding twice
height_twice s w x a (leaf k e) b h g = absurd (omega arith)
height_twice s w x a (node y c d) b h g =
    omega (arith, height_over s y (over s x a (near s c d)) (over s w (far s c d) b), height_over s x a (near s c d), height_over s w (far s c d) b, height_sides s c d)

pub height_turn : (s : Bool) (w : ℕ) (a b : Tree) → height b + 2 ≤ height a → height (turn s w a b) ≤ height a + 1
unfolding turn
height_turn s w (leaf k e) b h = absurd (omega arith)
height_turn s w (node x c d) b h = elim (case_le (height (far s c d)) (height (near s c d))) [
  | inl y ↦ rw y.1 (omega (arith, height_over s x (near s c d) (over s w (far s c d) b), height_over s w (far s c d) b, height_sides s c d))
  | inr y ↦ rw y.1 (omega (arith, height_twice s w x (near s c d) (far s c d) b y.0 (omega (arith, height_sides s c d)), height_sides s c d))
]

pub height_balance : (w : ℕ) (l r : Tree) → height (balance w l r) ≤ max (height l) (height r) + 1
unfolding balance
height_balance w l r = elim (case_le (height r + 2) (height l)) [
  | inl y ↦ rw y.1 (omega (arith, height_turn true w l r y.0))
  | inr y ↦ rw y.1 (elim (case_le (height l + 2) (height r)) [ inl z ↦ rw z.1 (omega (arith, height_turn false w r l z.0)) | inr z ↦ rw z.1 (omega arith) ])
]

-- balanced over a near and a far tree
pub weight_balance_on : (u : (k e : ℕ) → ℕ) (v : ℕ → ℕ) (s : Bool) (w : ℕ) (a b : Tree) → weight u v (balance w (near s a b) (far s a b)) ≡ v w + weight u v a + weight u v b
weight_balance_on u v s w a b = omega (arith, weight_balance u v w (near s a b) (far s a b), weight_sides u v s a b)

pub height_balance_on : (s : Bool) (w : ℕ) (a b : Tree) → height (balance w (near s a b) (far s a b)) ≤ max (height a) (height b) + 1
height_balance_on s w a b = omega (arith, height_balance w (near s a b) (far s a b), height_sides s a b)
