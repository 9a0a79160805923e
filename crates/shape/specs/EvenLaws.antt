-- Insert, remove and set end keep a balanced tree balanced. No order is asked: the code that stops on its way up
-- where nothing has changed needs no more than these.
use Rattle.std.specs.Prelude.{◌≡◌, Bool, true, false, ℕ, ◌+◌, ◌≤◌, max}
use Rattle.std.proofs.Common.{inl, inr, arith}
use Rattle.numbers.specs.Case.{case_le}
use Rattle.shape.specs.Tree.{Tree, leaf, node, height, lo, Balanced}
use Rattle.shape.specs.Side.{near, far}
use Rattle.shape.specs.Arrange.{balance, insert, less, remove, set_end}
use Rattle.shape.specs.SideLaws.{height_sides}
use Rattle.shape.specs.ChangeLaws.{height_insert, height_remove, height_set}
use Rattle.shape.specs.BalanceLaws.{balance_over}

-- the children on the side named and on the other are balanced and differ in height by at most 1
pub record Kids (x y : Tree) : Type 0 where
  pub first : Balanced x
  pub second : Balanced y
  pub over : height x ≤ height y + 1
  pub under : height y ≤ height x + 1

pub kids : (s : Bool) (p : ℕ) (l r : Tree) → Balanced (node p l r) → Kids (near s l r) (far s l r)
kids true p l r b = record { first = b.0; second = b.1; over = b.2; under = b.3 }
kids false p l r b = record { first = b.1; second = b.0; over = b.3; under = b.2 }

-- u is balanced, and at least as high as t
record More (t u : Tree) : Type 0 where
  even : Balanced u
  tall : height t ≤ height u

more : (s : Bool) (p : ℕ) (l r u : Tree) → Balanced (node p l r) → height u ≤ height (near s l r) + 1 → More (near s l r) u
    → More (node p l r) (balance p (near s u (far s l r)) (far s u (far s l r)))
more s p l r u b h M =
    let K = kids s p l r b in
    let E = balance_over s p u (far s l r) M.even K.second (omega (arith, K.over)) (omega (arith, M.tall, K.under)) in
    record { even = E.even; tall = omega (arith, E.tall, M.tall, K.over, K.under, height_sides s l r) }

inserted : (k e q : ℕ) (t : Tree) → Balanced t → More t (insert k e q t)
unfolding insert
inserted k e q (leaf j f) b = elim (case_le j k) [
  | inl y ↦ rw y.1 (record { even = (tt, tt, omega arith, omega arith); tall = omega arith })
  | inr y ↦ rw y.1 (record { even = (tt, tt, omega arith, omega arith); tall = omega arith })
]
inserted k e q (node x l r) b = elim (case_le (lo r) k) [
  | inl y ↦ rw y.1 (more false x l r (insert k e q r) b (height_insert k e q r) (inserted k e q r b.1))
  | inr y ↦ rw y.1 (more true x l r (insert k e q l) b (height_insert k e q l) (inserted k e q l b.0))
]

pub even_insert : (k e q : ℕ) (t : Tree) → Balanced t → Balanced (insert k e q t)
even_insert k e q t b = (inserted k e q t b).even

-- u is balanced, and by at most one lower than a tree of height h
record FewerThan (h : ℕ) (u : Tree) : Type 0 where
  even : Balanced u
  tall : h ≤ height u + 1

abbrev Fewer : (t u : Tree) → Type 0
Fewer t u = FewerThan (height t) u

lessened : (s : Bool) (x h : ℕ) (t u z : Tree) → Balanced t → Balanced z → height t ≤ height z + 1 → height z ≤ height t + 1
    → h ≡ max (height t) (height z) + 1 → height u ≤ height t → Fewer t u → FewerThan h (less s x t u z)
unfolding less
lessened s x h (leaf j f) u z T Z o i e g F = record { even = Z; tall = omega arith }
lessened s x h (node q a b) u z T Z o i e g F =
    let E = balance_over s x u z F.even Z (omega arith) (omega (arith, F.tall)) in
    record { even = E.even; tall = omega (arith, E.tall, F.tall) }

removed : (k : ℕ) (t : Tree) → Balanced t → Fewer t (remove k t)
unfolding remove
removed k (leaf j f) b = record { even = b; tall = omega arith }
removed k (node x l r) b = elim (case_le (lo r) k) [
  | inl y ↦ rw y.1 (lessened false x (height (node x l r)) r (remove k r) l b.1 b.0 b.3 b.2 (omega arith) (height_remove k r) (removed k r b.1))
  | inr y ↦ rw y.1 (lessened true x (height (node x l r)) l (remove k l) r b.0 b.1 b.2 b.3 (omega arith) (height_remove k l) (removed k l b.0))
]

pub even_remove : (k : ℕ) (t : Tree) → Balanced t → Balanced (remove k t)
even_remove k t b = (removed k t b).even

pub even_set : (k f : ℕ) (t : Tree) → Balanced t → Balanced (set_end k f t)
unfolding set_end
even_set k f (leaf j e) b = tt
even_set k f (node x l r) b = elim (case_le (lo r) k) [
  | inl y ↦ rw y.1 (b.0, even_set k f r b.1, omega (arith, b.2, height_set k f r), omega (arith, b.3, height_set k f r))
  | inr y ↦ rw y.1 (even_set k f l b.0, b.1, omega (arith, b.2, height_set k f l), omega (arith, b.3, height_set k f l))
]
