-- The steps that every function of the tree takes: a seat is written, the trees beside it stay; a node is written over two trees.
-- Once for both sides.
use mathlib.Core.Path.{◌≡◌, refl, sym, ap, ◌∙◌}
use mathlib.Core.Logic.{◌≢◌}
use mathlib.Core.Bool.{Bool, true, false}
use mathlib.Core.List.{List}
use Prim.Native.Nat.{ℕ, ◌+◌, ◌*◌, ◌-◌, ◌/◌, ◌<◌, ◌≤◌}
use native.Mathlib.Omega.{arith}
use Rattle.shape.specs.Tree.{Tree, node, height, same, uses}
use Rattle.shape.specs.Side.{over, near, far}
use Rattle.node.specs.declared.Node.{Node}
use Rattle.node.specs.Layout.{half_word, highest, Within, Fits, leaf_node, Saved, Over, Copied, Mendable}
use Rattle.node.specs.Rep.{Stands}
use Rattle.shape.specs.SideLaws.{weight_over, weight_sides}
use Rattle.shape.specs.PlaceLaws.{same_self, same_other, same_none}
use Rattle.node.proofs.Reps.{within, mendable}
use Rattle.node.proofs.Seats.{near_of, far_of, near_seat, far_seat, near_stands, far_stands, over_stands}
use Rattle.turning.specs.Turns.{Two, Both}

-- ---- counting over a side
pub uses_over : (z : ℕ) (s : Bool) (p : ℕ) (a b : Tree) → uses z (over s p a b) ≡ same z p + uses z a + uses z b
uses_over z s p a b = weight_over s p a b (λ k e. 0) (same z)

pub uses_sides : (z : ℕ) (s : Bool) (l r : Tree) → uses z (near s l r) + uses z (far s l r) ≡ uses z l + uses z r
uses_sides z = weight_sides (λ k e. 0) (same z)

-- ---- seats of different places
pub apart : {x y p q : ℕ} → x / 8 ≡ p → y / 8 ≡ q → p ≢ q → x ≢ y
apart h k d e = d (sym h ∙ (ap (λ z. z / 8) e ∙ k))

-- a seat of a place that z is not at
pub seat_free : (z u q : ℕ) → u / 8 ≡ q → same (z / 8) q ≡ 0 → same z u ≡ 0
seat_free z u q h f = same_other z u (λ e. same_none (z / 8) q f (ap (λ y. y / 8) e ∙ h))

-- ---- a leaf's node
pub leaf_fits : {n : Node} {k e : ℕ} → n ≡ leaf_node k e → Fits n
leaf_fits h = rw h (omega arith)

pub saved_as : {p : ℕ} {n n' : Node} {m m' : List ℕ} → n ≡ n' → Saved p n m m' → Saved p n' m m'
saved_as h o = rw (← h) o

-- ---- two trees at a place, the first on the side named
pub two_on : {m : List ℕ} {t w : ℕ} {a b : Tree} (s : Bool) → Stands m (near_seat s w) a → Stands m (far_seat s w) b → Within m t
    → ((z : ℕ) → same z (t / 8) + uses z (node w a b) ≤ 1) → height (node w a b) ≤ highest → Two m t w (near s a b) (far s a b)
two_on true f g r o l = record { first = f; second = g; room = r; once = o; low = l }
two_on false f g r o l = record { first = g; second = f; room = r; once = λ z. omega (arith, o z); low = omega (arith, l) }

-- ---- a node over two trees
pub mendable_on : {m : List ℕ} {t w : ℕ} {a b : Tree} (s : Bool) → Within m t → Stands m (near_of s w) a → Stands m (far_of s w) b
    → height a < half_word - 1 → height b < half_word - 1 → Mendable m t w
mendable_on true i f g ha hb = mendable i f g ha hb
mendable_on false i f g ha hb = mendable i g f hb ha

module _ {m : List ℕ} {t w : ℕ} {a b : Tree} (f : Two m t w a b) where
  pub two_mendable : Mendable m t (8 * w)
  two_mendable = mendable f.room f.first f.second (omega (arith, f.low)) (omega (arith, f.low))

  pub two_apart : t / 8 ≢ w
  two_apart e = same_none (t / 8) w (omega (arith, f.once (t / 8), same_self (t / 8))) e

  pub two_over : (m1 : List ℕ) → Over t (8 * w) m m1 → Stands m1 t (node w a b)
  two_over m1 o =
      let g = f.once (t / 8) in
      over_stands true refl f.room o f.first f.second two_apart (omega (arith, g, same_self (t / 8))) (omega (arith, g, same_self (t / 8)))

-- the two seats of the place are inside
pub both_within : (m : List ℕ) (s : Bool) (t w : ℕ) → Both m t w → Within m (near_of s w) × Within m (far_of s w)
both_within m s t w (v, e, a, b, f) = rw e (within (near_stands s v f.first f.second), within (far_stands s v f.first f.second))

pub both_small : (m : List ℕ) (t w : ℕ) → Both m t w → w < half_word
both_small m t w (v, e, a, b, f) = let i = within f.first in omega (arith, i.2, e)

-- ---- seats as the code has them, by their equations
pub copied_at : (m m' : List ℕ) {u u' v v' : ℕ} → u ≡ u' → v ≡ v' → Copied u v m m' → Copied u' v' m m'
copied_at m m' e e' o = rw (e, e') at o

pub over_at : (m m' : List ℕ) {u u' w w' : ℕ} → u ≡ u' → w ≡ w' → Over u w m m' → Over u' w' m m'
over_at m m' e d o = rw (e, d) at o

pub mendable_at : (m : List ℕ) {u u' w w' : ℕ} → u ≡ u' → w ≡ w' → Mendable m u' w' → Mendable m u w
mendable_at m e d i = rw (e, d) i

pub within_at : (m : List ℕ) {u u' : ℕ} → u ≡ u' → Within m u' → Within m u
within_at m e i = rw e i
