-- The search as a loop has it: the deepest mark so far and the visits so far go along on the way down.
-- A law for each step; at the leaf they are the mark and the visits of 01.
use Rattle.std.specs.Prelude.{◌≡◌, refl, Bool, true, false, ℕ, ◌+◌, ◌≤◌, ◌<◌, leb, length}
use Rattle.std.proofs.Common.{◌∙◌, inl, inr, arith, le-leb}
use Rattle.std.proofs.lemmas.Bool.{lt-leb}
use Rattle.numbers.specs.Case.{pick, case_le}
use Rattle.rule.specs.Key.{start_of}
use Rattle.shape.specs.Tree.{Tree, leaf, node, height, lo, top}
use Rattle.shape.specs.Visits.{path, passed, reached, Deepest, unmarked, marked, deeper, deepest}

-- the mark below, and where there is none the mark above
abbrev pub lower : Deepest → Deepest → Deepest
lower unmarked m = m
lower (marked x) m = marked x

-- on the way down t, at its part s, with the mark m of the nodes above and n visits up to here
pub record OnWay (r f : ℕ) (t s : Tree) (m : Deepest) (n : ℕ) : Type 0 where
  pub leads : reached r s ≡ reached r t
  pub marks : lower (deepest f (passed r s)) m ≡ deepest f (passed r t)
  pub counts : n + length (path r s) + length (passed r s) ≡ length (path r t) + length (passed r t)

lower_none : (d : Deepest) → lower d unmarked ≡ d
lower_none unmarked = refl
lower_none (marked x) = refl

lower_deeper : (d m : Deepest) (b : Bool) (x : Tree) → lower d (pick b (marked x) m) ≡ lower (deeper d b x) m
lower_deeper (marked y) m b x = refl
lower_deeper unmarked m true x = refl
lower_deeper unmarked m false x = refl

module _ (r f : ℕ) (t : Tree) where
  pub way_root : OnWay r f t t unmarked 0
  way_root = record { leads = refl; marks = lower_none (deepest f (passed r t)); counts = omega arith }

  module _ (p : ℕ) (x y : Tree) (m : Deepest) (n : ℕ) (w : OnWay r f t (node p x y) m n) where
    pub way_right : start_of (lo y) ≤ r → OnWay r f t y (pick (leb f (top x)) (marked x) m) (n + 2)
    way_right h =
        let q = le-leb (start_of (lo y)) r h in
        record {
          leads = rw q at w.leads;
          marks = lower_deeper (deepest f (passed r y)) m (leb f (top x)) x ∙ (rw q at w.marks);
          counts = let c = rw q at w.counts in omega arith;
        }

    pub way_left : r < start_of (lo y) → OnWay r f t x m (n + 1)
    way_left h =
        let q = lt-leb (start_of (lo y)) r h in
        record { leads = rw q at w.leads; marks = rw q at w.marks; counts = let c = rw q at w.counts in omega arith }

-- ---- a mark is lower than the tree
abbrev Under : ℕ → Deepest → Type 0
Under h unmarked = Unit {0}
Under h (marked x) = height x < h

under_deeper : (g h : ℕ) (d : Deepest) (b : Bool) (x : Tree) → g ≤ h → height x < h → Under g d → Under h (deeper d b x)
under_deeper g h unmarked true x i j u = j
under_deeper g h unmarked false x i j u = tt
under_deeper g h (marked y) b x i j u = omega arith

under_more : (g h : ℕ) (d : Deepest) → g ≤ h → Under g d → Under h d
under_more g h unmarked i u = tt
under_more g h (marked y) i u = omega arith

mark_under : (r f : ℕ) (t : Tree) → Under (height t) (deepest f (passed r t))
mark_under r f (leaf k e) = tt
mark_under r f (node p x y) = elim (case_le (start_of (lo y)) r) [
  | inl z ↦ rw z.1 (under_deeper (height y) _ (deepest f (passed r y)) (leb f (top x)) x (omega arith) (omega arith) (mark_under r f y))
  | inr z ↦ rw z.1 (under_more (height x) _ (deepest f (passed r x)) (omega arith) (mark_under r f x))
]

pub mark_lower : (r f : ℕ) (t x : Tree) → deepest f (passed r t) ≡ marked x → height x < height t
mark_lower r f t x q = rw q at (mark_under r f t)
