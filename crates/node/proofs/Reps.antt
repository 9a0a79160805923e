-- The laws of trees that stand in memory: what their node says, what keeps and what moves them, and that a seat has one tree.
use mathlib.Core.Path.{◌≡◌, refl, sym, ap, ◌∙◌}
use mathlib.Core.Logic.{◌≢◌}
use mathlib.Core.List.{List}
use Prim.Native.Nat.{ℕ, zero, suc, ◌+◌, ◌*◌, ◌-◌, ◌/◌, ◌%◌, ◌<◌, ◌≤◌, max}
use native.Mathlib.Omega.{arith}
use borrow.Author.Tests.{ne_eqb}
use lib.ListN.{length}
use Rattle.shape.specs.Tree.{Tree, leaf, node, height, same, uses}
use Rattle.node.specs.declared.Node.{Node}
use Rattle.node.specs.Layout.{half_word, Within, node_at, leaf_node, Kept, Saved, Over, Copied, Mendable}
use Rattle.node.specs.Rep.{node_of, Rep, Stands, tree_at}
use Rattle.shape.specs.PlaceLaws.{same_self, same_other}
use Rattle.node.proofs.Frames.{node_kept, within_kept}

abbrev pub height_of : Node → ℕ
height_of n = n.height

-- ---- what a tree's own node says
rep_at : (t : Tree) (m : List ℕ) (s : ℕ) → Rep m s t → node_at m s ≡ node_of t
unfolding Rep
rep_at (leaf k e) m s f = f.1
rep_at (node q a b) m s f = f.1

rep_within : (t : Tree) (m : List ℕ) (s : ℕ) → Rep m s t → Within m s
unfolding Rep
rep_within (leaf k e) m s f = f.0
rep_within (node q a b) m s f = f.0

pub seen : {m : List ℕ} {s : ℕ} {t : Tree} → Stands m s t → node_at m s ≡ node_of t
seen {m} {s} {t} f = rep_at t m s f.rep

pub within : {m : List ℕ} {s : ℕ} {t : Tree} → Stands m s t → Within m s
within {m} {s} {t} f = rep_within t m s f.rep

pub tall : {m : List ℕ} {s : ℕ} {t : Tree} → Stands m s t → (node_at m s).height ≡ height t
tall f = ap height_of (seen f)

-- ---- a node's children
pub left_stands : {m : List ℕ} {s q : ℕ} {a b : Tree} → Stands m s (node q a b) → Stands m (8 * q) a
unfolding Rep
left_stands f = record { rep = f.rep.2 }

pub right_stands : {m : List ℕ} {s q : ℕ} {a b : Tree} → Stands m s (node q a b) → Stands m (8 * q + 4) b
unfolding Rep
right_stands f = record { rep = f.rep.3 }

-- the place 0 is no node's: the root's seat is there
pub stands_apart : (t : Tree) (m : List ℕ) (s : ℕ) → Stands m s t → uses 0 t ≡ 0
stands_apart (leaf k e) m s f = refl
stands_apart (node q a b) m s f =
    let w = within (left_stands f) in
    omega (arith, stands_apart a m (8 * q) (left_stands f), stands_apart b m (8 * q + 4) (right_stands f), same_other 0 q (λ e. omega (arith, w.1)))

-- ---- what moves a tree: its node is at another seat, and its places are as they were
rep_moved : (t : Tree) (m m' : List ℕ) (s s' : ℕ) → length m' ≡ length m → Within m s' → node_at m' s' ≡ node_at m s
    → ((z : ℕ) → z % 4 ≡ 0 → 1 ≤ uses (z / 8) t → node_at m' z ≡ node_at m z) → Rep m s t → Rep m' s' t
unfolding Rep
rep_moved (leaf k e) m m' s s' q w n f r = (omega (arith, w), n ∙ r.1)
rep_moved (node p a b) m m' s s' q w n f r =
    let l : (8 * p) / 8 ≡ p = omega arith in
    let h : (8 * p + 4) / 8 ≡ p = omega arith in (
      omega (arith, w),
      n ∙ r.1,
      rep_moved a m m' (8 * p) (8 * p) q (rep_within a m (8 * p) r.2) (f (8 * p) (omega arith) (rw l (omega (arith, same_self p)))) (λ z v u. f z v (omega arith)) r.2,
      rep_moved b m m' (8 * p + 4) (8 * p + 4) q (rep_within b m (8 * p + 4) r.3) (f (8 * p + 4) (omega arith) (rw h (omega (arith, same_self p)))) (λ z v u. f z v (omega arith)) r.3,
    )

pub stands_moved : {m m' : List ℕ} {s s' : ℕ} {t : Tree} → length m' ≡ length m → Within m s' → node_at m' s' ≡ node_at m s
    → ((z : ℕ) → z % 4 ≡ 0 → 1 ≤ uses (z / 8) t → node_at m' z ≡ node_at m z) → Stands m s t → Stands m' s' t
stands_moved {m} {m'} {s} {s'} {t} q w n f r = record { rep = rep_moved t m m' s s' q w n f r.rep }

-- what keeps one
pub stands_nodes : {m m' : List ℕ} {s : ℕ} {t : Tree} → length m' ≡ length m → node_at m' s ≡ node_at m s
    → ((z : ℕ) → z % 4 ≡ 0 → 1 ≤ uses (z / 8) t → node_at m' z ≡ node_at m z) → Stands m s t → Stands m' s t
stands_nodes q n f r = stands_moved q (within r) n f r

-- by the seats that were written
pub stands_frame : {n : ℕ → ℕ} {m m' : List ℕ} {s : ℕ} {t : Tree} → Kept n m m' → n s ≡ 0 → ((z : ℕ) → 1 ≤ uses (z / 8) t → n z ≡ 0) → Stands m s t → Stands m' s t
stands_frame {n} {m} {m'} {s} {t} k o h r = stands_nodes k.len (node_kept n m m' k s (within r).3 o) (λ z v u. node_kept n m m' k z v (h z u)) r

-- a tree copied to another seat, which is none of its own
pub copied_stands : {m m' : List ℕ} {s s' : ℕ} {t : Tree} → Copied s s' m m' → Within m s' → uses (s' / 8) t ≡ 0 → Stands m s t → Stands m' s' t
copied_stands {m} {m'} {s} {s'} {t} c w o r = stands_moved c.kept.len w c.at (λ z v u. node_kept _ m m' c.kept z v (off z u)) r
  where
    off : (z : ℕ) → 1 ≤ uses (z / 8) t → same z s' ≡ 0
    off z u = same_other z s' (λ e. omega (arith, ap (λ (y : ℕ). uses (y / 8) t) e))

-- ---- what makes one
pub leaf_stands : {m m' : List ℕ} {s k e : ℕ} → Within m s → Saved s (leaf_node k e) m m' → Stands m' s (leaf k e)
unfolding Rep
leaf_stands {m} {m'} {s} {k} {e} w o = record { rep = (within_kept _ m m' o.kept s w, o.at) }

-- a tree beside whose seats one other was written
pub stands_beside : {m m' : List ℕ} {s x : ℕ} {t : Tree} → Kept (λ z. same z s) m m' → x ≢ s → uses (s / 8) t ≡ 0 → Stands m x t → Stands m' x t
stands_beside {m} {m'} {s} {x} {t} k d o r = stands_frame k (same_other x s d) off r
  where
    off : (z : ℕ) → 1 ≤ uses (z / 8) t → same z s ≡ 0
    off z u = same_other z s (λ e. omega (arith, ap (λ (y : ℕ). uses (y / 8) t) e))

pub node_stands : {m m' : List ℕ} {s q : ℕ} {a b : Tree} → Within m s → Over s (8 * q) m m' → Stands m (8 * q) a → Stands m (8 * q + 4) b
    → s / 8 ≢ q → uses (s / 8) a ≡ 0 → uses (s / 8) b ≡ 0 → Stands m' s (node q a b)
unfolding Rep
node_stands {m} {m'} {s} {q} {a} {b} w o f g d za zb =
    record {
      rep = (
        within_kept _ m m' o.kept s w,
        o.at ∙ (rw (seen f, seen g)),
        (stands_beside o.kept (λ e. d (omega arith)) za f).rep,
        (stands_beside o.kept (λ e. d (omega arith)) zb g).rep,
      );
    }

pub mendable : {m : List ℕ} {s w : ℕ} {a b : Tree} → Within m s → Stands m w a → Stands m (w + 4) b → height a < half_word - 1 → height b < half_word - 1 → Mendable m s w
mendable i f g ha hb =
    record { sums = record { at = i; left = within f; right = within g }; low_left = omega (arith, tall f); low_right = omega (arith, tall g) }

-- ---- a seat has one tree
decode : (t : Tree) (k : ℕ) (m : List ℕ) (s : ℕ) → Rep m s t → height t ≤ k → tree_at k m s ≡ t
unfolding tree_at Rep
decode (leaf x e) zero m s r h = rw r.1
decode (leaf x e) (suc k) m s r h = rw r.1
decode (node q a b) zero m s r h = absurd (omega arith)
decode (node q a b) (suc k) m s r h =
    let ra = decode a k m (8 * q) r.2 (omega arith) in
    let rb = decode b k m (8 * q + 4) r.3 (omega arith) in
    let e : (8 * q) / 8 ≡ q = omega arith in
    rw (r.1, ne_eqb (max (height a) (height b) + 1) 0 (λ e. omega arith), e, ra, rb)

pub one_tree : {m : List ℕ} {s : ℕ} {a b : Tree} → Stands m s a → Stands m s b → a ≡ b
one_tree {m} {s} {a} {b} f g =
    let k = max (height a) (height b) in
    sym (decode a k m s f.rep (omega arith)) ∙ decode b k m s g.rep (omega arith)
