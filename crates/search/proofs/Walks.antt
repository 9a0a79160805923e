-- The walk down from the root, as its loop has it, and its steps.
-- On the way, a part of the tree stands at the seat noted last, and the marked node beside one noted before.
use mathlib.Core.Path.{◌≡◌, refl, sym, ap, ◌∙◌}
use mathlib.Core.Logic.{inl, inr}
use mathlib.Core.Bool.{true, false, not}
use mathlib.Core.List.{List}
use Prim.Native.Nat.{ℕ, ◌+◌, ◌*◌, ◌-◌, ◌%◌, ◌<◌, ◌≤◌}
use native.Mathlib.Omega.{arith}
use lib.Dec.{leb, ltb}
use lib.ListN.{length, get_or, set}
use lib.Seq.{get_or-set_same}
use Rattle.numbers.specs.Case.{pick, case_le, case_lt}
use Rattle.rule.specs.Key.{per_tick, key_before, key_after}
use Rattle.shape.specs.Tree.{Tree, leaf, node, height, lo, top}
use Rattle.shape.specs.Visits.{path, Deepest, unmarked, marked}
use Rattle.shape.specs.Walk.{OnWay, way_root, way_right, way_left}
use Rattle.shape.specs.SearchLaws.{search_visits}
use Rattle.node.specs.declared.Node.{Node}
use Rattle.node.specs.Layout.{node_at}
use Rattle.node.specs.Rep.{Stands}
use Rattle.node.specs.Paths.{longest_way}
use Rattle.node.proofs.Paths.{noted}
use Rattle.node.proofs.Seats.{near_of}
use Rattle.search.specs.declared.Foreseen.{Foreseen}
use Rattle.search.specs.Search.{Marks, Walked}
use Rattle.search.proofs.Look.{Inner, leaf_here, inner_here, top_here, lo_here}

-- on the way down t, noted in ws, d steps below its root, with the mark j and after v visits
pub record On (m : List ℕ) (r f : ℕ) (t : Tree) (ws : List ℕ) (d j v : ℕ) : Type 0 where
  pub here : Tree
  pub mark : Deepest
  pub reached : Stands m (get_or ws d 0) here
  pub marks : Marks m ws j mark
  pub way : OnWay r f t here mark v

pub on_root : (m : List ℕ) (root r f : ℕ) (ws : List ℕ) → 0 < length ws → (t : Tree) → Stands m root t → On m r f t (set ws 0 root) 0 0 0
on_root m root r f ws h t s = record { here = t; mark = unmarked; reached = rw (get_or-set_same ws 0 root 0 h) s; marks = refl; way = way_root r f t }

path_some : (r : ℕ) (t : Tree) → 1 ≤ length (path r t)
path_some r (leaf k g) = omega arith
path_some r (node q x y) = omega arith

-- a mark above stays where a seat is noted
marks_noted : (m ws : List ℕ) (d x j : ℕ) (k : Deepest) → j ≤ d → Marks m ws j k → Marks m (set ws (d + 1) x) j k
marks_noted m ws d x j unmarked l g = g
marks_noted m ws d x j (marked u) l g =
    let q = noted ws d x j l in
    record { deep = g.deep; right = rw q g.right; stands = rw q g.stands }

-- a left child is marked, or not, where its right sibling is noted
marks_passed : (m ws : List ℕ) (f d q x j i : ℕ) (k : Deepest) (l : Tree) → d + 1 < length ws → j ≤ d → q % 8 ≡ 0 → x ≡ q + 4 → Stands m q l → Marks m ws j k
    → i ≡ pick (leb f (top l)) (d + 1) j → Marks m (set ws (d + 1) x) i (pick (leb f (top l)) (marked l) k)
marks_passed m ws f d q x j i k l h u a ex s g ei = elim (case_le f (top l)) [
  | inl z ↦ let p : i ≡ d + 1 = rw z.1 at ei in
      let o : get_or (set ws (d + 1) x) (d + 1) 0 ≡ q + 4 = get_or-set_same ws (d + 1) x 0 h ∙ ex in
      let b : q + 4 - 4 ≡ q = omega arith in
      rw (z.1, p) (record { deep = omega arith; right = rw o (omega arith); stands = rw (o, b) s })
  | inr z ↦ let p : i ≡ j = rw z.1 at ei in rw (z.1, p) (marks_noted m ws d x j k u g)
]

module _ (m : List ℕ) (r f : ℕ) (t : Tree) (ws : List ℕ) (d j v : ℕ) (o : On m r f t ws d j v) where
  pub on_few : height t < longest_way → v ≤ 128
  on_few h = omega (arith, o.way.counts, path_some r o.here, search_visits r f t)

  module _ (u : ℕ) (e : u ≡ (node_at m (get_or ws d 0)).place) where
    -- a step: y and z are the nodes on the right and on the left
    module _ (h : u ≡ 0 → ⊥) (deep : d + 1 < length ws) (turn : j ≤ d)
        (p : ℕ) (ep : p ≡ near_of false u) (y : Node) (ey : y ≡ node_at m p) (q : ℕ) (eq : q ≡ near_of true u) (z : Node) (ez : z ≡ node_at m q) where
      inner : Inner m u o.here
      inner = inner_here e h o.here o.reached

      split : y.lo ≡ lo inner.right
      split = lo_here (ey ∙ ap (node_at m) ep) (inner.child false)

      passed_top : z.top ≡ top inner.left
      passed_top = top_here (ez ∙ ap (node_at m) eq) (inner.child true)

      before : OnWay r f t (node inner.label inner.left inner.right) o.mark v
      before = rw inner.is at o.way

      on_left : (x i a : ℕ) → (r + 1) * per_tick ≤ y.lo → x ≡ near_of true u → i ≡ j → a ≡ 1 → On m r f t (set ws (d + 1) x) (d + 1) i (v + a)
      on_left x i a g ex ei ea =
          record {
            here = inner.left;
            mark = o.mark;
            reached = rw (get_or-set_same ws (d + 1) x 0 deep, ex) (inner.child true);
            marks = rw ei (marks_noted m ws d x j o.mark turn o.marks);
            way = rw ea (way_left r f t inner.label inner.left inner.right o.mark v before (key_after _ r (omega (arith, split))));
          }

      on_right : (x i a : ℕ) → y.lo < (r + 1) * per_tick → x ≡ near_of false u → i ≡ pick (leb f z.top) (d + 1) j → a ≡ 2 → On m r f t (set ws (d + 1) x) (d + 1) i (v + a)
      on_right x i a g ex ei ea =
          record {
            here = inner.right;
            mark = pick (leb f (top inner.left)) (marked inner.left) o.mark;
            reached = rw (get_or-set_same ws (d + 1) x 0 deep, ex) (inner.child false);
            marks = marks_passed m ws f d u x j i o.mark inner.left deep turn (omega (arith, inner.at)) ex (inner.child true) o.marks (rw passed_top at ei);
            way = rw ea (way_right r f t inner.label inner.left inner.right o.mark v before (key_before _ r (omega (arith, split))));
          }

      -- to the seat x, with the mark i and a visits more: right exactly if the earliest start there is at or before r
      pub on_next : (x : ℕ) → x ≡ near_of (not (ltb y.lo ((r + 1) * per_tick))) u
          → (i : ℕ) → i ≡ pick (ltb y.lo ((r + 1) * per_tick)) (pick (leb f z.top) (d + 1) j) j
          → (a : ℕ) → a ≡ pick (ltb y.lo ((r + 1) * per_tick)) 2 1
          → On m r f t (set ws (d + 1) x) (d + 1) i (v + a)
      on_next x ex i ei a ea = elim (case_lt y.lo ((r + 1) * per_tick)) [
        | inl g ↦ on_right x i a g.0 (rw g.1 at ex) (rw g.1 at ei) (rw g.1 at ea)
        | inr g ↦ on_left x i a g.0 (rw g.1 at ex) (rw g.1 at ei) (rw g.1 at ea)
      ]

    -- at the leaf
    pub on_leaf : u ≡ 0 → (b : ℕ) (a : Foreseen) → Walked m r f t ws (record { depth = d; mark = j; below = b; visits = v + 1; ahead = a })
    on_leaf h b a =
        let l = leaf_here e h o.here o.reached in
        let w : OnWay r f t (leaf (node_at m (get_or ws d 0)).lo (node_at m (get_or ws d 0)).top) o.mark v = rw l at o.way in
        record {
          stands = rw (← w.leads) (rw l at o.reached);
          ends = sym w.leads;
          marks = rw (← w.marks) o.marks;
          counts = omega (arith, w.counts);
        }
