-- Walk and descent joined: what the search answers is what 01 publishes.
use mathlib.Core.Path.{◌≡◌, refl, ap, ◌∙◌}
use mathlib.Core.Bool.{Bool, true, false}
use Rattle.std.specs.Prelude.{Some}
use mathlib.Core.List.{List}
use Prim.Native.Nat.{ℕ, ◌+◌, ◌-◌, ◌≤◌, ◌<◌}
use native.Mathlib.Omega.{arith}
use lib.ListN.{length, get_or}
use Rattle.numbers.specs.Case.{pick}
use Rattle.rule.specs.Fit.{fits}
use Rattle.rule.specs.Key.{start_of}
use Rattle.shape.specs.Tree.{Tree, height}
use Rattle.shape.specs.Visits.{none, some, path, passed, reached, fitting, Deepest, unmarked, marked, deepest, descended, bottom, published}
use Rattle.shape.specs.SearchLaws.{search_visits}
use Rattle.node.specs.declared.Node.{Node}
use Rattle.node.specs.Layout.{node_at}
use Rattle.node.specs.Rep.{Stands}
use Rattle.node.specs.Paths.{longest_way, Reaches}
use Rattle.search.specs.declared.Descent.{Descent}
use Rattle.search.specs.declared.Way.{Way}
use Rattle.search.specs.declared.Foreseen.{Foreseen}
use Rattle.search.specs.declared.Found.{Found}
use Rattle.search.specs.Search.{Descended, Beside, Marks, Walked, found_of, Notes}
use Rattle.search.specs.Trails.{Ahead}

-- ---- the mark
pub record Marked (m ws : List ℕ) (j : ℕ) (d : Deepest) : Type 0 where
  pub tree : Tree
  pub is : d ≡ marked tree
  pub beside : Beside m ws j tree

pub mark_of : (m ws : List ℕ) (j : ℕ) (d : Deepest) → (j ≡ 0 → ⊥) → Marks m ws j d → Marked m ws j d
mark_of m ws j unmarked h g = absurd (h g)
mark_of m ws j (marked x) h g = record { tree = x; is = refl; beside = g }

module _ (m : List ℕ) (root r f : ℕ) (ws : List ℕ) (w : Way) (k : (t : Tree) → Stands m root t → Walked m r f t ws w) where
  pub walk_few : (t : Tree) → Stands m root t → height t < longest_way → w.visits ≤ 129
  walk_few t s h = omega (arith, (k t s).counts, search_visits r f t)

  -- ---- what the search answers: n is the node of the leaf reached, o its start, b whether it fits
  module _ (n : Node) (e : n ≡ node_at m (get_or ws w.depth 0)) (o : ℕ) (z : o ≡ start_of n.lo) (b : Bool) (a : b ≡ fits o n.top r f) (t : Tree) (s : Stands m root t) where
    fitting_is : fitting r f (reached r t) ≡ pick b (some n.lo n.top) none
    fitting_is = rw (a, z, e) (ap (fitting r f) (k t s).ends)

    plain : length (path r t) + length (passed r t) + 0 ≡ w.visits
    plain = omega (arith, (k t s).counts)

    pub answer_leaf : b ≡ true → (i : ℕ) (x : Found) → x ≡ record { leaf = Some (record { key = n.lo; end = n.top; noted = i }); visits = w.visits; ahead = w.ahead }
        → x ≡ found_of x (published r f t)
    answer_leaf h i x ex = let q = rw h at fitting_is in rw (ex, q, plain)

    pub answer_deep : b ≡ false → (w.mark ≡ 0 → ⊥)
        → (d : Descent) → ((x : Tree) → Stands m (get_or ws w.mark 0 - 4) x → Descended m f x d) → (y : Node) → y ≡ node_at m d.seat
        → (i : ℕ) (x : Found) → x ≡ record { leaf = Some (record { key = y.lo; end = y.top; noted = i }); visits = w.visits + d.visits; ahead = w.ahead }
        → x ≡ found_of x (published r f t)
    answer_deep h g d j y ey i x ex =
        let q = rw h at fitting_is in
        let M = mark_of m ws w.mark (deepest f (passed r t)) g (k t s).marks in
        let D = j M.tree M.beside.stands in
        let u : bottom f M.tree ≡ some y.lo y.top = D.ends ∙ (rw ey) in
        let v : length (path r t) + length (passed r t) + length (descended f M.tree) ≡ w.visits + d.visits = omega (arith, (k t s).counts, D.counts) in
        rw (ex, q, M.is, u, v)

-- the notes of an answer are the walk's
pub notes_found : (m : List ℕ) (root : ℕ) (ws : List ℕ) (l e v i : ℕ) (a : Foreseen) → Reaches m root i ws l e
    → (x : Found) → x ≡ record { leaf = Some (record { key = l; end = e; noted = i }); visits = v; ahead = a } → Notes m root ws x
notes_found m root ws l e v i a g x ex = rw ex g

pub still_ahead : (m : List ℕ) (root b : ℕ) (ws : List ℕ) (x y : Found) → x ≡ y → Ahead m root b y.ahead.deep y.ahead.after ws → Ahead m root b x.ahead.deep x.ahead.after ws
still_ahead m root b ws x y e g = rw e g
