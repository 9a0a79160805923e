-- The way of the search, noted as it is walked: its steps, and that what is found is below the seat noted last.
use mathlib.Core.Path.{◌≡◌, refl, ap, ◌∙◌}
use mathlib.Core.Logic.{inl, inr}
use mathlib.Core.Bool.{Bool, true, false, not}
use mathlib.Core.List.{List}
use Prim.Native.Nat.{ℕ, zero, suc, ◌+◌, ◌*◌, ◌-◌, ◌/◌, ◌%◌, ◌<◌, ◌≤◌}
use native.Mathlib.Omega.{arith}
use lib.ListN.{length, get_or, set, length-set}
use lib.Seq.{get_or-set_same}
use Rattle.numbers.specs.Case.{pick, case_lt}
use Rattle.shape.specs.Tree.{Tree, leaf}
use Rattle.shape.specs.Visits.{passed, deepest}
use Rattle.node.specs.declared.Node.{Node}
use Rattle.node.specs.Layout.{Within, node_at}
use Rattle.node.specs.Rep.{Stands}
use Rattle.node.specs.Paths.{longest_way, Child, Down, Reaches}
use Rattle.node.proofs.Reps.{within, tall}
use Rattle.node.proofs.Seats.{near_of}
use Rattle.node.proofs.Paths.{noted, down_start, down_next}
use Rattle.search.specs.declared.Descent.{Descent}
use Rattle.search.specs.declared.Foreseen.{Foreseen}
use Rattle.search.specs.declared.Way.{Way}
use Rattle.search.specs.Search.{Descendable, Searchable, Descended, Prolonged, Walked, Under, Trodden}
use Rattle.search.proofs.Look.{inner_here, high_here, child_lower, child_is}
use Rattle.search.proofs.Finds.{Marked, mark_of}

-- noted down to the seat d steps below the root; the mark, whose children's place is b, is beside the node j steps down
pub record Treading (m : List ℕ) (root : ℕ) (ws0 ws : List ℕ) (d j b : ℕ) : Type 0 where
  pub len : length ws ≡ length ws0
  pub long : longest_way ≤ length ws
  pub short : (node_at m (get_or ws d 0)).height + d < longest_way
  pub down : Down m root d ws
  pub turn : j ≤ d
  pub under : (j ≡ 0 → ⊥) → Under m ws j b

pub treading_start : (m : List ℕ) (root : ℕ) (ws : List ℕ) → Searchable m root ws → Treading m root (set ws 0 root) (set ws 0 root) 0 0 0
treading_start m root ws s =
    record {
      len = refl;
      long = omega (arith, s.3, length-set ws 0 root);
      short = rw (get_or-set_same ws 0 root 0 (omega (arith, s.3))) (omega (arith, s.2, tall s.1));
      down = down_start m root ws (omega (arith, s.3));
      turn = omega arith;
      under = λ h. absurd (h refl);
    }

-- the place of the seat noted last
pub noted_place : (m ws : List ℕ) (d x z : ℕ) → d + 1 < length ws → z ≡ (node_at m x).place → z ≡ (node_at m (get_or (set ws (d + 1) x) (d + 1) 0)).place
noted_place m ws d x z h e = rw (get_or-set_same ws (d + 1) x 0 h) e

-- the mark after a step is above or at it
turns : (b c : Bool) (d j i : ℕ) → j ≤ d → i ≡ pick b (pick c (d + 1) j) j → i ≤ d + 1
turns true true d j i h e = omega arith
turns true false d j i h e = omega arith
turns false c d j i h e = omega arith

module _ (m : List ℕ) (root : ℕ) (ws0 ws : List ℕ) (d j b : ℕ) (T : Treading m root ws0 ws d j b) where
  -- a step: u is the place of the seat noted last, and z the node on the left
  module _ (u : ℕ) (e : u ≡ (node_at m (get_or ws d 0)).place) (h : u ≡ 0 → ⊥) (t : Tree) (s : Stands m (get_or ws d 0) t) where
    pub deeper : (d + 1 < length ws) × (d + 1 < longest_way)
    deeper = omega (arith, T.short, T.long, (inner_here e h t s).lower true, tall s)

    module _ (q : ℕ) (eq : q ≡ near_of true u) (z : Node) (ez : z ≡ node_at m q) (x : ℕ) where
      -- the mark stays
      under_kept : (i a : ℕ) → i ≡ j → a ≡ b → (i ≡ 0 → ⊥) → Under m (set ws (d + 1) x) i a
      under_kept i a ei ea n =
          let U = T.under (λ o. n (ei ∙ o)) in
          rw (ei, ea) (record { is = rw (noted ws d x j T.turn) U.is; room = rw (noted ws d x j T.turn) U.room })

      -- or is the left child
      under_here : x ≡ near_of false u → (i a : ℕ) → i ≡ d + 1 → a ≡ z.place → Under m (set ws (d + 1) x) i a
      under_here ex i a ei ea =
          let o : get_or (set ws (d + 1) x) (d + 1) 0 - 4 ≡ q = omega (arith, get_or-set_same ws (d + 1) x 0 deeper.0, ex, eq) in
          rw ei (record { is = rw o (ea ∙ ap (λ (n : Node). n.place) ez); room = rw o (omega (arith, child_lower true e h q eq t s, T.short)) })

      under_next : (right late : Bool) → x ≡ near_of (not right) u → (i : ℕ) → i ≡ pick right (pick late (d + 1) j) j → (a : ℕ) → a ≡ pick right (pick late z.place b) b
          → (i ≡ 0 → ⊥) → Under m (set ws (d + 1) x) i a
      under_next true true ex i ei a ea n = under_here ex i a ei ea
      under_next true false ex i ei a ea n = under_kept i a ei ea n
      under_next false late ex i ei a ea n = under_kept i a ei ea n

      pub treading_next : (right late : Bool) → x ≡ near_of (not right) u → (i : ℕ) → i ≡ pick right (pick late (d + 1) j) j → (a : ℕ) → a ≡ pick right (pick late z.place b) b
          → Treading m root ws0 (set ws (d + 1) x) (d + 1) i a
      treading_next right late ex i ei a ea =
          record {
            len = length-set ws (d + 1) x ∙ T.len;
            long = omega (arith, T.long, length-set ws (d + 1) x);
            short = rw (get_or-set_same ws (d + 1) x 0 deeper.0) (omega (arith, T.short, child_lower (not right) e h x ex t s));
            down = down_next m root d ws T.down x child deeper.0;
            turn = turns right late d j i T.turn ei;
            under = under_next right late ex i ei a ea;
          }
        where
          child : Child m (get_or ws d 0) x
          child =
              let I = inner_here e h t s in
              let c = child_is (not right) x u I.label ex I.at in
              record { inner = high_here e h t s; is = c.0 ∙ e; seat = c.1 }

  pub trodden : (v : ℕ) (a : Foreseen) → Trodden m root ws (record { depth = d; mark = j; below = b; visits = v; ahead = a })
  trodden v a = record { long = T.long; short = omega (arith, T.short); down = T.down; turn = T.turn; under = T.under }

-- ---- what is found
-- a way with the sibling of its node j steps down noted there
beside_down : (m : List ℕ) (root d : ℕ) (ws : List ℕ) (x j : ℕ) → Down m root d ws → 1 ≤ j → j ≤ d → x / 8 ≡ get_or ws j 0 / 8 → x % 4 ≡ 0 → Down m root j (set ws j x)
beside_down m root d ws x zero D h l e v = absurd (omega arith)
beside_down m root d ws x (suc i) D h l e v =
    let q : suc i ≡ i + 1 = omega arith in
    let s = D.steps i (omega arith) in
    let P : Down m root i ws = record { long = omega (arith, D.long); first = D.first; steps = λ a b. D.steps a (omega arith) } in
    rw q (down_next m root i ws P x (record { inner = s.inner; is = ap (λ (y : ℕ). y * 8) e ∙ s.is; seat = v }) (omega (arith, D.long)))

-- a way prolonged
prolonged_down : (m : List ℕ) (root i : ℕ) (ws ws' : List ℕ) (n x : ℕ) → Down m root i ws → Prolonged m i ws ws' n x → Down m root n ws'
prolonged_down m root i ws ws' n x D P = record { long = P.long; first = P.stays 0 (omega arith) ∙ D.first; steps = λ j l. go j l }
  where
    go : (j : ℕ) → j < n → Child m (get_or ws' j 0) (get_or ws' (suc j) 0)
    go j l = elim (case_lt j i) [
      | inl z ↦ rw (P.stays j (omega (arith, z.0)), P.stays (suc j) (omega (arith, z.0))) (D.steps j z.0)
      | inr z ↦ P.steps j z.0 l
    ]

module _ (m : List ℕ) (root r f : ℕ) (ws : List ℕ) (w : Way) (k : (t : Tree) → Stands m root t → Walked m r f t ws w) (T : Trodden m root ws w) (t : Tree) (s : Stands m root t) where
  pub leaf_within : Within m (get_or ws w.depth 0)
  leaf_within = within (k t s).stands

  -- at the leaf where the walk ends
  pub reaches_leaf : (n : Node) → n ≡ node_at m (get_or ws w.depth 0) → Reaches m root w.depth ws n.lo n.top
  reaches_leaf n e =
      record {
        down = T.down;
        sub = leaf n.lo n.top;
        stands = rw e (rw (k t s).ends at (k t s).stands);
        inside = (refl, refl);
      }

  -- below the mark
  module _ (h : w.mark ≡ 0 → ⊥) where
    pub mark_low : (w.mark < length ws) × (w.mark < longest_way)
    mark_low = omega (arith, T.turn, T.short, T.long)

    M : Marked m ws w.mark (deepest f (passed r t))
    M = mark_of m ws w.mark (deepest f (passed r t)) h (k t s).marks

    -- the marked node's seat
    abbrev seat : ℕ
    seat = get_or ws w.mark 0 - 4

    pub mark_within : Within m seat
    mark_within = within M.beside.stands

    -- it is noted in the place of its sibling
    mark_here : get_or (set ws w.mark seat) w.mark 0 ≡ seat
    mark_here = get_or-set_same ws w.mark seat 0 mark_low.0

    pub mark_descendable : Descendable m w.below (set ws w.mark seat) w.mark
    mark_descendable =
        record {
          tree = M.tree;
          stands = rw mark_here M.beside.stands;
          place = rw mark_here (T.under h).is;
          low = omega (arith, (T.under h).room, tall M.beside.stands);
          long = omega (arith, T.long, length-set ws w.mark seat);
        }

    pub below_mark : (d : Descent) → ((x : Tree) → Stands m (get_or (set ws w.mark seat) w.mark 0) x → Descended m f x d) → (x : Tree) → Stands m seat x → Descended m f x d
    below_mark d k x g = k x (rw mark_here g)

    -- what the descent from it comes to, with the way noted on as ws', n steps down
    module _ (ws' : List ℕ) (n : ℕ) (d : Descent) (g : (x : Tree) → Stands m seat x → Descended m f x d) (P : Prolonged m w.mark (set ws w.mark seat) ws' n d.seat) where
      pub end_within : Within m d.seat
      end_within = within (g M.tree M.beside.stands).stands

      pub reaches_mark : (y : Node) → y ≡ node_at m d.seat → Reaches m root n ws' y.lo y.top
      reaches_mark y e =
          record {
            down = prolonged_down m root w.mark (set ws w.mark seat) ws' n d.seat (beside_down m root w.depth ws seat w.mark T.down M.beside.deep T.turn (omega (arith, M.beside.right)) mark_within.3) P;
            sub = leaf y.lo y.top;
            stands = rw (P.last, e) (g M.tree M.beside.stands).stands;
            inside = (refl, refl);
          }
