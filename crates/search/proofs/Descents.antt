-- The steps of the descent, from a node whose tree stands in memory.
-- What the code has of the child that it goes to makes what its caller is told.
use mathlib.Core.Path.{◌≡◌, refl, ◌∙◌}
use mathlib.Core.Logic.{inl, inr}
use mathlib.Core.Bool.{Bool, true, false, not}
use mathlib.Core.List.{List}
use Prim.Native.Nat.{ℕ, suc, ◌+◌, ◌≤◌, ◌<◌}
use native.Mathlib.Decide.{ℕ_discrete}
use native.Mathlib.Omega.{arith}
use lib.Dec.{leb}
use lib.ListN.{length, get_or, set, length-set}
use lib.Seq.{get_or-set_same}
use Rattle.numbers.specs.Case.{pick, case_le}
use Rattle.shape.specs.Tree.{Tree, top}
use Rattle.shape.specs.Side.{near}
use Rattle.shape.specs.FindLaws.{descended_most}
use Rattle.node.specs.declared.Node.{Node}
use Rattle.node.specs.Layout.{Within, node_at}
use Rattle.node.specs.Rep.{Stands}
use Rattle.node.specs.Paths.{longest_way, Child}
use Rattle.node.proofs.Paths.{noted, noted_here}
use Rattle.node.proofs.Seats.{near_of}
use Rattle.search.specs.declared.Descent.{Descent}
use Rattle.search.specs.Search.{Descendable, Descended, Prolonged}
use Rattle.search.proofs.Look.{leaf_here, inner_here, small_here, high_here, top_here, child_within, child_lower, child_is, place_next}

module _ (m : List ℕ) (q f : ℕ) (ws : List ℕ) (i : ℕ) (D : Descendable m q ws i) where
  -- the seat noted last
  abbrev s : ℕ
  s = get_or ws i 0

  pub low_place : q < 65536
  low_place = small_here D.place D.tree D.stands

  -- its visits are few
  pub few : (d : Descent) → ((t : Tree) → Stands m s t → Descended m f t d) → d.visits ≤ 64
  few d k = omega (arith, (k D.tree D.stands).counts, descended_most f D.tree, D.low)

  pub ends_here : q ≡ 0 → ((t : Tree) → Stands m s t → Descended m f t (record { seat = s; visits = 0 }))
      × Prolonged m i ws ws i s
  ends_here h = (
    (λ t g. let l = leaf_here D.place h t g in rw l (record { stands = rw l at g; ends = refl; counts = refl })),
    record { deep = omega arith; long = omega (arith, D.low, D.long); short = omega (arith, D.low); stays = λ j l. refl; steps = λ j l u. absurd (omega arith); last = refl },
  )

  module _ (h : q ≡ 0 → ⊥) where
    pub child_in : (b : Bool) (x : ℕ) → x ≡ near_of b q → Within m x
    child_in b x ex = child_within b D.place h x ex D.tree D.stands

    pub room : (i + 1 < length ws) × (i + 1 < longest_way)
    room = omega (arith, D.low, D.long, (inner_here D.place h D.tree D.stands).lower true)

    -- a seat noted one step down
    at_here : (at : ℕ) → get_or (set ws (i + 1) at) (i + 1) 0 ≡ at
    at_here at = get_or-set_same ws (i + 1) at 0 room.0

    -- the child gone to, at the seat `at`
    module _ (b : Bool) (at : ℕ) (ea : at ≡ near_of (not b) q) where
      pub at_lower : (node_at m (get_or (set ws (i + 1) at) (i + 1) 0)).height < (node_at m s).height
      at_lower = rw (at_here at) (child_lower (not b) D.place h at ea D.tree D.stands)

      -- y and x are the nodes on the right and on the left
      pub at_descendable : (p : ℕ) → p ≡ near_of false q → (y : Node) → y ≡ node_at m p → (l : ℕ) → l ≡ near_of true q → (x : Node) → x ≡ node_at m l
          → (z : ℕ) → z ≡ pick b y.place x.place → Descendable m z (set ws (i + 1) at) (i + 1)
      at_descendable p ep y ey l el x ex z ez =
          let c = inner_here D.place h D.tree D.stands in
          record {
            tree = near (not b) c.left c.right;
            stands = rw (at_here at, ea) (c.child (not b));
            place = rw (at_here at) (place_next m q b p ep y ey l el x ex at ea z ez);
            low = omega (arith, c.lower (not b), D.low);
            long = omega (arith, D.long, length-set ws (i + 1) at);
          }

    -- y is the node on the right, and the descent goes on at the seat `at`
    module _ (p : ℕ) (ep : p ≡ near_of false q) (y : Node) (ey : y ≡ node_at m p) (at : ℕ) (ea : at ≡ near_of (not (leb f y.top)) q) where
      -- what is found below is what is found here
      module _ (ws' : List ℕ) (n : ℕ) (d : Descent) (k : (t : Tree) → Stands m (get_or (set ws (i + 1) at) (i + 1) 0) t → Descended m f t d) (v : ℕ) (ev : v ≡ pick (not (leb f y.top)) 2 1) where
        descended_on : (t : Tree) → Stands m s t → Descended m f t (record { seat = d.seat; visits = d.visits + v })
        descended_on t g =
            let c = inner_here D.place h t g in
            let right : Stands m p c.right = rw ep (c.child false) in
            let same : y.top ≡ top c.right = top_here ey right in
            elim (case_le f y.top) [
              | inl z ↦ let b : leb f (top c.right) ≡ true = rw same at z.1 in
                  let e : at ≡ near_of false q = rw z.1 at ea in
                  let K = k c.right (rw (at_here at, e) (c.child false)) in
                  let w : v ≡ 1 = rw z.1 at ev in
                  rw c.is (record { stands = K.stands; ends = rw b K.ends; counts = rw b (omega (arith, K.counts, w)) })
              | inr z ↦ let b : leb f (top c.right) ≡ false = rw same at z.1 in
                  let e : at ≡ near_of true q = rw z.1 at ea in
                  let K = k c.left (rw (at_here at, e) (c.child true)) in
                  let w : v ≡ 2 = rw z.1 at ev in
                  rw c.is (record { stands = K.stands; ends = rw b K.ends; counts = rw b (omega (arith, K.counts, w)) })
            ]

        prolonged_on : Prolonged m (i + 1) (set ws (i + 1) at) ws' n d.seat → Prolonged m i ws ws' n d.seat
        prolonged_on P =
            record {
              deep = omega (arith, P.deep);
              long = P.long;
              short = P.short;
              stays = λ j l. P.stays j (omega arith) ∙ noted ws i at j l;
              steps = λ j l u. go j l u;
              last = P.last;
            }
          where
            here : get_or ws' i 0 ≡ s
            here = P.stays i (omega arith) ∙ noted ws i at i (omega arith)

            there : get_or ws' (suc i) 0 ≡ at
            there = P.stays (suc i) (omega arith) ∙ noted_here ws i at room.0

            child : Child m s at
            child =
                let I = inner_here D.place h D.tree D.stands in
                let c = child_is (not (leb f y.top)) at q I.label ea I.at in
                record { inner = high_here D.place h D.tree D.stands; is = c.0 ∙ D.place; seat = c.1 }

            go : (j : ℕ) → i ≤ j → j < n → Child m (get_or ws' j 0) (get_or ws' (suc j) 0)
            go j l u = elim (ℕ_discrete j i) [ yes e ↦ rw (e, here, there) child | no z ↦ P.steps j (omega arith) u ]

        pub goes_on : Prolonged m (i + 1) (set ws (i + 1) at) ws' n d.seat
            → ((t : Tree) → Stands m s t → Descended m f t (record { seat = d.seat; visits = d.visits + v }))
            × Prolonged m i ws ws' n d.seat
        goes_on P = ((λ t g. descended_on t g), prolonged_on P)
