-- How each change begins, at the end of the way: a leaf with another end, a leaf beside a leaf, a leaf gone and its sibling in the place of
-- the node above them.
use mathlib.Core.Path.{◌≡◌, refl, sym, ap, ◌∙◌}
use mathlib.Core.Logic.{◌≢◌}
use mathlib.Core.Bool.{Bool, true, false}
use mathlib.Core.List.{List}
use Prim.Native.Nat.{ℕ, zero, suc, ◌+◌, ◌*◌, ◌-◌, ◌/◌, ◌%◌, ◌≤◌, ◌<◌}
use native.Mathlib.Omega.{arith}
use borrow.Author.Tests.{eq-eqb, ne_eqb}
use lib.Dec.{ltb, eqb}
use lib.ListN.{get_or}
use Rattle.shape.specs.Tree.{Tree, leaf, node, height, same}
use Rattle.shape.specs.Side.{near, far}
use Rattle.shape.specs.Arrange.{remove, above, set_end}
use Rattle.shape.specs.ChangeLaws.{insert_leaf, remove_side, above_side, less_leaf, above_leaf, above_node}
use Rattle.shape.specs.PlaceLaws.{same_self, same_other, same_none}
use Rattle.node.specs.declared.Node.{Node}
use Rattle.node.specs.Layout.{half_word, Within, Fits, node_at, leaf_node, over_node, Saved, Over, Copied}
use Rattle.node.specs.Rep.{Stands}
use Rattle.node.specs.Paths.{longest_way}
use Rattle.node.proofs.Frames.{kept_then, kept_less, node_kept, within_kept}
use Rattle.node.proofs.Nodes.{over_fits}
use Rattle.node.proofs.Reps.{tall, within, leaf_stands}
use Rattle.node.proofs.Seats.{near_seat, far_seat, near_half, far_half, near_far, reads, reads_height, over_stands, stands_past, copied_past}
use Rattle.turning.proofs.Sides.{seat_free, uses_sides}
use Rattle.tracing.specs.Alone.{Standing, Alone}
use Rattle.tracing.specs.Ways.{Leads, Way}
use Rattle.tracing.proofs.Below.{within_alone}
use Rattle.rising.specs.Changes.{adding, cutting, ending, Begun, Ready, Becomes}
use Rattle.rising.specs.Rises.{Rising, Settling}
use Rattle.rising.proofs.Steps.{begun_near, kid, leads, x_is, x_half, y_is}
use Rattle.rising.proofs.Settling.{ready_at}
use Rattle.tree.specs.OnWays.{Insertable, Grafting}

-- ---- whatever further places are counted, such a tree stands alone
pub alone_ready : (n : ℕ → ℕ) (m : List ℕ) (t : ℕ) → (tr : Tree) × Standing n m t tr → Alone m t
alone_ready n m t r = (r.0, record { stands = r.1.stands; once = λ z. omega (arith, r.1.once z); even = r.1.even; low = r.1.low })

pub short_alone : (m : List ℕ) (t : ℕ) → Alone m t → (node_at m t).height < longest_way
short_alone m t a = omega (arith, a.1.low, tall a.1.stands)

-- a node saved at a seat as the code has it, by its equation
pub saved_there : (m m' : List ℕ) {u v : ℕ} {n : Node} → u ≡ v → Saved u n m m' → Saved v n m m'
saved_there m m' e o = rw e at o

-- ---- another end for a leaf
set_leaf : (m m1 : List ℕ) (s k f : ℕ) (n : Node) → n ≡ node_at m s → n.height ≡ 0 → Saved s (leaf_node n.lo f) m m1 → Becomes (ending k f) s m m1
unfolding set_end
set_leaf m m1 s k f n e z o (leaf j v) B =
    let lo : n.lo ≡ j = ap (λ (y : Node). y.lo) (reads m s n e B.stands) in
    record { stands = rw (← lo) (leaf_stands (within B.stands) o); kept = kept_less o.kept (λ y h. omega arith) }
set_leaf m m1 s k f n e z o (node q l r) B = absurd (omega (arith, reads_height m s n e B.stands))

-- ---- a leaf beside a leaf
module _ (m : List ℕ) (s k e q : ℕ) (G : Grafting m s k e q) (n : Node) (en : n ≡ node_at m s) where
  abbrev d : Bool
  d = ltb k n.lo

  near_in : (b : Bool) → Within m (near_seat b q)
  near_in true = G.able.left
  near_in false = G.able.right

  far_in : (b : Bool) → Within m (far_seat b q)
  far_in true = G.able.right
  far_in false = G.able.left

  pub graft_in : Within m s × Within m (far_seat d q) × (8 * q < half_word)
  graft_in = (within G.able.ready.1.stands, far_in d, omega (arith, G.able.left.2))

  -- the place taken is not that of s
  apart : (tr : Tree) → Begun (adding k e q) m s tr → s / 8 ≢ q
  apart tr B = same_none (s / 8) q (omega (arith, B.once (s / 8), same_self (s / 8)))

  module _ (m1 : List ℕ) (o1 : Copied s (far_seat d q) m m1) where
    pub leaf_in : Within m1 (near_seat d q)
    leaf_in = within_kept _ m m1 o1.kept _ (near_in d)

    module _ (m2 : List ℕ) (o2 : Saved (near_seat d q) (leaf_node k e) m1 m2) where
      room : Within m2 s
      room = within_kept _ m1 m2 o2.kept s (within_kept _ m m1 o1.kept s graft_in.0)

      new_leaf : Stands m2 (near_seat d q) (leaf k e)
      new_leaf = leaf_stands leaf_in o2

      old_leaf : (j v : ℕ) → Begun (adding k e q) m s (leaf j v) → Stands m2 (far_seat d q) (leaf j v)
      old_leaf j v B = stands_past (near_half d q) o2.kept (λ i. near_far d q (sym i)) refl (copied_past (far_half d q) o1 (far_in d) refl B.stands)

      old_at : node_at m2 (far_seat d q) ≡ n
      old_at = node_kept _ m1 m2 o2.kept (far_seat d q) (far_in d).3 (same_other _ _ (λ i. near_far d q (sym i))) ∙ (o1.at ∙ sym en)

      both_at : (b : Bool) (x : Node) → x ≡ leaf_node k e → node_at m2 (near_seat b q) ≡ leaf_node k e → node_at m2 (far_seat b q) ≡ n → over_node (near b x n) (far b x n) (8 * q) ≡ over_node (node_at m2 (8 * q)) (node_at m2 (8 * q + 4)) (8 * q)
      both_at true x ex a c = rw (ex, a, c)
      both_at false x ex a c = rw (ex, a, c)

      -- the node over the two as the code has them
      module _ (x : Node) (ex : x ≡ leaf_node k e) where
        pub low_leaves : (x.height < half_word - 1) × (n.height < half_word - 1)
        low_leaves = let z : n.height ≡ 0 = ap (λ (y : Node). y.height) en ∙ G.leaf in (rw ex (omega arith), omega arith)

        both_low : (b : Bool) → ((near b x n).height < half_word - 1) × ((far b x n).height < half_word - 1)
        both_low true = low_leaves
        both_low false = (low_leaves.1, low_leaves.0)

        pub over_in : (o : Node) → o ≡ over_node (near d x n) (far d x n) (8 * q) → Within m2 s × Fits o
        over_in o eo = (room, over_fits (near d x n) (far d x n) o (8 * q) eo (both_low d).0 (both_low d).1 graft_in.2)

        pub over_both : (o : Node) → o ≡ over_node (near d x n) (far d x n) (8 * q) → (m3 : List ℕ) → Saved s o m2 m3 → Over s (8 * q) m2 m3
        over_both o eo m3 u = rw (eo ∙ both_at d x ex o2.at old_at) at u

      pub grafted : (m3 : List ℕ) → Over s (8 * q) m2 m3 → Becomes (adding k e q) s m m3
      grafted m3 o3 (leaf j v) B =
          let i : d ≡ ltb k j = ap (λ (y : Node). ltb k y.lo) (reads m s n en B.stands) in
          record {
            stands = rw (insert_leaf k e q j v d i) (over_stands d refl room o3 new_leaf (old_leaf j v B) (apart _ B) refl refl);
            kept = kept_then {n = λ z. same (z / 8) q}
                (kept_then o1.kept o2.kept (λ z h. (seat_free z _ q (far_half d q) h, seat_free z _ q (near_half d q) h)))
                o3.kept (λ z h. (omega (arith, h), omega (arith, h)));
          }
      grafted m3 o3 (node x l r) B = absurd (omega (arith, G.leaf, tall B.stands))

-- ---- a leaf gone: its sibling is where the node above them was
-- the sibling's seat, by the leaf's
pub sibling : (x p : ℕ) (s : Bool) → x ≡ near_seat s p → far_seat (eqb (x % 8) 0) (x / 8) ≡ far_seat s p
sibling x p true e =
    let a : x % 8 ≡ 0 = omega arith in
    let b : x / 8 ≡ p = omega arith in
    rw (eq-eqb (x % 8) 0 a, b)
sibling x p false e =
    let a : x % 8 ≡ 4 = omega arith in
    let b : x / 8 ≡ p = omega arith in
    rw (ne_eqb (x % 8) 0 (λ z. omega arith), b)

-- the side that the key leads to from w
abbrev side_of : (m : List ℕ) (k w : ℕ) → Bool
side_of m k w = ltb k (node_at m ((node_at m w).place + 4)).lo

module _ (m : List ℕ) (k w x : ℕ) (L : Leads m k w x) (low : (node_at m x).height ≡ 0) where
  abbrev beside : ℕ
  beside = far_seat (eqb (x % 8) 0) (x / 8)

  at_leaf : (v : ℕ) (l r : Tree) (B : Begun (cutting k) m w (node v l r)) → height (near (side_of m k w) l r) ≡ 0
  at_leaf v l r B = sym (tall (kid (cutting k) m w x L v l r B).near_at) ∙ low

  pub cut_above : (tr : Tree) → Begun (cutting k) m w tr → x / 8 ≡ above k tr
  cut_above (leaf j v) B = absurd (L.inner (tall B.stands))
  cut_above (node v l r) B =
      let i = leads (cutting k) m w x L v l r B in
      rw (above_side k v l r _ i, above_leaf v (above k (near _ l r)) (near _ l r) (at_leaf v l r B)) (x_half (cutting k) m w x L v l r B)

  pub beside_in : (tr : Tree) → Begun (cutting k) m w tr → Within m beside
  beside_in (leaf j v) B = absurd (L.inner (tall B.stands))
  beside_in (node v l r) B = rw (sibling x v (side_of m k w) (x_is (cutting k) m w x L v l r B)) (rw (y_is (cutting k) m w x L v l r B) at (within (kid (cutting k) m w x L v l r B).far_at))

  pub cut_leaf : (m1 : List ℕ) → Copied beside w m m1 → Becomes (cutting k) w m m1
  cut_leaf m1 o (leaf j v) B = absurd (L.inner (tall B.stands))
  cut_leaf m1 o (node v l r) B =
      let c = kid (cutting k) m w x L v l r B in
      let i = leads (cutting k) m w x L v l r B in
      let u = rw (sibling x v (side_of m k w) (x_is (cutting k) m w x L v l r B)) at o in
      record {
        stands = rw (remove_side k v l r _ i, less_leaf _ v (near _ l r) (remove k (near _ l r)) (far _ l r) (at_leaf v l r B))
            (copied_past refl u (within B.stands) (omega (arith, B.once (w / 8), same_self (w / 8), uses_sides (w / 8) (side_of m k w) l r)) (rw (y_is (cutting k) m w x L v l r B) at c.far_at));
        kept = kept_less o.kept (λ y h. omega arith);
      }

-- ---- on a way
module _ (m : List ℕ) (t k d : ℕ) (ws : List ℕ) (W : Way m t k d ws) where
  abbrev at : ℕ → ℕ
  at i = get_or ws i 0

  low_end : (n : Node) → n ≡ node_at m (at d) → n.height ≡ 0
  low_end n e = ap (λ (z : Node). z.height) e ∙ W.last

  pub end_in : Alone m t → Within m (at d)
  end_in a = within_alone m (at d) (ready_at (ending k 0) m t d ws a W d (omega arith))

  pub ending_start : Alone m t → (f : ℕ) (n : Node) → n ≡ node_at m (at d) → (m1 : List ℕ) → Saved (at d) (leaf_node n.lo f) m m1 → Settling (ending k f) m t d ws d m1
  ending_start a f n e m1 o =
      record {
        rising = record { begun = a; way = W; deep = omega arith; is = set_leaf m m1 (at d) k f n e (low_end n e) o };
        high = ap (λ (z : Node). z.height) o.at ∙ sym W.last;
      }

  -- ---- a leaf more
  module _ (e q : ℕ) (I : Insertable m t k e q) where
    pub grafting : Grafting m (at d) k e q
    grafting = record { able = record { ready = ready_at (adding k e q) m t d ws I.ready W d (omega arith); left = I.left; right = I.right }; leaf = W.last }

    pub adding_start : (m1 : List ℕ) → Becomes (adding k e q) (at d) m m1 → Rising (adding k e q) m t d ws d m1
    adding_start m1 b = record { begun = I.ready; way = W; deep = omega arith; is = b }

  -- ---- a leaf less
  module _ (a : Alone m t) (h : 1 ≤ (node_at m t).height) where
    pub deep_one : 1 ≤ d
    deep_one = go d refl
      where
        go : (i : ℕ) → i ≡ d → 1 ≤ d
        go zero e = absurd (omega (arith, ap (λ (z : ℕ). (node_at m z).height) W.first, rw (← e) at W.last))
        go (suc i) e = omega arith

    ready : (i : ℕ) → i ≤ d → Ready (cutting k) m (at i)
    ready i l = ready_at (cutting k) m t d ws a W i l

    leads_end : Leads m k (at (d - 1)) (at d)
    leads_end = let e : suc (d - 1) ≡ d = omega (arith, deep_one) in rw e at (W.leads (d - 1) (omega (arith, deep_one)))

    pub above_in : Within m (at (d - 1))
    above_in = within (ready (d - 1) (omega arith)).1.stands

    pub sibling_in : Within m (far_seat (eqb (at d % 8) 0) (at d / 8))
    sibling_in = let r = ready (d - 1) (omega arith) in beside_in m k (at (d - 1)) (at d) leads_end W.last r.0 r.1

    pub cutting_start : (m1 : List ℕ) → Copied (far_seat (eqb (at d % 8) 0) (at d / 8)) (at (d - 1)) m m1 → Rising (cutting k) m t d ws (d - 1) m1
    cutting_start m1 o =
        record {
          begun = a;
          way = W;
          deep = omega (arith, deep_one);
          is = cut_leaf m k (at (d - 1)) (at d) leads_end W.last m1 o;
        }

    -- the place that comes free is the leaf's
    from : (n i : ℕ) → n + suc i ≡ d → (tr : Tree) → Begun (cutting k) m (at i) tr → at d / 8 ≡ above k tr
    from zero i e tr B =
        let j : i ≡ d - 1 = omega arith in
        cut_above m k (at (d - 1)) (at d) leads_end W.last tr (rw j at B)
    from (suc n) i e (leaf j v) B = absurd ((W.leads i (omega arith)).inner (tall B.stands))
    from (suc n) i e (node v l r) B =
        let L = W.leads i (omega arith) in
        let g = leads (cutting k) m (at i) (at (suc i)) L v l r B in
        let N = begun_near (cutting k) m (at i) (at (suc i)) L v l r B in
        let u = (W.leads (suc i) (omega arith)).inner in
        rw (above_side k v l r (side_of m k (at i)) g, above_node v (above k (near (side_of m k (at i)) l r)) (near (side_of m k (at i)) l r) (omega (arith, u, tall N.stands))) (from n (suc i) (omega arith) (near (side_of m k (at i)) l r) N)

    pub freed : (tr : Tree) → Begun (cutting k) m t tr → at d / 8 ≡ above k tr
    freed tr B = from (d - 1) 0 (omega (arith, deep_one)) tr (rw W.first B)
