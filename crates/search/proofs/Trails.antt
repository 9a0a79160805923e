-- The steps of the way of the keys from b on: at each, every key from b on and below `after` leads to the seat that is noted.
use mathlib.Core.Path.{◌≡◌, sym, ap, subst, ◌∙◌}
use mathlib.Core.Logic.{inl, inr}
use mathlib.Core.Bool.{Bool, true, false, not}
use mathlib.Core.List.{List}
use Prim.Native.Nat.{ℕ, suc, ◌+◌, ◌≤◌, ◌<◌}
use native.Mathlib.Decide.{ℕ_discrete}
use native.Mathlib.Omega.{arith}
use borrow.Author.Tests.{lt-ltb, le-ltb}
use lib.Dec.{leb, ltb}
use lib.ListN.{length, get_or, set, length-set}
use lib.Seq.{get_or-set_same}
use Rattle.numbers.specs.Case.{pick, case_le}
use Rattle.shape.specs.Tree.{Tree, node, lo, Ord}
use Rattle.shape.specs.TreeLaws.{lo_in, widen}
use Rattle.node.specs.declared.Node.{Node}
use Rattle.node.specs.Layout.{node_at}
use Rattle.node.specs.Rep.{Stands}
use Rattle.node.specs.Paths.{longest_way}
use Rattle.node.proofs.Paths.{noted, noted_here}
use Rattle.node.proofs.Seats.{near_of}
use Rattle.tracing.specs.Ways.{Leads}
use Rattle.search.specs.declared.Trail.{Trail}
use Rattle.search.specs.Search.{Searchable}
use Rattle.search.specs.Trails.{first_after, Followable, Trailing, Begun, Follows, FollowsOn, Ahead}
use Rattle.search.proofs.Look.{Inner, inner_here, high_here, flat_here, lo_here}
use Rattle.search.proofs.Descents.{room, at_lower, at_descendable}

-- if the tree at the root is in order, the way goes on
abbrev pub Trailed : (m : List ℕ) → (root b : ℕ) → (ws : List ℕ) → Trail → Type 0
Trailed m root b ws t = (tr : Tree) (a c : ℕ) → Stands m root tr → Ord a c tr → c ≤ first_after → Trailing m root b ws t

-- ---- at the root
module _ (m : List ℕ) (root q : ℕ) (e : q ≡ (node_at m root).place) (way : List ℕ) (S : Searchable m root way)
    (ws ws' : List ℕ) (long : longest_way ≤ length ws) (t : Trail) (B : Begun root q t ws ws') where
  at_root : get_or (set ws 0 root) 0 0 ≡ root
  at_root = get_or-set_same ws 0 root 0 (omega (arith, long))

  pub begun_able : Followable m ws' t
  begun_able =
      rw (B.trail, B.noted)
      (record {
        tree = S.0;
        stands = rw at_root S.1;
        place = rw at_root e;
        low = omega (arith, S.2);
        long = omega (arith, long, length-set ws 0 root);
      })

  pub begun_trailed : (b : ℕ) → Trailed m root b ws' t
  begun_trailed b tr a c s o l =
      rw (B.trail, B.noted)
      (record {
        here = tr;
        from = a;
        stands = rw at_root s;
        ordered = widen a c a first_after tr (omega arith) l o;
        first = at_root;
        leads = λ k g h i j. absurd (omega arith);
      })

-- ---- a step
-- some tree stands at x, with keys below a
record Gone (m : List ℕ) (x a : ℕ) : Type 0 where
  tree : Tree
  from : ℕ
  stands : Stands m x tree
  ordered : Ord from a tree

module _ (m : List ℕ) (b : ℕ) (ws : List ℕ) (t : Trail) (D : Followable m ws t) where
  -- v is the node on the right, x the seat gone to, and a the next `after`
  module _ (h : t.place ≡ 0 → ⊥) (p : ℕ) (ep : p ≡ near_of false t.place) (v : Node) (ev : v ≡ node_at m p)
      (x : ℕ) (ex : x ≡ near_of (not (leb v.lo b)) t.place) (a : ℕ) (ea : a ≡ pick (leb v.lo b) t.ahead.after v.lo) where
    split : (node_at m (t.place + 4)).lo ≡ v.lo
    split = sym (ap (λ (n : Node). n.lo) (ev ∙ ap (node_at m) ep))

    -- the seat noted last
    abbrev w : ℕ
    w = get_or ws t.ahead.deep 0

    leads_to : (k : ℕ) (s : Bool) → ltb k (node_at m (t.place + 4)).lo ≡ s → x ≡ near_of s t.place → Leads m k w x
    leads_to k s c e = record { inner = high_here D.place h D.tree D.stands; to = rw (← D.place, c) e }

    deep : t.ahead.deep + 1 < length ws
    deep = (room _ _ 0 _ _ D h).0

    module _ (root : ℕ) (T : Trailing m root b ws t) where
      I : Inner m t.place T.here
      I = inner_here D.place h T.here T.stands

      O : Ord T.from t.ahead.after (node I.label I.left I.right)
      O = rw I.is at T.ordered

      least : v.lo ≡ lo I.right
      least = lo_here (ev ∙ ap (node_at m) ep) (I.child false)

      -- the keys that are left lead here, and were left before
      leads_here : (k : ℕ) → b ≤ k → k < a → Leads m k w x × (k < t.ahead.after)
      leads_here k g l = elim (case_le v.lo b) [
        | inl y ↦ let s : x ≡ near_of false t.place = rw y.1 at ex in
            let c : a ≡ t.ahead.after = rw y.1 at ea in
            (leads_to k false (le-ltb k (node_at m (t.place + 4)).lo (omega (arith, split, y.0))) s, omega arith)
        | inr y ↦ let s : x ≡ near_of true t.place = rw y.1 at ex in
            let c : a ≡ v.lo = rw y.1 at ea in
            (leads_to k true (lt-ltb k (node_at m (t.place + 4)).lo (omega (arith, split))) s, omega (arith, least, lo_in (lo I.right) t.ahead.after I.right O.1))
      ]

      leads_next : (k : ℕ) → b ≤ k → k < a → (i : ℕ) → i < t.ahead.deep + 1 → Leads m k (get_or (set ws (t.ahead.deep + 1) x) i 0) (get_or (set ws (t.ahead.deep + 1) x) (suc i) 0)
      leads_next k g l i j = elim (ℕ_discrete i t.ahead.deep) [
        | yes e ↦ rw (e, noted ws t.ahead.deep x t.ahead.deep (omega arith), noted_here ws t.ahead.deep x deep) (leads_here k g l).0
        | no n ↦ rw (noted ws t.ahead.deep x i (omega arith), noted ws t.ahead.deep x (suc i) (omega arith)) (T.leads k g (leads_here k g l).1 i (omega arith))
      ]

      gone : Gone m x a
      gone = elim (case_le v.lo b) [
        | inl y ↦ let s : x ≡ near_of false t.place = rw y.1 at ex in
            let c : a ≡ t.ahead.after = rw y.1 at ea in
            record { tree = I.right; from = lo I.right; stands = subst (λ (y : ℕ). Stands m y I.right) (sym s) (I.child false); ordered = subst (λ (y : ℕ). Ord (lo I.right) y I.right) (sym c) O.1 }
        | inr y ↦ let s : x ≡ near_of true t.place = rw y.1 at ex in
            let c : a ≡ lo I.right = (rw y.1 at ea) ∙ least in
            record { tree = I.left; from = T.from; stands = subst (λ (y : ℕ). Stands m y I.left) (sym s) (I.child true); ordered = subst (λ (y : ℕ). Ord T.from y I.left) (sym c) O.0 }
      ]

      trails_next : (z : ℕ) → Trailing m root b (set ws (t.ahead.deep + 1) x) (record { place = z; ahead = record { deep = t.ahead.deep + 1; after = a } })
      trails_next z =
          record {
            here = gone.tree;
            from = gone.from;
            stands = rw (get_or-set_same ws (t.ahead.deep + 1) x 0 deep) gone.stands;
            ordered = gone.ordered;
            first = noted ws t.ahead.deep x 0 (omega arith) ∙ T.first;
            leads = leads_next;
          }

    -- u is the node on the left
    pub follows_next : (l : ℕ) → l ≡ near_of true t.place → (u : Node) → u ≡ node_at m l → (z : ℕ) → z ≡ pick (leb v.lo b) v.place u.place
        → Follows m b t (record { place = z; ahead = record { deep = t.ahead.deep + 1; after = a } }) ws (set ws (t.ahead.deep + 1) x)
    follows_next l el u eu z ez =
        record {
          able = at_descendable _ _ 0 _ _ D h (leb v.lo b) x ex p ep v ev l el u eu z ez;
          lower = λ n. at_lower _ _ 0 _ _ D h (leb v.lo b) x ex;
          trails = λ root T. trails_next root T z;
        }

-- ---- at the leaf
pub ahead : (m : List ℕ) (root b : ℕ) (ws ws' : List ℕ) (t u : Trail) → Trailed m root b ws t → FollowsOn m b t u ws ws' → Ahead m root b u.ahead.deep u.ahead.after ws'
ahead m root b ws ws' t u X F tr a c s o l k g h =
    let T = F.trails root (X tr a c s o l) in
    let D = F.able in
    record {
      long = omega (arith, D.low, D.long);
      short = omega (arith, D.low);
      first = T.first;
      leads = T.leads k g h;
      last = flat_here D.place F.ends D.tree D.stands;
    }
