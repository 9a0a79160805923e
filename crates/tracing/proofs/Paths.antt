-- In an ordered tree every way down to a leaf is the way of that leaf's key: who has noted it need not be led by the key. The same for a way
-- down to any tree that has a leaf of the key.
use mathlib.Core.Path.{◌≡◌, refl, ap}
use mathlib.Core.Logic.{◌⊎◌, inl, inr}
use mathlib.Core.Bool.{Bool, true, false}
use mathlib.Core.List.{List}
use Prim.Native.Nat.{ℕ, zero, suc, ◌+◌, ◌%◌, ◌≤◌, ◌<◌}
use native.Mathlib.Decide.{ℕ_discrete}
use native.Mathlib.Omega.{arith}
use lib.Dec.{ltb}
use lib.ListN.{length, get_or}
use borrow.Author.Tests.{lt-ltb, le-ltb}
use Rattle.shape.specs.Tree.{Tree, leaf, node, lo, Ord, In}
use Rattle.shape.specs.TreeLaws.{lo_in, in_ord}
use Rattle.node.specs.declared.Node.{Node}
use Rattle.node.specs.Layout.{node_at, home}
use Rattle.node.specs.Rep.{Stands}
use Rattle.node.specs.Paths.{longest_way, Down}
use Rattle.node.proofs.Reps.{seen, tall, one_tree}
use Rattle.node.proofs.Seats.{near_of, far_of, children}
use Rattle.tracing.specs.Alone.{Sole}
use Rattle.tracing.specs.Ways.{Leads, Way, Partway}

-- a seat of a place is its left or its right one
sides : (x w : ℕ) → x % 4 ≡ 0 → home x ≡ w → (x ≡ near_of true w) ⊎ (x ≡ near_of false w)
sides x w v h = elim (ℕ_discrete x w) [ yes e ↦ inl e | no n ↦ inr (omega arith) ]

module _ (m : List ℕ) (t d : ℕ) (ws : List ℕ) (D : Down m t d ws) where
  abbrev at : ℕ → ℕ
  at i = get_or ws i 0

  -- K is among the keys of the tree at the end
  module _ (K : ℕ) (base : (tr : Tree) (a b : ℕ) → Stands m (at d) tr → Ord a b tr → (a ≤ K) × (K < b)) where
    -- from the seat i on the key leads, and it is among the keys there
    record From (i a b : ℕ) : Type 0 where
      low : a ≤ K
      high : K < b
      leads : (j : ℕ) → i ≤ j → j < d → Leads m K (at j) (at (suc j))

    -- the least key on the right of the node at w
    abbrev split : ℕ → ℕ
    split w = (node_at m ((node_at m w).place + 4)).lo

    leads_to : (w x : ℕ) (s : Bool) → ((node_at m w).height ≡ 0 → ⊥) → ltb K (split w) ≡ s → x ≡ near_of s (node_at m w).place → Leads m K w x
    leads_to w x s n es e = record { inner = n; to = rw es e }

    from : (n i : ℕ) → n + i ≡ d → (tr : Tree) (a b : ℕ) → Stands m (at i) tr → Ord a b tr → From i a b
    from zero i e tr a b s o =
        let q : i ≡ d = omega arith in
        let B = base tr a b (rw q at s) o in
        record { low = B.0; high = B.1; leads = λ j h l. absurd (omega arith) }
    from (suc n) i e (leaf k f) a b s o = absurd ((D.steps i (omega arith)).inner (tall s))
    from (suc n) i e (node p l r) a b s o = elim (sides (at (suc i)) (node_at m (at i)).place (D.steps i (omega arith)).seat (D.steps i (omega arith)).is) [
      | inl q ↦ let c = children m (at i) (node_at m (at i)) refl true (at (suc i)) (far_of true (node_at m (at i)).place) p l r q refl s in
          let F = from n (suc i) (omega arith) l a (lo r) c.near_at o.0 in
          let h : ltb K (split (at i)) ≡ true = lt-ltb K (split (at i)) (omega (arith, F.high, c.split)) in
          record { low = F.low; high = omega (arith, F.high, lo_in (lo r) b r o.1); leads = next F (leads_to (at i) (at (suc i)) true (D.steps i (omega arith)).inner h q) }
      | inr q ↦ let c = children m (at i) (node_at m (at i)) refl false (at (suc i)) (far_of false (node_at m (at i)).place) p l r q refl s in
          let F = from n (suc i) (omega arith) r (lo r) b c.near_at o.1 in
          let h : ltb K (split (at i)) ≡ false = le-ltb K (split (at i)) (omega (arith, F.low, c.split)) in
          record { low = omega (arith, F.low, lo_in a (lo r) l o.0); high = F.high; leads = next F (leads_to (at i) (at (suc i)) false (D.steps i (omega arith)).inner h q) }
    ]
      where
        next : {a b : ℕ} → From (suc i) a b → Leads m K (at i) (at (suc i)) → (j : ℕ) → i ≤ j → j < d → Leads m K (at j) (at (suc j))
        next F L j h l = elim (ℕ_discrete j i) [ yes q ↦ rw q L | no q ↦ F.leads j (omega arith) l ]

    all_lead : (tr : Tree) (a b : ℕ) → Stands m t tr → Ord a b tr → (i : ℕ) → i < d → Leads m K (at i) (at (suc i))
    all_lead tr a b s o i l = (from d 0 (omega arith) tr a b (rw D.first s) o).leads i (omega arith) l

  -- ---- down to a leaf
  module _ (end : (node_at m (at d)).height ≡ 0) where
    -- the key of the leaf at the end
    abbrev K : ℕ
    K = (node_at m (at d)).lo

    leaf_key : (tr : Tree) (a b : ℕ) → Stands m (at d) tr → Ord a b tr → (a ≤ K) × (K < b)
    leaf_key (leaf k f) a b s o = omega (arith, ap (λ (z : Node). z.lo) (seen s), o)
    leaf_key (node p l r) a b s o = absurd (omega (arith, end, tall s))

    pub path_way : d < longest_way → (tr : Tree) (a b : ℕ) → Stands m t tr → Ord a b tr → Way m t K d ws
    path_way short tr a b s o = record { long = D.long; short = short; first = D.first; leads = all_lead K leaf_key tr a b s o; last = end }

  -- ---- down to a tree with a leaf of the key
  module _ (sub : Tree) (k e : ℕ) (stands : Stands m (at d) sub) (inside : In k e sub) where
    key_in : (tr : Tree) (a b : ℕ) → Stands m (at d) tr → Ord a b tr → (a ≤ k) × (k < b)
    key_in tr a b s o = in_ord a b tr o k e (rw (one_tree stands s) at inside)

    pub path_partway : longest_way ≤ length ws → (tr : Tree) (a b : ℕ) → Sole m t tr → Ord a b tr → Partway m t k d ws
    path_partway long tr a b s o = record { long = long; first = D.first; leads = all_lead k key_in tr a b s.stands o; alone = (tr, s) }
