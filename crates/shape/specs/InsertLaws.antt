-- What `insert k e q t` comes to: the leaf is put in its place, under the new node q, and order and balance are kept.
use Rattle.std.specs.Prelude.{◌≡◌, ◌≢◌, [], ◌∷◌, Bool, true, false, ℕ, ◌+◌, ◌≤◌, ◌<◌, max, min}
use Rattle.std.proofs.Common.{sym, inl, inr, arith}
use Rattle.numbers.specs.Case.{case_le}
use Rattle.shape.specs.Tree.{Tree, leaf, node, height, size, lo, top, low, Balanced, Ord, All, leaves, weight}
use Rattle.shape.specs.TreeLaws.{all_map, ord_all}
use Rattle.shape.specs.PlaceLaws.{size_weight}
use Rattle.shape.specs.Side.{over, near, far}
use Rattle.shape.specs.SideLaws.{joined, leaves_over, height_over, top_over, low_over, weight_over, all_over, over_all, over_even}
use Rattle.shape.specs.Arrange.{balance, insert}
use Rattle.shape.specs.BalanceLaws.{balance_over}
use Rattle.shape.specs.ListLaws.{put, put_past, put_before, lo_put, ord_put}

-- u is t, ordered from a on and below b, with the leaf k e and the inner place q besides
pub record Inserted (a b q k e : ℕ) (t u : Tree) : Type 1 where
  pub list : leaves u ≡ put (k, e) (leaves t)
  pub first : lo u ≡ min (lo t) k
  pub most : top u ≡ max (top t) e
  pub least : low u ≡ min (low t) e
  pub weigh : (w : (k e : ℕ) → ℕ) (v : ℕ → ℕ) → weight w v u ≡ w k e + v q + weight w v t
  pub all : (P : (k e : ℕ) → Type 0) → P k e → All P t → All P u
  pub ord : Ord a b u
  pub even : Balanced u
  pub tall : height t ≤ height u
  pub high : height u ≤ height t + 1

module _ (left : Bool) (a b q k e : ℕ) (from : a ≤ k) (to : k < b) where
  -- beside a leaf
  beside_leaf : (j f : ℕ) → Ord a b (leaf j f) → j ≢ k
      → joined left ((k, e) ∷ []) ((j, f) ∷ []) ≡ put (k, e) ((j, f) ∷ [])
      → Inserted a b q k e (leaf j f) (over left q (leaf k e) (leaf j f))
  beside_leaf j f o n puts =
      let u = over left q (leaf k e) (leaf j f) in
      let L : leaves u ≡ put (k, e) ((j, f) ∷ []) = rw leaves_over puts in
      record {
        list = L;
        first = lo_put (k, e) (leaf j f) u L;
        most = simp top_over (omega arith);
        least = simp low_over (omega arith);
        weigh = λ w v. simp weight_over (omega arith);
        all = λ P c d. over_all left q (leaf k e) (leaf j f) P c d;
        ord = ord_put a b (k, e) (leaf j f) u L o from to n;
        even = over_even left q (leaf k e) (leaf j f) tt tt (omega arith) (omega arith);
        tall = omega arith;
        high = simp height_over (omega arith);
      }

  -- below a node x, into its child t on the side named
  below : (x c d : ℕ) (t s u : Tree) → Ord a b (over left x t s) → All (λ j f. j ≢ k) (over left x t s) → Balanced s
      → height t ≤ height s + 1 → height s ≤ height t + 1
      → put (k, e) (joined left (leaves t) (leaves s)) ≡ joined left (put (k, e) (leaves t)) (leaves s)
      → Inserted c d q k e t u → Inserted a b q k e (over left x t s) (balance x (near left u s) (far left u s))
  below x c d t s u o n S h i puts U =
      let B = balance_over left x u s U.even S (omega arith) (omega arith) in
      let z = balance x (near left u s) (far left u s) in
      let L : leaves z ≡ put (k, e) (leaves (over left x t s)) = rw (B.list, U.list, leaves_over) (sym puts) in
      record {
        list = L;
        first = lo_put (k, e) (over left x t s) z L;
        most = omega (arith, top_over left x t s);
        least = omega (arith, low_over left x t s);
        weigh = λ w v. omega (arith, B.weigh w v, U.weigh w v, weight_over left x t s w v);
        all = λ P y v. let A = all_over left x t s P v in B.all P (U.all P y A.0) A.1;
        ord = ord_put a b (k, e) (over left x t s) z L o from to n;
        even = B.even;
        tall = omega (arith, height_over left x t s);
        high = omega (arith, height_over left x t s);
      }

pub insert_ok : (a b q k e : ℕ) (t : Tree) → Ord a b t → Balanced t → a ≤ k → k < b → All (λ j f. j ≢ k) t
    → Inserted a b q k e t (insert k e q t)
unfolding insert
insert_ok a b q k e (leaf j f) o h u v n = elim (case_le j k) [
  | inl z ↦ rw z.1 (beside_leaf false a b q k e u v j f o n (rw z.1))
  | inr z ↦ rw z.1 (beside_leaf true a b q k e u v j f o n (rw z.1))
]
insert_ok a b q k e (node x l r) o h u v n = elim (case_le (lo r) k) [
  | inl z ↦ rw z.1 (below false a b q k e u v x (lo r) b r l (insert k e q r) o n h.0 h.3 h.2
      (put_past (k, e) l (leaves r) (all_map (λ k e i. omega arith) l (ord_all a (lo r) l o.0)))
      (insert_ok (lo r) b q k e r o.1 h.1 z.0 v n.1))
  | inr z ↦ rw z.1 (below true a b q k e u v x a (lo r) l r (insert k e q l) o n h.1 h.2 h.3
      (put_before (k, e) (leaves l) r z.0)
      (insert_ok a (lo r) q k e l o.0 h.0 u z.0 n.0))
]

-- one leaf more
pub inserted_size : (a b q k e : ℕ) (t u : Tree) → Inserted a b q k e t u → size u ≡ size t + 1
inserted_size a b q k e t u I = omega (arith, size_weight t, size_weight u, I.weigh (λ k e. 1) (λ q. 0))
