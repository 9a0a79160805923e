-- The search finds the leaf that fits with the greatest key, its visits are bounded by the height, and `published` is
-- this search.
use Rattle.std.specs.Prelude.{◌≡◌, refl, ℕ, ◌+◌, ◌*◌, ◌≤◌, ◌<◌, leb, length}
use Rattle.std.proofs.Common.{inl, inr, arith}
use Rattle.numbers.specs.Case.{case_le}
use Rattle.rule.specs.Fit.{Fits}
use Rattle.rule.specs.Key.{start_of}
use Rattle.shape.specs.Tree.{Tree, leaf, node, height, lo, top, Ord, In, All}
use Rattle.shape.specs.TreeLaws.{all_map, in_ord, ord_all, top_all}
use Rattle.shape.specs.Visits.{Out, none, some, Result, path, passed, reached, fitting, Deepest, unmarked, marked, deeper, deepest, descended, bottom, descent, published}
use Rattle.shape.specs.Search.{Hit, last, after, find}

-- ---- what is found is right
record Last (f : ℕ) (t : Tree) (h : Hit) : Type 0 where
  inside : In h.key h.end t
  late : f ≤ h.end
  best : All (λ k e. f ≤ e → k ≤ h.key) t

last_ok : (a b f : ℕ) (t : Tree) → Ord a b t → f ≤ top t → Last f t (last f t)
last_ok a b f (leaf k e) o h = record { inside = (refl, refl); late = h; best = omega arith }
last_ok a b f (node p l r) o h = elim (case_le f (top r)) [
  | inl y ↦ let R = last_ok (lo r) b f r o.1 y.0 in
      let from : lo r ≤ (last f r).key = (in_ord (lo r) b r o.1 _ _ R.inside).0 in
      rw y.1 (record {
        inside = inr R.inside;
        late = R.late;
        best = (all_map (λ k e i. omega arith) l (ord_all a (lo r) l o.0), R.best);
      })
  | inr n ↦ let L = last_ok a (lo r) f l o.0 (omega arith) in
      rw n.1 (record { inside = inl L.inside; late = L.late; best = (L.best, all_map (λ k e i. omega arith) r (top_all r)) })
]

abbrev pub Right : (r f : ℕ) → Tree → Out → Type 0
Right r f t none = All (λ k e. ¬ (Fits (start_of k) e r f)) t
Right r f t (some k e) = In k e t × Fits (start_of k) e r f × All (λ j g. Fits (start_of j) g r f → j ≤ k) t

module _ (a b r f p : ℕ) (x y : Tree) (o : Ord a b (node p x y)) where
  right_of_left : r < start_of (lo y) → (u : Out) → Right r f x u → Right r f (node p x y) u
  right_of_left h none i = (i, all_map (λ k e j. omega arith) y (ord_all (lo y) b y o.1))
  right_of_left h (some k e) i = (inl i.0, i.1, (i.2, all_map (λ k e j. omega arith) y (ord_all (lo y) b y o.1)))

  right_of_right : start_of (lo y) ≤ r → (u : Out) (n : ℕ) → Right r f y u → Right r f (node p x y) (after (leb f (top x)) (last f x) u n).out
  right_of_right h (some k e) n i =
      let from : lo y ≤ k = (in_ord (lo y) b y o.1 _ _ i.0).0 in
      (inr i.0, i.1, (all_map (λ k e j. omega arith) x (ord_all a (lo y) x o.0), i.2))
  right_of_right h none n i = elim (case_le f (top x)) [
    | inl z ↦ let L = last_ok a (lo y) f x o.0 z.0 in
        let to = (in_ord a (lo y) x o.0 _ _ L.inside).1 in
        rw z.1 (inl L.inside, (omega arith, L.late), (all_map (λ k e j g. j g.1) x L.best, all_map (λ k e j g. absurd (j g)) y i))
    | inr z ↦ rw z.1 (all_map (λ k e j. omega arith) x (top_all x), i)
  ]

pub find_right : (a b r f : ℕ) (t : Tree) → Ord a b t → Right r f t (find r f t).out
find_right a b r f (leaf k e) o = elim (case_le (start_of k) r) [
  | inl y ↦ elim (case_le f e) [
    | inl z ↦ rw (y.1, z.1) ((refl, refl), omega arith, omega arith)
    | inr z ↦ rw (y.1, z.1) (omega arith)
  ]
  | inr y ↦ rw y.1 (omega arith)
]
find_right a b r f (node p x y) o = elim (case_le (start_of (lo y)) r) [
  | inl z ↦ rw z.1 (right_of_right a b r f p x y o z.0 (find r f y).out (find r f y).visits (find_right (lo y) b r f y o.1))
  | inr z ↦ rw z.1 (right_of_left a b r f p x y o z.0 (find r f x).out (find_right a (lo y) r f x o.0))
]

-- ---- what it costs: less where nothing is found
last_cost : (f : ℕ) (t : Tree) → (last f t).count ≤ 2 * height t
last_cost f (leaf k e) = omega arith
last_cost f (node p l r) = elim (case_le f (top r)) [
  | inl y ↦ rw y.1 (omega (arith, last_cost f r))
  | inr y ↦ rw y.1 (omega (arith, last_cost f l))
]

abbrev Costs : (height : ℕ) → Out → (visits : ℕ) → Type 0
Costs h none n = n ≤ 2 * h + 1
Costs h (some k e) n = n ≤ 4 * h + 1

more_cost : (g h : ℕ) (u : Out) (n : ℕ) → h + 1 ≤ g → Costs h u n → Costs g u (n + 1)
more_cost g h none n q i = omega arith
more_cost g h (some k e) n q i = omega arith

after_cost : (f g : ℕ) (x y : Tree) (u : Out) (n : ℕ) → height x + 1 ≤ g → height y + 1 ≤ g → Costs (height y) u n
    → let z = after (leb f (top x)) (last f x) u n in Costs g z.out z.visits
after_cost f g x y (some k e) n q s i = omega arith
after_cost f g x y none n q s i = elim (case_le f (top x)) [ inl z ↦ rw z.1 (omega (arith, last_cost f x)) | inr z ↦ rw z.1 (omega arith) ]

find_cost : (r f : ℕ) (t : Tree) → Costs (height t) (find r f t).out (find r f t).visits
find_cost r f (leaf k e) = go (fitting r f (leaf k e))
  where
    go : (u : Out) → Costs 0 u 1
    go none = omega arith
    go (some k e) = omega arith
find_cost r f (node p x y) = elim (case_le (start_of (lo y)) r) [
  | inl z ↦ rw z.1 (after_cost f _ x y (find r f y).out (find r f y).visits (omega arith) (omega arith) (find_cost r f y))
  | inr z ↦ rw z.1 (more_cost _ (height x) (find r f x).out (find r f x).visits (omega arith) (find_cost r f x))
]

pub find_visits : (r f : ℕ) (t : Tree) → (find r f t).visits ≤ 4 * height t + 1
find_visits r f t = go (find r f t).out (find r f t).visits (find_cost r f t)
  where
    go : (u : Out) (n : ℕ) → Costs (height t) u n → n ≤ 4 * height t + 1
    go none n h = omega arith
    go (some k e) n h = omega arith

-- ---- it is the search of 01
module _ (f : ℕ) where
  last_is : (x : Tree)
      → (bottom f x ≡ some (last f x).key (last f x).end) × (length (descended f x) ≡ (last f x).count)
  last_is (leaf k e) = (refl, refl)
  last_is (node p x y) = elim (case_le f (top y)) [
    | inl z ↦ rw z.1 ((last_is y).0, omega (arith, (last_is y).1))
    | inr z ↦ rw z.1 ((last_is x).0, omega (arith, (last_is x).1))
  ]

  -- the descent costs two visits a level at most
  pub descended_most : (x : Tree) → length (descended f x) ≤ 2 * height x
  descended_most x = omega (arith, (last_is x).1, last_cost f x)

  after_is : (o : Out) (m : Deepest) (x : Tree) (a b : ℕ) (z : Result)
      → (descent f o m).out ≡ z.out → a + b + (descent f o m).visits ≡ z.visits
      → let d = descent f o (deeper m (leb f (top x)) x) in
      let s = after (leb f (top x)) (last f x) z.out z.visits in
      (d.out ≡ s.out) × (a + 1 + (b + 1) + d.visits ≡ s.visits)
  after_is (some k e) m x a b z q w = rw (← q) (refl, omega arith)
  after_is none (marked y) x a b z q w = rw (← q, (last_is y).0) (refl, omega arith)
  after_is none unmarked x a b z q w = elim (case_le f (top x)) [
    | inl y ↦ rw (← q, y.1) ((last_is x).0, omega (arith, (last_is x).1))
    | inr y ↦ rw (← q, y.1) (refl, omega arith)
  ]

  published_find : (r : ℕ) (t : Tree) → ((published r f t).out ≡ (find r f t).out) × ((published r f t).visits ≡ (find r f t).visits)
  published_find r (leaf k e) = elim (case_le (start_of k) r) [
    | inl y ↦ elim (case_le f e) [ inl z ↦ rw (y.1, z.1) (refl, omega arith) | inr z ↦ rw (y.1, z.1) (refl, omega arith) ]
    | inr y ↦ rw y.1 (refl, omega arith)
  ]
  published_find r (node p x y) = elim (case_le (start_of (lo y)) r) [
    | inl z ↦ let Y = published_find r y in
        let J = after_is (fitting r f (reached r y)) (deepest f (passed r y)) x (length (path r y)) (length (passed r y))
        (find r f y) Y.0 Y.1 in
        rw z.1 (J.0, omega (arith, J.1))
    | inr z ↦ let X = published_find r x in rw z.1 (X.0, omega arith)
  ]

  pub published_is : (r : ℕ) (t : Tree) → published r f t ≡ find r f t
  published_is r t = go _ _ _ _ (published_find r t).0 (published_find r t).1
    where
      go : (o u : Out) (n m : ℕ) → o ≡ u → n ≡ m → ◌≡◌ {A = Result} (record { out = o; visits = n }) (record { out = u; visits = m })
      go o u n m p q = rw (p, q)
