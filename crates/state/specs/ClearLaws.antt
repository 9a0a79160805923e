-- What clearing a tree comes to (shape's Clear): the leaves that end at the bound or later, no others, in their order; balanced; and every
-- place is in what is left, or among those that come free.
use Rattle.std.specs.Prelude.{◌≡◌, refl, List, [], ◌∷◌, ◌++◌, ℕ, ◌+◌, ◌≤◌, ◌<◌, leb, length}
use Rattle.std.proofs.Common.{sym, ap, ap₂, ◌∙◌, append-nil, arith, length-append}
use Rattle.std.proofs.Math.Logic.{inl, inr}
use Rattle.numbers.specs.Case.{pick, case_le}
use Rattle.shape.specs.Tree.{Tree, leaf, node, height, size, low, Balanced, Ord, In, All, Item, leaves, weight, same, uses}
use Rattle.shape.specs.TreeLaws.{all_map, all_of, low_all}
use Rattle.shape.specs.PlaceLaws.{size_weight}
use Rattle.shape.specs.Rising.{Rising, rising_from, ord_rising, rising_ord}
use Rattle.shape.specs.Clear.{join, Rest, gone, rest, meet, clear, unused, freed}
use Rattle.shape.specs.JoinLaws.{join_ok}
use Rattle.state.specs.LeafLaws.{mark, mark_is, in_mark, mark_in}
use Rattle.state.specs.Sound.{among}

-- ---- of what is left
abbrev pub leaves_of : Rest → List Item
leaves_of gone = []
leaves_of (rest u) = leaves u

abbrev pub weight_of : ((k e : ℕ) → ℕ) → (ℕ → ℕ) → Rest → ℕ
weight_of w v gone = 0
weight_of w v (rest u) = weight w v u

abbrev pub AllOf : ((k e : ℕ) → Type 0) → Rest → Type 0
AllOf P gone = Unit {0}
AllOf P (rest u) = All P u

abbrev pub InOf : (k e : ℕ) → Rest → Type 0
InOf k e gone = ⊥
InOf k e (rest u) = In k e u

-- balanced, and no higher than h
abbrev pub EvenOf : (h : ℕ) → Rest → Type 0
EvenOf h gone = Unit {0}
EvenOf h (rest u) = Balanced u × (height u ≤ h)

-- one more than its places: the leaves of a tree, and 1 where nothing is left
abbrev pub count_of : Rest → ℕ
count_of gone = 1
count_of (rest u) = size u

-- ---- the items that end at b or later
abbrev pub staying : (b : ℕ) → List Item → List Item
staying b [] = []
staying b (x ∷ xs) = pick (leb b x.1) (x ∷ staying b xs) (staying b xs)

staying_append : (b : ℕ) (xs ys : List Item) → staying b (xs ++ ys) ≡ staying b xs ++ staying b ys
staying_append b [] ys = refl
staying_append b (x ∷ xs) ys = elim (case_le b x.1) [
  | inl z ↦ rw z.1 (ap (λ zs. x ∷ zs) (staying_append b xs ys))
  | inr z ↦ rw z.1 (staying_append b xs ys)
]

rising_staying : (a c b : ℕ) (xs : List Item) → Rising a c xs → Rising a c (staying b xs)
rising_staying a c b [] h = h
rising_staying a c b (x ∷ xs) h = elim (case_le b x.1) [
  | inl z ↦ rw z.1 (h.0, rising_staying (x.0 + 1) c b xs h.1)
  | inr z ↦ rw z.1 (rising_from (x.0 + 1) a c (staying b xs) (omega (arith, h.0)) (rising_staying (x.0 + 1) c b xs h.1))
]

pub among_append : (z : ℕ) (ps qs : List ℕ) → among z (ps ++ qs) ≡ among z ps + among z qs
among_append z [] qs = omega arith
among_append z (p ∷ ps) qs = omega (arith, among_append z ps qs)

-- ---- all of it at once
-- r is left of t, cleared at b, and the places ps come free
pub record Cleared (b : ℕ) (t : Tree) (r : Rest) (ps : List ℕ) : Type 1 where
  pub list : leaves_of r ≡ staying b (leaves t)
  pub lost : (w : (k e : ℕ) → ℕ) → weight_of w (λ q. 0) r + weight (λ k e. pick (leb b e) 0 (w k e)) (λ q. 0) t ≡ weight w (λ q. 0) t
  pub all : (P : (k e : ℕ) → Type 0) → All (λ k e. b ≤ e → P k e) t → AllOf P r
  pub even : EvenOf (height t) r
  pub places : (z : ℕ) → uses z t ≡ weight_of (λ k e. 0) (same z) r + among z ps
  pub many : length ps + count_of r ≡ size t

module _ (b : ℕ) where
  cleared_leaf : (k e : ℕ) → Cleared b (leaf k e) (clear b (leaf k e)) (freed b (leaf k e))
  unfolding clear freed
  cleared_leaf k e = elim (case_le b e) [
    | inl z ↦ rw z.1 (record {
      list = rw z.1;
      lost = λ w. rw z.1 (omega arith);
      all = λ P a. a z.0;
      even = (tt, omega arith);
      places = λ x. omega arith;
      many = omega arith;
    })
    | inr z ↦ rw z.1 (record {
      list = rw z.1;
      lost = λ w. rw z.1 (omega arith);
      all = λ P a. tt;
      even = tt;
      places = λ x. omega arith;
      many = omega arith;
    })
  ]

  -- nothing in it ends too early
  staying_all : (t : Tree) → All (λ k e. b ≤ e) t → leaves t ≡ staying b (leaves t)
  staying_all (leaf k e) h = elim (case_le b e) [ inl z ↦ rw z.1 | inr z ↦ absurd (omega (arith, h, z.0)) ]
  staying_all (node x l r) h = rw (staying_append b (leaves l) (leaves r)) (ap₂ ◌++◌ (staying_all l h.0) (staying_all r h.1))

  pub none_lost : (w : (k e : ℕ) → ℕ) (t : Tree) → All (λ k e. b ≤ e) t → weight (λ k e. pick (leb b e) 0 (w k e)) (λ q. 0) t ≡ 0
  none_lost w (leaf k e) h = elim (case_le b e) [ inl z ↦ rw z.1 | inr z ↦ absurd (omega (arith, h, z.0)) ]
  none_lost w (node x l r) h = omega (arith, none_lost w l h.0, none_lost w r h.1)

  all_both : (P : (k e : ℕ) → Type 0) (t : Tree) → All (λ k e. b ≤ e) t → All (λ k e. b ≤ e → P k e) t → All P t
  all_both P (leaf k e) h a = a h
  all_both P (node x l r) h a = (all_both P l h.0 a.0, all_both P r h.1 a.1)

  untouched : (t : Tree) → Balanced t → b ≤ low t → Cleared b t (rest t) []
  untouched t B h =
      let A = all_map {Q = λ k e. b ≤ e} (λ k e i. omega (arith, i, h)) t (low_all t) in
      record {
        list = staying_all t A;
        lost = λ w. omega (arith, none_lost w t A);
        all = λ P a. all_both P t A a;
        even = (B, omega arith);
        places = λ z. omega arith;
        many = omega arith;
      }

  -- ---- a node x over what is left of its sides
  module _ (x : ℕ) (l r : Tree) where
    meet_leaves : (p q : Rest) → EvenOf (height l) p → EvenOf (height r) q → leaves_of (meet x p q) ≡ leaves_of p ++ leaves_of q
    meet_leaves gone q P Q = refl
    meet_leaves (rest u) gone P Q = sym (append-nil (leaves u))
    meet_leaves (rest u) (rest v) P Q = (join_ok x u v P.0 Q.0).list

    -- the weight of the node where it joins
    abbrev joins : (ℕ → ℕ) → Rest → Rest → ℕ
    joins n gone q = 0
    joins n (rest u) gone = 0
    joins n (rest u) (rest v) = n x

    meet_weight : (w : (k e : ℕ) → ℕ) (n : ℕ → ℕ) (p q : Rest) → EvenOf (height l) p → EvenOf (height r) q
        → weight_of w n (meet x p q) ≡ weight_of w n p + weight_of w n q + joins n p q
    meet_weight w n gone q P Q = omega arith
    meet_weight w n (rest u) gone P Q = omega arith
    meet_weight w n (rest u) (rest v) P Q = omega (arith, (join_ok x u v P.0 Q.0).weigh w n)

    meet_all : (P : (k e : ℕ) → Type 0) (p q : Rest) → EvenOf (height l) p → EvenOf (height r) q → AllOf P p → AllOf P q → AllOf P (meet x p q)
    meet_all P gone q E F a c = c
    meet_all P (rest u) gone E F a c = a
    meet_all P (rest u) (rest v) E F a c = (join_ok x u v E.0 F.0).all P a c

    meet_even : (p q : Rest) → EvenOf (height l) p → EvenOf (height r) q → EvenOf (height (node x l r)) (meet x p q)
    meet_even gone gone P Q = tt
    meet_even gone (rest v) P Q = (Q.0, omega (arith, Q.1))
    meet_even (rest u) gone P Q = (P.0, omega (arith, P.1))
    meet_even (rest u) (rest v) P Q = let J = join_ok x u v P.0 Q.0 in (J.even, omega (arith, J.high, P.1, Q.1))

    meet_places : (z : ℕ) (p q : Rest) → joins (same z) p q + among z (unused x p q) ≡ same z x
    meet_places z gone q = omega arith
    meet_places z (rest u) gone = omega arith
    meet_places z (rest u) (rest v) = omega arith

    meet_count : (p q : Rest) → EvenOf (height l) p → EvenOf (height r) q → length (unused x p q) + count_of (meet x p q) ≡ count_of p + count_of q
    meet_count gone gone P Q = refl
    meet_count gone (rest v) P Q = omega arith
    meet_count (rest u) gone P Q = omega arith
    meet_count (rest u) (rest v) P Q =
        let J = join_ok x u v P.0 Q.0 in
        omega (arith, J.weigh (λ k e. 1) (λ q. 0), size_weight u, size_weight v, size_weight (join x u v))

    met : (p q : Rest) (ps qs : List ℕ) → Cleared b l p ps → Cleared b r q qs → Cleared b (node x l r) (meet x p q) (unused x p q ++ (qs ++ ps))
    met p q ps qs L R =
        let E = L.even in
        let F = R.even in
        record {
          list = meet_leaves p q E F ∙ ap₂ ◌++◌ L.list R.list ∙ sym (staying_append b (leaves l) (leaves r));
          lost = λ w. omega (arith, meet_weight w (λ q. 0) p q E F, no_joins p q, L.lost w, R.lost w);
          all = λ P a. meet_all P p q E F (L.all P a.0) (R.all P a.1);
          even = meet_even p q E F;
          places = λ z. omega (
            arith,
            meet_weight (λ k e. 0) (same z) p q E F,
            meet_places z p q,
            L.places z,
            R.places z,
            among_append z (unused x p q) (qs ++ ps),
            among_append z qs ps,
          );
          many = omega (arith, meet_count p q E F, L.many, R.many, length-append (unused x p q) (qs ++ ps), length-append qs ps);
        }
      where
        no_joins : (p q : Rest) → joins (λ q. 0) p q ≡ 0
        no_joins gone q = refl
        no_joins (rest u) gone = refl
        no_joins (rest u) (rest v) = refl

  pub clear_ok : (t : Tree) → Balanced t → Cleared b t (clear b t) (freed b t)
  unfolding clear freed
  clear_ok (leaf k e) B = cleared_leaf k e
  clear_ok (node x l r) B = elim (case_le b (low (node x l r))) [
    | inl z ↦ rw z.1 (untouched (node x l r) B z.0)
    | inr z ↦ rw z.1 (met x l r (clear b l) (clear b r) (freed b l) (freed b r) (clear_ok l B.0) (clear_ok r B.1))
  ]

-- ---- what follows
-- a weight that is 0 for all that ends too early loses nothing
pub lost_none : (b : ℕ) (w : (k e : ℕ) → ℕ) → ((k e : ℕ) → e < b → w k e ≡ 0) → (t : Tree) → weight (λ k e. pick (leb b e) 0 (w k e)) (λ q. 0) t ≡ 0
lost_none b w f (leaf k e) = elim (case_le b e) [ inl z ↦ rw z.1 | inr z ↦ rw z.1 (f k e z.0) ]
lost_none b w f (node x l r) = omega (arith, lost_none b w f l, lost_none b w f r)

module _ (b : ℕ) (t : Tree) (r : Rest) (ps : List ℕ) (C : Cleared b t r ps) where
  -- what ends late enough is left
  pub stays_in : (k e : ℕ) → In k e t → b ≤ e → InOf k e r
  stays_in k e i h = go r (C.lost (mark k e))
    where
      none : weight (λ k' e'. pick (leb b e') 0 (mark k e k' e')) (λ q. 0) t ≡ 0
      none = lost_none b (mark k e) (λ k' e' j. elim (case_le 1 (mark k e k' e')) [
        | inl z ↦ absurd (omega (arith, mark_is k e k' e' z.0, j, h))
        | inr z ↦ omega (arith, z.0)
      ]) t

      go : (r : Rest) → weight_of (mark k e) (λ q. 0) r + weight (λ k' e'. pick (leb b e') 0 (mark k e k' e')) (λ q. 0) t ≡ weight (mark k e) (λ q. 0) t → InOf k e r
      go gone q = absurd (omega (arith, q, none, in_mark t k e i))
      go (rest u) q = mark_in u k e (omega (arith, q, none, in_mark t k e i))

-- what is left, where a leaf ends late enough
pub left_some : (b : ℕ) (t : Tree) (k e : ℕ) → Balanced t → In k e t → b ≤ e → (u : Tree) × (clear b t ≡ rest u) × Cleared b t (rest u) (freed b t)
left_some b t k e B i h = go (clear b t) refl (clear_ok b t B)
  where
    go : (r : Rest) → clear b t ≡ r → Cleared b t r (freed b t) → (u : Tree) × (clear b t ≡ rest u) × Cleared b t (rest u) (freed b t)
    go gone q C = absurd (stays_in b t gone (freed b t) C k e i h)
    go (rest u) q C = (u, q, C)

module _ (b : ℕ) (t u : Tree) (ps : List ℕ) (C : Cleared b t (rest u) ps) where
  pub left_ordered : (a c : ℕ) → Ord a c t → Ord a c u
  left_ordered a c o = rising_ord a c u (rw C.list (rising_staying a c b (leaves t) (ord_rising a c t o)))

  pub left_late : All (λ k e. b ≤ e) u
  left_late = C.all (λ k e. b ≤ e) (all_of _ t (λ k e i h. h))

  -- no weight has grown, and one that is 0 for all that ends too early is as it was
  pub left_less : (w : (k e : ℕ) → ℕ) → weight w (λ q. 0) u ≤ weight w (λ q. 0) t
  left_less w = omega (arith, C.lost w)

  pub left_same : (w : (k e : ℕ) → ℕ) → ((k e : ℕ) → e < b → w k e ≡ 0) → weight w (λ q. 0) u ≡ weight w (λ q. 0) t
  left_same w f = omega (arith, C.lost w, lost_none b w f t)
