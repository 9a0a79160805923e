-- The leaves of a tree: what holds of all of them, the bounds of their keys and ends, and on which side of a node a leaf is.
-- Every later law about a leaf goes by these.
use Rattle.std.specs.Prelude.{◌≡◌, refl, ◌⊎◌, ◌≢◌, ℕ, ◌≤◌, ◌<◌}
use Rattle.std.proofs.Common.{sym, subst₂, inl, inr, arith}
use Rattle.numbers.specs.Case.{case_le}
use Rattle.shape.specs.Tree.{Tree, leaf, node, height, size, lo, top, low, Ord, In, All}

-- ---- what holds of all leaves
pub all_map : {P Q : (k e : ℕ) → Type 0} → ((k e : ℕ) → P k e → Q k e) → (t : Tree) → All P t → All Q t
all_map f (leaf k e) h = f k e h
all_map f (node q l r) h = (all_map f l h.0, all_map f r h.1)

pub all_in : (P : (k e : ℕ) → Type 0) (t : Tree) → All P t → (k e : ℕ) → In k e t → P k e
all_in P (leaf k e) h k' e' i = subst₂ P (sym i.0) (sym i.1) h
all_in P (node q l r) h k e (inl i) = all_in P l h.0 k e i
all_in P (node q l r) h k e (inr i) = all_in P r h.1 k e i

pub all_of : (P : (k e : ℕ) → Type 0) (t : Tree) → ((k e : ℕ) → In k e t → P k e) → All P t
all_of P (leaf k e) f = f k e (refl, refl)
all_of P (node q l r) f = (all_of P l (λ k e i. f k e (inl i)), all_of P r (λ k e i. f k e (inr i)))

-- what holds of every leaf with another key, where no leaf has that key
pub all_others : (P : (k e : ℕ) → Type 0) (k : ℕ) (t : Tree) → All (λ j e. j ≢ k) t → All (λ j e. j ≢ k → P j e) t → All P t
all_others P k (leaf j e) h f = f h
all_others P k (node q l r) h f = (all_others P k l h.0 f.0, all_others P k r h.1 f.1)

-- ---- the keys of an ordered tree
pub lo_in : (a b : ℕ) (t : Tree) → Ord a b t → (a ≤ lo t) × (lo t < b)
lo_in a b (leaf k e) o = o
lo_in a b (node p l r) o = omega (arith, lo_in a (lo r) l o.0, lo_in (lo r) b r o.1)

-- every key is in the bounds
pub ord_all : (a b : ℕ) (t : Tree) → Ord a b t → All (λ k e. (a ≤ k) × (k < b)) t
ord_all a b (leaf k e) o = o
ord_all a b (node p l r) o =
    let m = lo_in a (lo r) l o.0 in
    let n = lo_in (lo r) b r o.1 in
    (all_map (λ k e h. omega arith) l (ord_all a (lo r) l o.0), all_map (λ k e h. omega arith) r (ord_all (lo r) b r o.1))

pub in_ord : (a b : ℕ) (t : Tree) → Ord a b t → (k e : ℕ) → In k e t → (a ≤ k) × (k < b)
in_ord a b t o = all_in (λ k e. (a ≤ k) × (k < b)) t (ord_all a b t o)

-- no leaf has a key out of the bounds
pub ord_other : (a b k : ℕ) (t : Tree) → Ord a b t → (k < a) ⊎ (b ≤ k) → All (λ j e. j ≢ k) t
ord_other a b k t o (inl h) = all_map (λ j e i. omega arith) t (ord_all a b t o)
ord_other a b k t o (inr h) = all_map (λ j e i. omega arith) t (ord_all a b t o)

pub widen : (a b c d : ℕ) (t : Tree) → c ≤ a → b ≤ d → Ord a b t → Ord c d t
widen a b c d (leaf k e) h i o = omega arith
widen a b c d (node q l r) h i o = (widen a (lo r) c (lo r) l h (omega arith) o.0, widen (lo r) b (lo r) d r (omega arith) i o.1)

pub tight : (a b : ℕ) (t : Tree) → Ord a b t → Ord (lo t) b t
tight a b (leaf k e) o = omega arith
tight a b (node q l r) o = (tight a (lo r) l o.0, o.1)

-- on which side of a node a leaf is
module _ (a b k e q : ℕ) (l r : Tree) (o : Ord a b (node q l r)) where
  pub in_right : lo r ≤ k → In k e (node q l r) → In k e r
  in_right g (inl i) = absurd (omega (arith, in_ord a (lo r) l o.0 k e i))
  in_right g (inr i) = i

  pub in_left : k < lo r → In k e (node q l r) → In k e l
  in_left g (inl i) = i
  in_left g (inr i) = absurd (omega (arith, in_ord (lo r) b r o.1 k e i))

-- a key has one leaf
pub same_key : (a b : ℕ) (t : Tree) → Ord a b t → (k e e' : ℕ) → In k e t → In k e' t → e ≡ e'
same_key a b (leaf g f) o k e e' i j = omega arith
same_key a b (node q l r) o k e e' i j = elim (case_le (lo r) k) [
  | inl y ↦ same_key (lo r) b r o.1 k e e' (in_right a b k e q l r o y.0 i) (in_right a b k e' q l r o y.0 j)
  | inr y ↦ same_key a (lo r) l o.0 k e e' (in_left a b k e q l r o y.0 i) (in_left a b k e' q l r o y.0 j)
]

-- ---- the ends
pub top_all : (t : Tree) → All (λ k e. e ≤ top t) t
top_all (leaf k e) = omega arith
top_all (node p l r) = (all_map (λ k e h. omega arith) l (top_all l), all_map (λ k e h. omega arith) r (top_all r))

pub low_all : (t : Tree) → All (λ k e. low t ≤ e) t
low_all (leaf k e) = omega arith
low_all (node p l r) = (all_map (λ k e h. omega arith) l (low_all l), all_map (λ k e h. omega arith) r (low_all r))

pub low_top : (t : Tree) → low t ≤ top t
low_top (leaf k e) = omega arith
low_top (node p l r) = omega (arith, low_top l, low_top r)

-- a leaf with the end e
pub record Ends (e : ℕ) (t : Tree) : Type 0 where
  pub key : ℕ
  pub inside : In key e t

ends_left : (d e p : ℕ) (l r : Tree) → d ≡ e → Ends e l → Ends d (node p l r)
ends_left d e p l r q x = rw q (record { key = x.key; inside = inl x.inside })

ends_right : (d e p : ℕ) (l r : Tree) → d ≡ e → Ends e r → Ends d (node p l r)
ends_right d e p l r q x = rw q (record { key = x.key; inside = inr x.inside })

pub low_ends : (t : Tree) → Ends (low t) t
low_ends (leaf k e) = record { key = k; inside = (refl, refl) }
low_ends (node p l r) = elim (case_le (low l) (low r)) [
  | inl y ↦ ends_left _ _ p l r (omega arith) (low_ends l)
  | inr y ↦ ends_right _ _ p l r (omega arith) (low_ends r)
]

pub top_ends : (t : Tree) → Ends (top t) t
top_ends (leaf k e) = record { key = k; inside = (refl, refl) }
top_ends (node p l r) = elim (case_le (top r) (top l)) [
  | inl y ↦ ends_left _ _ p l r (omega arith) (top_ends l)
  | inr y ↦ ends_right _ _ p l r (omega arith) (top_ends r)
]

-- ---- how many, and how high
pub size_some : (t : Tree) → 1 ≤ size t
size_some (leaf k e) = omega arith
size_some (node p l r) = omega (arith, size_some l)

pub height_size : (t : Tree) → height t < size t
height_size (leaf k e) = omega arith
height_size (node p l r) = omega (arith, height_size l, height_size r)
