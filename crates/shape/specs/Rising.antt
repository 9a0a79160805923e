-- Order as a property of the list of leaves: a tree is ordered exactly if the keys of its leaves rise.
-- So order, and the least key, follow from an equation of leaf lists.
use Rattle.std.specs.Prelude.{◌≡◌, refl, List, [], ◌∷◌, ◌++◌, ℕ, ◌+◌, ◌≤◌}
use Rattle.std.proofs.Common.{arith}
use Rattle.shape.specs.Tree.{Tree, leaf, node, lo, Ord, Item, leaves}

-- the keys of a list rise, from a on and below b
abbrev pub Rising : (a b : ℕ) → List Item → Type 0
Rising a b [] = a ≤ b
Rising a b (x ∷ xs) = (a ≤ x.0) × Rising (x.0 + 1) b xs

pub rising_append : (a b c : ℕ) (xs ys : List Item) → Rising a b xs → Rising b c ys → Rising a c (xs ++ ys)
rising_append a b c [] [] h i = omega arith
rising_append a b c [] (y ∷ ys) h i = (omega arith, i.1)
rising_append a b c (x ∷ xs) ys h i = (h.0, rising_append (x.0 + 1) b c xs ys h.1 i)

pub rising_from : (a b c : ℕ) (xs : List Item) → b ≤ a → Rising a c xs → Rising b c xs
rising_from a b c [] h i = omega arith
rising_from a b c (x ∷ xs) h i = (omega arith, i.1)

pub ord_rising : (a b : ℕ) (t : Tree) → Ord a b t → Rising a b (leaves t)
ord_rising a b (leaf k e) o = omega arith
ord_rising a b (node m l r) o = rising_append a (lo r) b (leaves l) (leaves r) (ord_rising a (lo r) l o.0) (ord_rising (lo r) b r o.1)

-- ---- the least key is the first item's, or the default's where there is none
abbrev pub first : ℕ → List Item → ℕ
first d [] = d
first d (x ∷ xs) = x.0

first_append : (d : ℕ) (xs ys : List Item) → first d (xs ++ ys) ≡ first (first d ys) xs
first_append d [] ys = refl
first_append d (x ∷ xs) ys = refl

-- whatever the default
pub lo_first : (d : ℕ) (t : Tree) → lo t ≡ first d (leaves t)
lo_first d (leaf k e) = refl
lo_first d (node m l r) = rw (first_append d (leaves l) (leaves r)) (lo_first (first d (leaves r)) l)

pub lo_list : (t u : Tree) → leaves t ≡ leaves u → lo t ≡ lo u
lo_list t u q = rw (lo_first 0 t, lo_first 0 u, q)

-- ---- and back
rising_left : (a b : ℕ) (xs ys : List Item) → Rising a b (xs ++ ys) → Rising a (first b ys) xs
rising_left a b [] [] h = h
rising_left a b [] (y ∷ ys) h = h.0
rising_left a b (x ∷ xs) ys h = (h.0, rising_left (x.0 + 1) b xs ys h.1)

rising_right : (a b : ℕ) (xs ys : List Item) → Rising a b (xs ++ ys) → Rising (first b ys) b ys
rising_right a b [] [] h = omega arith
rising_right a b [] (y ∷ ys) h = (omega arith, h.1)
rising_right a b (x ∷ xs) ys h = rising_right (x.0 + 1) b xs ys h.1

pub rising_ord : (a b : ℕ) (t : Tree) → Rising a b (leaves t) → Ord a b t
rising_ord a b (leaf k e) h = omega arith
rising_ord a b (node m l r) h =
    rw (lo_first b r) (
      rising_ord a (first b (leaves r)) l (rising_left a b (leaves l) (leaves r) h),
      rising_ord (first b (leaves r)) b r (rising_right a b (leaves l) (leaves r) h),
    )

-- a tree with the leaves of an ordered one is ordered
pub ord_list : (a b : ℕ) (t u : Tree) → leaves u ≡ leaves t → Ord a b t → Ord a b u
ord_list a b t u q o = rising_ord a b u (rw q (ord_rising a b t o))
