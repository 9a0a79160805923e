-- Changes of a list of leaves: an item put in its place, and the item of a key exchanged.
-- A change of a child's leaves is one of its parent's, on either side; and the keys still rise.
use Rattle.std.specs.Prelude.{◌≡◌, refl, ◌≢◌, List, [], ◌∷◌, ◌++◌, Bool, true, false, ℕ, ◌+◌, ◌≤◌, ◌<◌, min, leb, eqb}
use Rattle.std.proofs.Common.{sym, ap, inl, inr, append_assoc, append-nil, arith}
use Rattle.numbers.specs.Case.{pick, case_le, case_eq}
use Rattle.shape.specs.Tree.{Tree, leaf, node, lo, Ord, All, Item, leaves}
use Rattle.shape.specs.SideLaws.{joined}
use Rattle.shape.specs.Rising.{Rising, rising_append, rising_from, ord_rising, rising_ord, first, lo_first}

-- ---- an item put in its place: after those with a key that is no greater
abbrev pub put : Item → List Item → List Item
put x [] = x ∷ []
put x (y ∷ ys) = pick (leb y.0 x.0) (y ∷ put x ys) (x ∷ y ∷ ys)

pub put_past : (x : Item) (t : Tree) (ys : List Item) → All (λ k e. k ≤ x.0) t → put x (leaves t ++ ys) ≡ leaves t ++ put x ys
put_past x (leaf k e) ys h = elim (case_le k x.0) [ inl y ↦ rw y.1 | inr y ↦ absurd (omega arith) ]
put_past x (node q l r) ys h = rw (append_assoc (leaves l) (leaves r) ys, put_past x l _ h.0, put_past x r ys h.1, append_assoc)

put_first : (x : Item) (t : Tree) (ys : List Item) → x.0 < lo t → put x (leaves t ++ ys) ≡ x ∷ leaves t ++ ys
put_first x (leaf k e) ys h = elim (case_le k x.0) [ inl y ↦ absurd (omega arith) | inr y ↦ rw y.1 ]
put_first x (node q l r) ys h = rw append_assoc (put_first x l _ h)

pub put_before : (x : Item) (ys : List Item) (t : Tree) → x.0 < lo t → put x (ys ++ leaves t) ≡ put x ys ++ leaves t
put_before x [] t h = rw (← append-nil (leaves t)) (put_first x t [] h)
put_before x (y ∷ ys) t h = elim (case_le y.0 x.0) [ inl z ↦ rw z.1 (ap (λ l. y ∷ l) (put_before x ys t h)) | inr z ↦ rw z.1 ]

first_put : (x : Item) (ys : List Item) → first x.0 (put x ys) ≡ min (first x.0 ys) x.0
first_put x [] = omega arith
first_put x (y ∷ ys) = elim (case_le y.0 x.0) [ inl z ↦ rw z.1 (omega arith) | inr z ↦ rw z.1 (omega arith) ]

pub lo_put : (x : Item) (t u : Tree) → leaves u ≡ put x (leaves t) → lo u ≡ min (lo t) x.0
lo_put x t u q = rw (lo_first x.0 t, lo_first x.0 u, q) (first_put x (leaves t))

-- no item has the key
abbrev pub Lacks : (k : ℕ) → List Item → Type 0
Lacks k [] = Unit {0}
Lacks k (x ∷ xs) = (x.0 ≢ k) × Lacks k xs

lacks_append : (k : ℕ) (xs ys : List Item) → Lacks k xs → Lacks k ys → Lacks k (xs ++ ys)
lacks_append k [] ys h i = i
lacks_append k (x ∷ xs) ys h i = (h.0, lacks_append k xs ys h.1 i)

lacks_all : (k : ℕ) (t : Tree) → All (λ j e. j ≢ k) t → Lacks k (leaves t)
lacks_all k (leaf j e) h = (h, tt)
lacks_all k (node q l r) h = lacks_append k (leaves l) (leaves r) (lacks_all k l h.0) (lacks_all k r h.1)

rising_put : (a b : ℕ) (x : Item) (xs : List Item) → Rising a b xs → a ≤ x.0 → x.0 < b → Lacks x.0 xs → Rising a b (put x xs)
rising_put a b x [] h i j n = omega arith
rising_put a b x (y ∷ ys) h i j n = elim (case_le y.0 x.0) [
  | inl z ↦ rw z.1 (h.0, rising_put (y.0 + 1) b x ys h.1 (omega (arith, n.0)) j n.1)
  | inr z ↦ rw z.1 (i, (omega arith, h.1))
]

pub ord_put : (a b : ℕ) (x : Item) (t u : Tree) → leaves u ≡ put x (leaves t) → Ord a b t
    → a ≤ x.0 → x.0 < b → All (λ j e. j ≢ x.0) t → Ord a b u
ord_put a b x t u q o i j n = rising_ord a b u (rw q (rising_put a b x (leaves t) (ord_rising a b t o) i j (lacks_all x.0 t n)))

-- ---- the item of the key k exchanged for those that g makes of it
abbrev pub instead : (k : ℕ) → (Item → List Item) → List Item → List Item
instead k g [] = []
instead k g (y ∷ ys) = pick (eqb y.0 k) (g y ++ ys) (y ∷ instead k g ys)

-- for none, and for one with the end f
abbrev pub cut : (k : ℕ) → List Item → List Item
cut k xs = instead k (λ x. []) xs

abbrev pub ending : (f : ℕ) → Item → List Item
ending f x = (x.0, f) ∷ []

abbrev pub renewed : (k f : ℕ) → List Item → List Item
renewed k f xs = instead k (ending f) xs

module _ (k : ℕ) (g : Item → List Item) where
  instead_past : (t : Tree) (ys : List Item) → All (λ j e. j ≢ k) t → instead k g (leaves t ++ ys) ≡ leaves t ++ instead k g ys
  instead_past (leaf j e) ys h = elim (case_eq j k) [ inl y ↦ absurd (h y.0) | inr y ↦ rw y.1 ]
  instead_past (node q l r) ys h = rw (append_assoc (leaves l) (leaves r) ys, instead_past l _ h.0, instead_past r ys h.1, append_assoc)

  instead_before : (ys : List Item) (t : Tree) → All (λ j e. j ≢ k) t → instead k g (ys ++ leaves t) ≡ instead k g ys ++ leaves t
  instead_before [] t h = rw (← append-nil (leaves t)) (instead_past t [] h)
  instead_before (y ∷ ys) t h = elim (case_eq y.0 k) [
    | inl z ↦ rw z.1 (sym (append_assoc (g y) ys (leaves t)))
    | inr z ↦ rw z.1 (ap (λ l. y ∷ l) (instead_before ys t h))
  ]

  -- the leaves beside it stay
  pub instead_joined : (left : Bool) (xs : List Item) (t : Tree) → All (λ j e. j ≢ k) t
      → instead k g (joined left xs (leaves t)) ≡ joined left (instead k g xs) (leaves t)
  instead_joined true xs t h = instead_before xs t h
  instead_joined false xs t h = instead_past t xs h

  rising_instead : ((x : Item) → Rising x.0 (x.0 + 1) (g x)) → (a b : ℕ) (xs : List Item) → Rising a b xs → Rising a b (instead k g xs)
  rising_instead G a b [] h = h
  rising_instead G a b (x ∷ xs) h = elim (case_eq x.0 k) [
    | inl y ↦ rw y.1 (rising_from x.0 a b (g x ++ xs) h.0 (rising_append x.0 (x.0 + 1) b (g x) xs (G x) h.1))
    | inr y ↦ rw y.1 (h.0, rising_instead G (x.0 + 1) b xs h.1)
  ]

  pub ord_instead : ((x : Item) → Rising x.0 (x.0 + 1) (g x)) → (a b : ℕ) (t u : Tree)
      → leaves u ≡ instead k g (leaves t) → Ord a b t → Ord a b u
  ord_instead G a b t u q o = rising_ord a b u (rw q (rising_instead G a b (leaves t) (ord_rising a b t o)))

  -- a list of the one item
  pub instead_one : (e : ℕ) → instead k g ((k, e) ∷ []) ≡ g (k, e)
  instead_one e = elim (case_eq k k) [ inl y ↦ rw y.1 (append-nil (g (k, e))) | inr y ↦ absurd (y.0 refl) ]
