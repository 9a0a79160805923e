-- The laws of a node saved: it is there, and nothing else has changed. A node is its five words.
-- And what makes a node over two others fit its words.
use mathlib.Core.Path.{◌≡◌, refl, ap, ◌∙◌}
use mathlib.Core.Logic.{◌⊎◌, inl, inr, ◌≢◌}
use mathlib.Core.List.{List}
use Prim.Native.Nat.{ℕ, ◌+◌, ◌*◌, ◌-◌, ◌/◌, ◌%◌, ◌^◌, ◌<◌, ◌≤◌}
use native.Mathlib.Decide.{dec_lt}
use native.Mathlib.Omega.{arith}
use lib.ListN.{length, get_or}
use Rattle.numbers.specs.Words.{word, store}
use Rattle.numbers.proofs.WordLaws.{word_other, word_same, byte_other, length_store}
use Rattle.shape.specs.Tree.{same}
use Rattle.node.specs.declared.Node.{Node}
use Rattle.node.specs.Layout.{half_word, base, Within, Fits, node_at, sums_saved, saved, links_of, over_node, with_sums, seat_of, Saved, Copied, Over}
use Rattle.shape.specs.PlaceLaws.{same_none}

pub fields : (k : Node) → k ≡ record { height = k.height; lo = k.lo; top = k.top; low = k.low; place = k.place }
fields k = refl

-- a node's fields are words
pub record Words (n : Node) : Type 0 where
  pub lo : n.lo < 2 ^ 64
  pub top : n.top < 2 ^ 64
  pub low : n.low < 2 ^ 64

-- a byte that is not the node's is outside its four words
off : (p b : ℕ) → 4 ≤ p → p % 4 ≡ 0 → (b < 224) ⊎ (same (seat_of b) p ≡ 0) → (b < 8 * base p) ⊎ (8 * base p + 32 ≤ b)
off p b o a (inl h) = inl (omega arith)
off p b o a (inr h) =
    let u : seat_of b ≢ p = same_none (seat_of b) p h in
    elim (dec_lt b (8 * base p)) [ yes l ↦ inl l | no l ↦ inr (omega arith) ]

-- ---- the three words of the sums
byte_sums : (m : List ℕ) (p : ℕ) (n : Node) (b : ℕ) → (b < 8 * base p) ⊎ (8 * base p + 32 ≤ b) → get_or (sums_saved m p n) b 0 ≡ get_or m b 0
unfolding sums_saved
byte_sums m p n b (inl h) =
    byte_other _ _ _ b (inl (omega arith)) ∙ (byte_other _ _ _ b (inl (omega arith)) ∙ byte_other _ _ _ b (inl h))
byte_sums m p n b (inr h) =
    byte_other _ _ _ b (inr (omega arith)) ∙ (byte_other _ _ _ b (inr (omega arith)) ∙ byte_other _ _ _ b (inr (omega arith)))

module _ (m : List ℕ) (p : ℕ) (n : Node) (i : Within m p) (w : Words n) where
  abbrev m1 : List ℕ
  m1 = store m (base p) n.lo

  abbrev m2 : List ℕ
  m2 = store m1 (base p + 1) n.top

  abbrev m3 : List ℕ
  m3 = store m2 (base p + 2) n.low

  l1 : length m1 ≡ length m
  l1 = length_store m (base p) n.lo

  l2 : length m2 ≡ length m
  l2 = length_store m1 (base p + 1) n.top ∙ l1

  w0 : word m3 (base p) ≡ n.lo
  w0 = word_other m2 _ _ _ (omega arith) ∙ (word_other m1 _ _ _ (omega arith) ∙ word_same m (base p) n.lo (omega arith) w.lo)

  w1 : word m3 (base p + 1) ≡ n.top
  w1 = word_other m2 _ _ _ (omega arith) ∙ word_same m1 (base p + 1) n.top (omega (arith, l1)) w.top

  w2 : word m3 (base p + 2) ≡ n.low
  w2 = word_same m2 (base p + 2) n.low (omega (arith, l2)) w.low

  w3 : word m3 (base p + 3) ≡ word m (base p + 3)
  w3 = word_other m2 _ _ _ (omega arith) ∙ (word_other m1 _ _ _ (omega arith) ∙ word_other m _ _ _ (omega arith))

  node_sums : node_at (sums_saved m p n) p ≡ with_sums n (node_at m p)
  unfolding sums_saved node_at
  node_sums = rw (w3, w0, w1, w2) refl

length_sums : (m : List ℕ) (p : ℕ) (n : Node) → length (sums_saved m p n) ≡ length m
unfolding sums_saved
length_sums m p n = simp length_store

pub sums_written : (m : List ℕ) (p : ℕ) (n : Node) → Within m p → Words n → Saved p (with_sums n (node_at m p)) m (sums_saved m p n)
sums_written m p n i w =
    record { at = node_sums m p n i w; kept = record { len = length_sums m p n; byte = λ b h. byte_sums m p n b (off p b i.1 i.3 h) } }

-- ---- and the fourth: height and place
module _ (m : List ℕ) (p : ℕ) (n : Node) (i : Within m p) (f : Fits n) (w : Words n) where
  abbrev M : List ℕ
  M = sums_saved m p n

  sum : {A : Type 0} (g : Node → A) → g (node_at M p) ≡ g (with_sums n (node_at m p))
  sum g = ap g (node_sums m p n i w)

  links : word (store M (base p + 3) (links_of n)) (base p + 3) ≡ links_of n
  links = word_same M (base p + 3) (links_of n) (omega (arith, length_sums m p n)) (omega arith)

  node_saved : node_at (saved m p n) p ≡ n
  unfolding saved node_at
  node_saved =
      let o : (j : ℕ) → j ≢ base p + 3 → word (store M (base p + 3) (links_of n)) j ≡ word M j = λ j h. word_other M (base p + 3) (links_of n) j h in
      let a : links_of n / half_word ≡ n.height = omega arith in
      let b : links_of n % half_word ≡ n.place = omega arith in
      rw (
        links,
        o (base p) (omega arith),
        o (base p + 1) (omega arith),
        o (base p + 2) (omega arith),
        sum (λ (z : Node). z.lo),
        sum (λ (z : Node). z.top),
        sum (λ (z : Node). z.low),
        a,
        b,
      ) refl

  byte_saved : (b : ℕ) → (b < 8 * base p) ⊎ (8 * base p + 32 ≤ b) → get_or (saved m p n) b 0 ≡ get_or m b 0
  unfolding saved
  byte_saved b (inl h) = byte_other M (base p + 3) (links_of n) b (inl (omega arith)) ∙ byte_sums m p n b (inl h)
  byte_saved b (inr h) = byte_other M (base p + 3) (links_of n) b (inr (omega arith)) ∙ byte_sums m p n b (inr h)

  saved_saved : Saved p n m (saved m p n)
  unfolding saved
  saved_saved =
      record { at = node_saved; kept = record { len = length_store M (base p + 3) (links_of n) ∙ length_sums m p n; byte = λ b h. byte_saved b (off p b i.1 i.3 h) } }

pub saved_of : (m m1 m2 : List ℕ) (p : ℕ) (n : Node) → m1 ≡ sums_saved m p n → m2 ≡ store m1 (base p + 3) (links_of n) → Within m p → Fits n → Words n → Saved p n m m2
unfolding saved
saved_of m m1 m2 p n e1 e2 i f w = rw (e2, e1) (saved_saved m p n i f w)

-- ---- a node copied: the sums and the links of another
pub copied_of : (m m1 m2 : List ℕ) (s s' links : ℕ) (n : Node) → n.lo ≡ word m (base s) → n.top ≡ word m (base s + 1) → n.low ≡ word m (base s + 2)
    → links ≡ word m (base s + 3) → links < 2 ^ 64 → Words n → m1 ≡ sums_saved m s' n → m2 ≡ store m1 (base s' + 3) links → Within m s' → Copied s s' m m2
unfolding node_at sums_saved
copied_of m m1 m2 s s' links n el et ew ek k w e1 e2 i =
    let f : Fits (node_at m s) = omega arith in
    let v : Words (node_at m s) = record { lo = omega (arith, w.lo); top = omega (arith, w.top); low = omega (arith, w.low) } in
    let o : links ≡ links_of (node_at m s) = omega arith in
    saved_of m m1 m2 s' (node_at m s) (rw (← el, ← et, ← ew) e1) (rw (← o) e2) i f v

-- ---- a node over two others
pub mended : (m m' : List ℕ) (p q : ℕ) (x y n : Node) → x ≡ node_at m q → y ≡ node_at m (q + 4) → n ≡ over_node x y q → Saved p n m m' → Over p q m m'
mended m m' p q x y n ex ey en s = rw (← ex, ← ey, ← en) s

pub below_by : {x y : Node} {h : ℕ} → x ≡ y → y.height < h → x.height < h
below_by e l = rw e l

pub over_fits : (x y n : Node) (q : ℕ) → n ≡ over_node x y q → x.height < half_word - 1 → y.height < half_word - 1 → q < half_word → Fits n
over_fits x y n q e hx hy hq = rw e (omega arith)
