-- What the contracts leave open: nothing. A tree and a frame fix every byte, so two memories that meet both are one.
use mathlib.Core.Path.{◌≡◌, sym, ap, ◌∙◌}
use mathlib.Core.Logic.{◌⊎◌, inl, inr}
use mathlib.Core.List.{List}
use Prim.Native.Nat.{ℕ, zero, suc, ◌+◌, ◌*◌, ◌-◌, ◌/◌, ◌%◌, ◌≤◌, ◌<◌}
use native.Mathlib.Decide.{dec_lt}
use native.Mathlib.Omega.{arith}
use lib.ListN.{get_or}
use lib.Seq.{ext_get_or}
use Rattle.numbers.specs.Words.{Bytes, low_first, word}
use Rattle.shape.specs.Tree.{Tree, leaf, node, uses}
use Rattle.node.specs.declared.Node.{Node}
use Rattle.node.specs.Layout.{base, node_at, links_of, seat_of, Kept}
use Rattle.node.specs.Rep.{Stands}
use Rattle.shape.specs.PlaceLaws.{same_is}
use Rattle.node.proofs.Reps.{seen, left_stands, right_stands}

-- ---- equal numbers have equal bytes
low_first_bytes : (n : ℕ) (m m' : List ℕ) (a : ℕ) → Bytes m → Bytes m' → low_first n m a ≡ low_first n m' a → (i : ℕ) → i < n → get_or m (a + i) 0 ≡ get_or m' (a + i) 0
unfolding low_first
low_first_bytes zero m m' a x y e i h = absurd (omega arith)
low_first_bytes (suc n) m m' a x y e zero h =
    let g : get_or m a 0 ≡ get_or m' a 0 = omega (arith, x a, y a) in
    let k : a + 0 ≡ a = omega arith in
    rw k g
low_first_bytes (suc n) m m' a x y e (suc i) h =
    let k : a + 1 + i ≡ a + suc i = omega arith in
    rw k at (low_first_bytes n m m' (a + 1) x y (omega (arith, x a, y a)) i (omega arith))

pub word_bytes : (m m' : List ℕ) → Bytes m → Bytes m' → (b : ℕ) → word m (b / 8) ≡ word m' (b / 8) → get_or m b 0 ≡ get_or m' b 0
unfolding word
word_bytes m m' x y b e =
    let k : 8 * (b / 8) + b % 8 ≡ b = omega arith in
    rw k at (low_first_bytes 8 m m' (8 * (b / 8)) x y e (b % 8) (omega arith))

-- ---- equal nodes have equal words
links_of_lem : (m : List ℕ) (z : ℕ) → links_of (node_at m z) ≡ word m (base z + 3)
unfolding node_at
links_of_lem m z = omega arith

node_words : (m m' : List ℕ) (z i : ℕ) → node_at m z ≡ node_at m' z → i < 4 → word m (base z + i) ≡ word m' (base z + i)
unfolding node_at
node_words m m' z zero e h = let k : base z + 0 ≡ base z = omega arith in rw k (ap (λ (n : Node). n.lo) e)
node_words m m' z (suc zero) e h = ap (λ (n : Node). n.top) e
node_words m m' z (suc (suc zero)) e h = ap (λ (n : Node). n.low) e
node_words m m' z (suc (suc (suc zero))) e h = sym (links_of_lem m z) ∙ ap links_of e ∙ links_of_lem m' z
node_words m m' z (suc (suc (suc (suc i)))) e h = absurd (omega arith)

pub node_bytes : (m m' : List ℕ) → Bytes m → Bytes m' → (b : ℕ) → 224 ≤ b → node_at m (seat_of b) ≡ node_at m' (seat_of b) → get_or m b 0 ≡ get_or m' b 0
node_bytes m m' x y b h e =
    let k : base (seat_of b) + (b - 192) % 32 / 8 ≡ b / 8 = omega arith in
    word_bytes m m' x y b (rw k at (node_words m m' (seat_of b) ((b - 192) % 32 / 8) e (omega arith)))

-- ---- a tree's nodes are fixed: its own, and those at its places
pub own_same : (t : Tree) (m m' : List ℕ) (s : ℕ) → Stands m s t → Stands m' s t → node_at m s ≡ node_at m' s
own_same t m m' s r r' = seen r ∙ sym (seen r')

pub stands_same : (t : Tree) (m m' : List ℕ) (s z : ℕ) → z % 4 ≡ 0 → Stands m s t → Stands m' s t → 1 ≤ uses (z / 8) t → node_at m z ≡ node_at m' z
stands_same (leaf k e) m m' s z v r r' h = absurd (omega arith)
stands_same (node q a b) m m' s z v r r' h = elim (dec_lt 0 (uses (z / 8) a)) [
  | yes y ↦ stands_same a m m' (8 * q) z v (left_stands r) (left_stands r') y
  | no y ↦ elim (dec_lt 0 (uses (z / 8) b)) [
    | yes x ↦ stands_same b m m' (8 * q + 4) z v (right_stands r) (right_stands r') x
    | no x ↦ let g : z / 8 ≡ q = same_is (z / 8) q (omega arith) in elim (dec_lt (8 * q) z) [
      | yes l ↦ let e : z ≡ 8 * q + 4 = omega arith in rw e (own_same b m m' (8 * q + 4) (right_stands r) (right_stands r'))
      | no l ↦ let e : z ≡ 8 * q = omega arith in rw e (own_same a m m' (8 * q) (left_stands r) (left_stands r'))
    ]
  ]
]

-- two memories after one, with the same tree in them, and written only at its seat and its places
pub determined : (n : ℕ → ℕ) (t : Tree) (s : ℕ) (m m' m'' : List ℕ) → ((z : ℕ) → 1 ≤ n z → (z ≡ s) ⊎ (1 ≤ uses (z / 8) t)) → Bytes m' → Bytes m''
    → Stands m' s t → Kept n m m' → Stands m'' s t → Kept n m m'' → m' ≡ m''
determined n t s m m' m'' on x y r f r' g =
    ext_get_or 0 m' m'' (f.len ∙ sym g.len) (λ b l. elim (dec_lt b 224) [
      | yes h ↦ f.byte b (inl h) ∙ sym (g.byte b (inl h))
      | no h ↦ elim (dec_lt 0 (n (seat_of b))) [
        | yes u ↦ node_bytes m' m'' x y b (omega arith) (at (seat_of b) (omega arith) (on (seat_of b) u))
        | no u ↦ let z : n (seat_of b) ≡ 0 = omega arith in f.byte b (inr z) ∙ sym (g.byte b (inr z))
      ]
    ])
  where
    at : (z : ℕ) → z % 4 ≡ 0 → (z ≡ s) ⊎ (1 ≤ uses (z / 8) t) → node_at m' z ≡ node_at m'' z
    at z v (inl e) = rw e (own_same t m' m'' s r r')
    at z v (inr h) = stands_same t m' m'' s z v r r' h
