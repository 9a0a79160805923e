-- The laws of the frame: what `Kept` keeps, and how two changes in a row make one.
-- n z counts how often the seat z may have been written.
use mathlib.Core.Path.{◌≡◌, refl, ◌∙◌}
use mathlib.Core.Logic.{◌⊎◌, inl, inr}
use mathlib.Core.List.{List}
use Prim.Native.Nat.{ℕ, ◌+◌, ◌%◌, ◌≤◌, ◌<◌}
use native.Mathlib.Omega.{arith}
use lib.ListN.{get_or}
use Rattle.numbers.specs.Words.{word}
use Rattle.numbers.proofs.WordLaws.{word_cong}
use Rattle.node.specs.Layout.{base, node_at, seat_of, Kept, Within}

pub kept_none : (n : ℕ → ℕ) (m : List ℕ) → Kept n m m
kept_none n m = record { len = refl; byte = λ b h. refl }

-- two changes in a row, of seats that k counts
pub kept_then : {n n' k : ℕ → ℕ} {m m' m'' : List ℕ} → Kept n m m' → Kept n' m' m'' → ((z : ℕ) → k z ≡ 0 → (n z ≡ 0) × (n' z ≡ 0)) → Kept k m m''
kept_then {n} {n'} {k} {m} {m'} {m''} f g h = record { len = g.len ∙ f.len; byte = λ b c. go b c }
  where
    go : (b : ℕ) → (b < 224) ⊎ (k (seat_of b) ≡ 0) → get_or m'' b 0 ≡ get_or m b 0
    go b (inl c) = g.byte b (inl c) ∙ f.byte b (inl c)
    go b (inr c) = g.byte b (inr (h (seat_of b) c).1) ∙ f.byte b (inr (h (seat_of b) c).0)

-- more seats may have been written
pub kept_less : {n k : ℕ → ℕ} {m m' : List ℕ} → Kept n m m' → ((z : ℕ) → k z ≡ 0 → n z ≡ 0) → Kept k m m'
kept_less {n} {k} {m} {m'} f h = record { len = f.len; byte = λ b c. go b c }
  where
    go : (b : ℕ) → (b < 224) ⊎ (k (seat_of b) ≡ 0) → get_or m' b 0 ≡ get_or m b 0
    go b (inl c) = f.byte b (inl c)
    go b (inr c) = f.byte b (inr (h (seat_of b) c))

module _ (n : ℕ → ℕ) (m m' : List ℕ) (f : Kept n m m') where
  -- the header
  pub word_kept : (j : ℕ) → j < 28 → word m' j ≡ word m j
  word_kept j h = word_cong m' m j (λ b p q. f.byte b (inl (omega arith)))

  -- a word of the node at z
  at_seat : (z j : ℕ) → z % 4 ≡ 0 → n z ≡ 0 → base z ≤ j → j < base z + 4 → word m' j ≡ word m j
  at_seat z j a h u v =
      word_cong m' m j (λ b p q. let e : seat_of b ≡ z = omega arith in f.byte b (inr (rw e h)))

  -- a node
  pub node_kept : (z : ℕ) → z % 4 ≡ 0 → n z ≡ 0 → node_at m' z ≡ node_at m z
  unfolding node_at
  node_kept z a h =
      let e : (j : ℕ) → base z ≤ j → j < base z + 4 → word m' j ≡ word m j = λ j. at_seat z j a h in
      rw (e (base z) (omega arith) (omega arith), e (base z + 1) (omega arith) (omega arith), e (base z + 2) (omega arith) (omega arith), e (base z + 3) (omega arith) (omega arith))

  pub within_kept : (s : ℕ) → Within m s → Within m' s
  within_kept s w = omega (arith, f.len)
