-- The laws of words: what a store leaves at its own word, at another word, at every other byte, and of the length.
-- Each is stated once, over the number of bytes, and cited by every crate above.
use mathlib.Core.Path.{◌≡◌, refl, ◌∙◌}
use mathlib.Core.Logic.{◌⊎◌, inl, inr, ◌≢◌}
use mathlib.Core.List.{List}
use Prim.Native.Nat.{ℕ, zero, suc, ◌+◌, ◌*◌, ◌/◌, ◌%◌, ◌^◌, ◌<◌, ◌≤◌}
use native.Mathlib.Decide.{dec_lt}
use native.Mathlib.Omega.{arith}
use lib.ListN.{length, get_or, set, length-set}
use lib.Seq.{get_or-set_same, get_or-set_other}
use Rattle.numbers.specs.Words.{low_first, written, word, store}

length_written : (n : ℕ) (m : List ℕ) (a v : ℕ) → length (written n m a v) ≡ length m
unfolding written
length_written zero m a v = refl
length_written (suc n) m a v = length_written n (set m a (v % 256)) (a + 1) (v / 256) ∙ length-set m a (v % 256)

-- a byte that is not among the n is as it was
outside : (n : ℕ) (m : List ℕ) (a v b : ℕ) → (b < a) ⊎ (a + n ≤ b) → get_or (written n m a v) b 0 ≡ get_or m b 0
unfolding written
outside zero m a v b h = refl
outside (suc n) m a v b (inl h) = outside n (set m a (v % 256)) (a + 1) (v / 256) b (inl (omega arith)) ∙ get_or-set_other m a b (v % 256) 0 (omega arith)
outside (suc n) m a v b (inr h) = outside n (set m a (v % 256)) (a + 1) (v / 256) b (inr (omega arith)) ∙ get_or-set_other m a b (v % 256) 0 (omega arith)

-- a number is what its bytes make it
low_first_cong : (n : ℕ) (m k : List ℕ) (a : ℕ) → ((b : ℕ) → a ≤ b → b < a + n → get_or m b 0 ≡ get_or k b 0) → low_first n m a ≡ low_first n k a
unfolding low_first
low_first_cong zero m k a h = refl
low_first_cong (suc n) m k a h =
    let e = low_first_cong n m k (a + 1) (λ b p q. h b (omega arith) (omega arith)) in
    let g = h a (omega arith) (omega arith) in
    rw (e, g)

-- 256 to the n
bound : ℕ → ℕ
bound zero = 1
bound (suc n) = 256 * bound n

low_first_written : (n : ℕ) (m : List ℕ) (a v : ℕ) → a + n ≤ length m → v < bound n → low_first n (written n m a v) a ≡ v
unfolding low_first written bound
low_first_written zero m a v fit lt = omega arith
low_first_written (suc n) m a v fit lt =
    let m' = set m a (v % 256) in
    let e = low_first_written n m' (a + 1) (v / 256) (simp length-set (omega arith)) (omega arith) in
    let g = outside n m' (a + 1) (v / 256) a (inl (omega arith)) ∙ get_or-set_same m a (v % 256) 0 (omega arith) in
    rw (e, g) (omega arith)

-- the word stored is there
pub word_same : (m : List ℕ) (i v : ℕ) → 8 * i + 8 ≤ length m → v < 2 ^ 64 → word (store m i v) i ≡ v
unfolding bound word store
word_same m i v fit lt = low_first_written 8 m (8 * i) v fit lt

-- every byte outside the word is as it was
pub byte_other : (m : List ℕ) (i v b : ℕ) → (b < 8 * i) ⊎ (8 * i + 8 ≤ b) → get_or (store m i v) b 0 ≡ get_or m b 0
unfolding store
byte_other m i v b h = outside 8 m (8 * i) v b h

-- and so is every other word
pub word_other : (m : List ℕ) (i v j : ℕ) → j ≢ i → word (store m i v) j ≡ word m j
unfolding word
word_other m i v j h =
    low_first_cong 8 (store m i v) m (8 * j)
    (λ b p q. elim (dec_lt j i) [ yes l ↦ byte_other m i v b (inl (omega arith)) | no l ↦ byte_other m i v b (inr (omega arith)) ])

-- a word is what its eight bytes make it
pub word_cong : (m k : List ℕ) (i : ℕ) → ((b : ℕ) → 8 * i ≤ b → b < 8 * i + 8 → get_or m b 0 ≡ get_or k b 0) → word m i ≡ word k i
unfolding word
word_cong m k i h = low_first_cong 8 m k (8 * i) h

pub length_store : (m : List ℕ) (i v : ℕ) → length (store m i v) ≡ length m
unfolding store
length_store m i v = length_written 8 m (8 * i) v
