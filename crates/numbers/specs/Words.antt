-- Words of 64 bits in the lent memory: eight bytes, the lowest first.
-- Only this crate knows where a word's bytes stand; the crates above speak of `word` and `store`.
use Rattle.std.specs.Prelude.{List, ℕ, zero, suc, ◌+◌, ◌*◌, ◌/◌, ◌%◌, ◌<◌, get_or, set}

-- what lent memory is, and every byte string: each element is a byte
abbrev pub Bytes : List ℕ → Type 0
Bytes m = (b : ℕ) → get_or m b 0 < 256

-- the n bytes from the place a on, the lowest first, as one number
unfoldable pub low_first : ℕ → List ℕ → ℕ → ℕ
low_first zero m a = 0
low_first (suc n) m a = low_first n m (a + 1) * 256 + get_or m a 0

-- the memory with the n lowest bytes of v from the place a on
unfoldable pub written : ℕ → List ℕ → ℕ → ℕ → List ℕ
written zero m a v = m
written (suc n) m a v = written n (set m a (v % 256)) (a + 1) (v / 256)

-- word i of the memory
unfoldable pub word : List ℕ → ℕ → ℕ
word m i = low_first 8 m (8 * i)

-- the memory with v as its word i
unfoldable pub store : List ℕ → ℕ → ℕ → List ℕ
store m i v = written 8 m (8 * i) v
