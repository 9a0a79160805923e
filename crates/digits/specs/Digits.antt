-- Numbers in a record: "Numbers are most significant byte first" (01, Records).
-- One definition for every width.
use Rattle.std.specs.Prelude.{List, [], ◌∷◌, ℕ, ◌+◌, ◌*◌, take, drop}

-- the number whose digits so far make a, and which goes on with these bytes
unfoldable pub goes_on : ℕ → List ℕ → ℕ
goes_on a [] = a
goes_on a (b ∷ bs) = goes_on (a * 256 + b) bs

-- the number that the bytes write, the most significant first
unfoldable pub digits : List ℕ → ℕ
digits bytes = goes_on 0 bytes

-- the number in the n bytes from the place i on
abbrev pub field : ℕ → ℕ → List ℕ → ℕ
field i n bytes = digits (take n (drop i bytes))
