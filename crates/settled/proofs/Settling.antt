-- The header's delays as a list.
use mathlib.Core.Path.{◌≡◌, refl, ap}
use mathlib.Core.List.{List, [], ◌∷◌}
use Prim.Native.Nat.{ℕ, zero, suc, ◌+◌, ◌<◌}
use native.Mathlib.Omega.{arith}
use lib.ListN.{length, get_or}
use Rattle.std.specs.Prelude.{map}
use Rattle.numbers.specs.Words.{word}
use Rattle.std.specs.List.{range_with_len}
use Rattle.settled.specs.Settled.{listed}

-- ---- words as a list
pub length_listed : (n : ℕ) (m : List ℕ) (a : ℕ) → length (listed n m a) ≡ n
unfolding listed
length_listed zero m a = refl
length_listed (suc n) m a = ap suc (length_listed n m (a + 1))

pub listed_at : (n : ℕ) (m : List ℕ) (a i : ℕ) → i < n → get_or (listed n m a) i 0 ≡ word m (a + i)
unfolding listed
listed_at zero m a i h = absurd (omega arith)
listed_at (suc n) m a zero h = let e : a + 0 ≡ a = omega arith in rw e
listed_at (suc n) m a (suc i) h = let e : a + suc i ≡ a + 1 + i = omega arith in rw e (listed_at n m (a + 1) i (omega arith))

-- words that are a list's
pub listed_is : (xs : List ℕ) (m : List ℕ) (a : ℕ) → ((i : ℕ) → i < length xs → word m (a + i) ≡ get_or xs i 0) → listed (length xs) m a ≡ xs
unfolding listed
listed_is [] m a h = refl
listed_is (x ∷ xs) m a h =
    let e : a + 0 ≡ a = omega arith in
    let u : word m a ≡ x = rw e at (h 0 (omega arith)) in
    let v : listed (length xs) m (a + 1) ≡ xs = listed_is xs m (a + 1) (λ i l. let g : a + 1 + i ≡ a + suc i = omega arith in rw g (h (suc i) (omega arith))) in
    rw (u, v)

-- words that are read one after the other
pub listed_map : (m : List ℕ) (n a k : ℕ) → map (λ i. word m (a + i)) (range_with_len k n) ≡ listed n m (a + k)
unfolding listed
listed_map m zero a k = refl
listed_map m (suc n) a k = let e : a + (k + 1) ≡ a + k + 1 = omega arith in ap (λ ws. word m (a + k) ∷ ws) (rw e at (listed_map m n a (k + 1)))
