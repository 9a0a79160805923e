-- The delays of an opening, read one by one into an array: after i of them the first i are the record's.
use mathlib.Core.Path.{◌≡◌, sym, ◌∙◌}
use mathlib.Core.Logic.{inl, inr}
use mathlib.Core.List.{List}
use Prim.Native.Nat.{ℕ, ◌+◌, ◌*◌, ◌≤◌, ◌<◌}
use native.Mathlib.Omega.{arith}
use lib.ListN.{length, take, get_or, set, length-take}
use lib.Seq.{ext_get_or, get_or-take, get_or-set_same, get_or-set_other}
use Rattle.numbers.specs.Case.{case_eq}
use Rattle.order.specs.Records.{delays_at}
use Rattle.order.specs.Read.{delay_of}
use Rattle.order.specs.Delays.{delays_length, delay_is}

unfoldable pub First : (i n : ℕ) → (ds bytes : List ℕ) → Type 0
First i n ds bytes = (k : ℕ) → k < i → get_or ds k 0 ≡ get_or (delays_at 14 n bytes) k 0

pub one_more : (i n v : ℕ) (ds bytes : List ℕ) → i < n → n ≤ 16 → 14 + 4 * n ≤ length bytes → length ds ≡ 16 → v ≡ delay_of i bytes → First i n ds bytes → First (i + 1) n (set ds i v) bytes
unfolding First
one_more i n v ds bytes h l r w e f k lt = elim (case_eq k i) [
  | inl y ↦ rw y.0 (get_or-set_same ds i v 0 (omega arith) ∙ (e ∙ delay_is n i bytes h (omega arith) r))
  | inr y ↦ get_or-set_other ds i k v 0 y.0 ∙ f k (let z : k < i = go k i y.0 lt in z)
]
  where
    go : (k i : ℕ) → (k ≡ i → ⊥) → k < i + 1 → k < i
    go k i ne lt = omega arith

pub none_yet : (n : ℕ) (ds bytes : List ℕ) → First 0 n ds bytes
unfolding First
none_yet n ds bytes k h = absurd (omega arith)

pub all_of_them : (i n : ℕ) (ds bytes : List ℕ) → i ≤ n → n ≤ i → n ≤ 16 → length ds ≡ 16 → First i n ds bytes → take n ds ≡ delays_at 14 n bytes
unfolding First
all_of_them i n ds bytes g u l w f =
    let a : length (take n ds) ≡ n = simp length-take (omega arith) in
    ext_get_or 0 (take n ds) (delays_at 14 n bytes) (a ∙ sym (delays_length 14 n bytes)) (λ k h. get_or-take n ds k 0 (omega arith) ∙ f k (omega arith))
