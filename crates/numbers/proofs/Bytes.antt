-- The eight bytes of a word, as the library's methods on an array of them read and write them.
use Rattle.std.specs.Prelude.{◌≡◌, List, ℕ, ◌+◌, ◌*◌, ◌/◌, ◌<◌, take, drop, get_or, set, slice_index}
use Rattle.std.specs.Int.{w64, to_le_bytes, from_le_bytes}
use Rattle.std.proofs.Common.{arith, ◌∙◌}
use lib.Seq.{get_or-take, get_or-drop}
use Rattle.numbers.specs.Words.{low_first, written}

-- a byte of the part
part_at : (m : List ℕ) (a k : ℕ) → k < 8 → slice_index (take 8 (drop a m)) k ≡ get_or m (a + k) 0
part_at m a k h = get_or-take 8 (drop a m) k 0 h ∙ get_or-drop a m k 0

low_first_8 : (m : List ℕ) (a : ℕ) → low_first 8 m a ≡ (((((((get_or m (a + 7) 0 * 256 + get_or m (a + 6) 0) * 256 + get_or m (a + 5) 0) * 256 + get_or m (a + 4) 0) * 256 + get_or m (a + 3) 0) * 256 + get_or m (a + 2) 0) * 256 + get_or m (a + 1) 0) * 256 + get_or m a 0)
unfolding low_first
low_first_8 m a =
    let e2 : a + 1 + 1 ≡ a + 2 = omega arith in
    let e3 : a + 2 + 1 ≡ a + 3 = omega arith in
    let e4 : a + 3 + 1 ≡ a + 4 = omega arith in
    let e5 : a + 4 + 1 ≡ a + 5 = omega arith in
    let e6 : a + 5 + 1 ≡ a + 6 = omega arith in
    let e7 : a + 6 + 1 ≡ a + 7 = omega arith in
    rw (e2, e3, e4, e5, e6, e7) (omega arith)

pub reads : (m : List ℕ) (a : ℕ) → from_le_bytes w64 (take 8 (drop a m)) ≡ low_first 8 m a
reads m a =
    let e0 : a + 0 ≡ a = omega arith in
    rw (
      part_at m a 0 (omega arith),
      e0,
      part_at m a 1 (omega arith),
      part_at m a 2 (omega arith),
      part_at m a 3 (omega arith),
      part_at m a 4 (omega arith),
      part_at m a 5 (omega arith),
      part_at m a 6 (omega arith),
      part_at m a 7 (omega arith),
      low_first_8 m a,
    ) (omega arith)

-- what is written over the eight bytes, one by one
pub writes : (a : ℕ) (m b : List ℕ) (v : ℕ) → b ≡ to_le_bytes w64 v
    → set (set (set (set (set (set (set (set m a (get_or b 0 0)) (a + 1) (get_or b 1 0)) (a + 2) (get_or b 2 0)) (a + 3) (get_or b 3 0)) (a + 4) (get_or b 4 0)) (a + 5) (get_or b 5 0)) (a + 6) (get_or b 6 0)) (a + 7) (get_or b 7 0)
    ≡ written 8 m a v
unfolding written
writes a m b v e =
    let e2 : a + 1 + 1 ≡ a + 2 = omega arith in
    let e3 : a + 2 + 1 ≡ a + 3 = omega arith in
    let e4 : a + 3 + 1 ≡ a + 4 = omega arith in
    let e5 : a + 4 + 1 ≡ a + 5 = omega arith in
    let e6 : a + 5 + 1 ≡ a + 6 = omega arith in
    let e7 : a + 6 + 1 ≡ a + 7 = omega arith in
    let d2 : v / 256 / 256 ≡ v / 65536 = omega arith in
    let d3 : v / 65536 / 256 ≡ v / 16777216 = omega arith in
    let d4 : v / 16777216 / 256 ≡ v / 4294967296 = omega arith in
    let d5 : v / 4294967296 / 256 ≡ v / 1099511627776 = omega arith in
    let d6 : v / 1099511627776 / 256 ≡ v / 281474976710656 = omega arith in
    let d7 : v / 281474976710656 / 256 ≡ v / 72057594037927936 = omega arith in
    rw (e, e2, e3, e4, e5, e6, e7, d2, d3, d4, d5, d6, d7)
