-- The height rule of 01 (The tree and its visits) follows from the team's balancing rule: with height h there are
-- at least 2^((h+1)/2) leaves.
use Rattle.std.specs.Prelude.{◌≡◌, ℕ, suc, ◌+◌, ◌*◌, ◌/◌, ◌^◌, ◌≤◌, max, ◌<◌}
use Rattle.std.proofs.Common.{inl, inr, arith, pow_mono}
use Rattle.numbers.specs.Case.{case_le}
use Rattle.numbers.specs.Powers.{Log2}
use Rattle.shape.specs.Tree.{Tree, leaf, node, height, size, HeightRule, Balanced}

pub leaves_least : (t : Tree) → Balanced t → 2 ^ ((height t + 1) / 2) ≤ size t
leaves_least (leaf k e) b = omega arith
leaves_least (node p l r) b =
    let m = max (height l) (height r) in
    let e : (m + 1 + 1) / 2 ≡ suc (m / 2) = omega arith in
    let u : m / 2 ≤ (height l + 1) / 2 = omega arith in
    let v : m / 2 ≤ (height r + 1) / 2 = omega arith in
    rw e (omega (arith, leaves_least l b.0, leaves_least r b.1, pow_mono u, pow_mono v))

pub height_log : (t : Tree) (w : ℕ) → Balanced t → Log2 (size t) w → height t ≤ 2 * w
height_log t w b x = elim (case_le (height t) (2 * w)) [
  | inl y ↦ y.0
  | inr y ↦ let u : w + 1 ≤ (height t + 1) / 2 = omega arith in absurd (omega (arith, leaves_least t b, pow_mono u, x.high))
]

-- a tree of at most 2^15 leaves is lower than 32
pub height_few : (t : Tree) → Balanced t → size t ≤ 32768 → height t < 32
height_few t b h = elim (case_le 32 (height t)) [
  | inl y ↦ let u : 16 ≤ (height t + 1) / 2 = omega arith in absurd (omega (arith, leaves_least t b, pow_mono u))
  | inr y ↦ y.0
]

-- "with m leaves the height, counted in edges, is at most twice the whole part of log2 m"
pub height_allowed : (t : Tree) → Balanced t → HeightRule t
height_allowed t b h x = omega (arith, height_log t x.whole b x.log)
