-- The height allowed: "with m leaves the height, counted in edges, is at most twice the whole part of log2 m" (01).
use Rattle.std.specs.Prelude.{◌≡◌, ℕ, ◌*◌}
use Rattle.std.proofs.Common.{arith}
use Rattle.numbers.specs.Powers.{Log2, log2_one}

-- h is the greatest height allowed with m leaves
pub record Allowed (m h : ℕ) : Type 0 where
  pub whole : ℕ
  pub log : Log2 m whole
  pub twice : h ≡ 2 * whole

-- there is one
pub allowed_one : (m h k : ℕ) → Allowed m h → Allowed m k → h ≡ k
allowed_one m h k a b = omega (arith, log2_one m a.whole b.whole a.log b.log)
