-- How many voids of a tree hold a tick.
use Rattle.std.specs.Prelude.{ℕ}
use Rattle.rule.specs.Key.{start_of, channel_of}
use Rattle.shape.specs.Tree.{Tree, weight}
use Rattle.state.specs.History.{on}

-- 1 where the void of the leaf k e holds the tick t of channel c, else 0
unfoldable pub cov : (c t k e : ℕ) → ℕ
cov c t k e = on c t (channel_of k) (start_of k) e

-- what the leaves of a tree come to
abbrev pub total : ((k e : ℕ) → ℕ) → Tree → ℕ
total w t = weight w (λ q. 0) t

abbrev pub cover : Tree → (c s : ℕ) → ℕ
cover t c s = total (cov c s) t
