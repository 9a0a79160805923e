-- The three parts that make a memory a whole link: the header (settled/specs/Settled.antt), the tree (survey/specs/Planted.antt)
-- and the list of spare places. That each place is used once follows from them (proofs/Wholeness.antt): no part says it.
use Rattle.std.specs.Prelude.{◌≡◌, List, ℕ, zero, suc, ◌+◌, ◌*◌, ◌-◌, ◌≤◌, ◌<◌}
use Rattle.numbers.specs.Words.{word}
use Rattle.node.specs.Layout.{node_at, leaf_node}
use Rattle.state.specs.State.{places}
use Rattle.memory.specs.Holds.{spare_node}

-- from `at` on, k spare places below n, each with the number of those after it; 0 after the last
unfoldable pub Threads : List ℕ → (n k at : ℕ) → Type 0
Threads m n zero at = at ≡ 0
Threads m n (suc k) at =
    (1 ≤ at) × (at < n) × (node_at m (8 * at) ≡ spare_node k (node_at m (8 * at)).place) × (node_at m (8 * at + 4) ≡ leaf_node 0 0) × Threads m n k (node_at m (8 * at)).place

-- how many spare places there are, beside so many voids
abbrev pub spare_many : (room kept : ℕ) → ℕ
spare_many room kept = room + 1 - kept

abbrev pub Spared : List ℕ → Type 0
Spared m = Threads m (places (word m 0)) (spare_many (word m 0) (word m 6)) (word m 7)
