-- The way from a root down to the leaf that a key leads to, as a list of seats;
-- and what noting it asks and promises.
use Rattle.std.specs.Prelude.{◌≡◌, List, ℕ, suc, ◌+◌, ◌≤◌, ◌<◌, ltb, length, get_or}
use Rattle.shape.specs.Side.{near}
use Rattle.node.specs.Layout.{node_at}
use Rattle.node.specs.Paths.{longest_way}
use Rattle.tracing.specs.Alone.{Alone}

-- from the inner node at w the key leads to the seat x: to the left exactly if it is below the least key on the right
pub record Leads (m : List ℕ) (k w x : ℕ) : Type 0 where
  pub inner : (node_at m w).height ≡ 0 → ⊥
  pub to : x ≡ near (ltb k (node_at m ((node_at m w).place + 4)).lo) (node_at m w).place ((node_at m w).place + 4)

-- the first d + 1 seats of the list are the way of the key from t down to a leaf
pub record Way (m : List ℕ) (t k d : ℕ) (ws : List ℕ) : Type 0 where
  pub long : d < length ws
  pub short : d < longest_way
  pub first : get_or ws 0 0 ≡ t
  pub leads : (i : ℕ) → i < d → Leads m k (get_or ws i 0) (get_or ws (suc i) 0)
  pub last : (node_at m (get_or ws d 0)).height ≡ 0

-- the first d + 1 seats of the list are the way from t of every key from b on and below c
abbrev pub Serves : (m : List ℕ) → (t b c d : ℕ) → (ws : List ℕ) → Type 0
Serves m t b c d ws = (k : ℕ) → b ≤ k → k < c → Way m t k d ws

-- the first d + 1 seats are the beginning of the key's way from t
pub record Partway (m : List ℕ) (t k d : ℕ) (ws : List ℕ) : Type 0 where
  pub long : longest_way ≤ length ws
  pub first : get_or ws 0 0 ≡ t
  pub leads : (i : ℕ) → i < d → Leads m k (get_or ws i 0) (get_or ws (suc i) 0)
  pub alone : Alone m t

abbrev pub Begins : List ℕ → (k d : ℕ) → List ℕ → Type 0
Begins m k d ws = (t : ℕ) × Partway m t k d ws

abbrev pub Traces : List ℕ → (k d d' : ℕ) → (ws ws' : List ℕ) → Type 0
Traces m k d d' ws ws' = (t : ℕ) → Partway m t k d ws → Way m t k d' ws'
