-- What stands on a way while a change is carried up again, from the leaf to the root: the tree below the seat reached is changed,
-- above it all is as it was. What the two ways up ask and promise.
use Rattle.std.specs.Prelude.{◌≡◌, List, ℕ, ◌+◌, ◌≤◌, get_or}
use Rattle.node.specs.Layout.{node_at}
use Rattle.tracing.specs.Ways.{Way}
use Rattle.rising.specs.Changes.{Change, adding, cutting, ending, key_of, Ready, Becomes}

-- how many seats of the way a change takes away at its end
abbrev pub gone : Change → ℕ
gone (adding k e q) = 0
gone (cutting k) = 1
gone (ending k e) = 0

-- the change is carried up to the seat i of the way: the tree there is changed; above it all is as it was in m0
pub record Rising (c : Change) (m0 : List ℕ) (t d : ℕ) (ws : List ℕ) (i : ℕ) (m : List ℕ) : Type 0 where
  pub begun : Ready c m0 t
  pub way : Way m0 t (key_of c) d ws
  pub deep : i + gone c ≤ d
  pub is : Becomes c (get_or ws i 0) m0 m

-- and the tree there is as high as it was: above it only sums can change
pub record Settling (c : Change) (m0 : List ℕ) (t d : ℕ) (ws : List ℕ) (i : ℕ) (m : List ℕ) : Type 0 where
  pub rising : Rising c m0 t d ws i m
  pub high : (node_at m (get_or ws i 0)).height ≡ (node_at m0 (get_or ws i 0)).height

-- ---- what the two ways up ask and promise
abbrev pub Settled : List ℕ → (from : ℕ) → List ℕ → Type 0
Settled ws from m = (c : Change) × (m0 : List ℕ) × (t : ℕ) × (d : ℕ) × Settling c m0 t d ws from m

abbrev pub Settles : List ℕ → (from : ℕ) → (m m' : List ℕ) → Type 0
Settles ws from m m' = (c : Change) (m0 : List ℕ) (t d : ℕ) → Settling c m0 t d ws from m → Becomes c t m0 m'

-- setting an end turns nothing
abbrev pub Turned : Change → Type 0
Turned (adding k e q) = Unit {0}
Turned (cutting k) = Unit {0}
Turned (ending k e) = ⊥

abbrev pub Risen : List ℕ → (from : ℕ) → List ℕ → Type 0
Risen ws from m = (c : Change) × (m0 : List ℕ) × (t : ℕ) × (d : ℕ) × Turned c × Rising c m0 t d ws from m

abbrev pub Rises : List ℕ → (from : ℕ) → (m m' : List ℕ) → Type 0
Rises ws from m m' = (c : Change) (m0 : List ℕ) (t d : ℕ) → Turned c → Rising c m0 t d ws from m → Becomes c t m0 m'
