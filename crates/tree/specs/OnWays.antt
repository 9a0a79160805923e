-- What the tree's functions ask and promise beyond a change of the whole tree (rising's Changes): an end set, the way being noted in part; the leaf
-- at the end of a way taken out; and which place a removal frees.
use Rattle.std.specs.Prelude.{◌≡◌, List, ℕ, ◌+◌, ◌*◌, ◌≤◌}
use Rattle.shape.specs.Tree.{Tree}
use Rattle.shape.specs.Arrange.{above}
use Rattle.node.specs.Layout.{Within, node_at}
use Rattle.tracing.specs.Alone.{Alone}
use Rattle.tracing.specs.Ways.{Way, Partway}
use Rattle.rising.specs.Changes.{adding, cutting, ending, Begun, Ready, Changed, Becomes}

-- ---- an end set, the way being noted in part
abbrev pub SetsOn : List ℕ → (d k e : ℕ) → (m m' : List ℕ) → Type 0
SetsOn ws d k e m m' = (t : ℕ) → Partway m t k d ws → Becomes (ending k e) t m m'

-- ---- a leaf put in: the place that it takes is inside
pub record Insertable (m : List ℕ) (t k e q : ℕ) : Type 0 where
  pub ready : Ready (adding k e q) m t
  pub left : Within m (8 * q)
  pub right : Within m (8 * q + 4)

-- its way being noted
abbrev pub Growable : List ℕ → (d k e q : ℕ) → List ℕ → Type 0
Growable ws d k e q m = (t : ℕ) × Way m t k d ws × Insertable m t k e q

abbrev pub Grows : List ℕ → (d k e q : ℕ) → (m m' : List ℕ) → Type 0
Grows ws d k e q m m' = (t : ℕ) → Way m t k d ws → Insertable m t k e q → Becomes (adding k e q) t m m'

-- beside the leaf at seat s
pub record Grafting (m : List ℕ) (s k e q : ℕ) : Type 0 where
  pub able : Insertable m s k e q
  pub leaf : (node_at m s).height ≡ 0

-- ---- a leaf taken out: which place is free again
abbrev pub Removes : (t k q : ℕ) → (m m' : List ℕ) → Type 0
Removes t k q m m' = (tr : Tree) → Begun (cutting k) m t tr → (q ≡ above k tr) × Changed (cutting k) t tr m m'

-- at the end of a way
abbrev pub Cuttable : List ℕ → (d k : ℕ) → List ℕ → Type 0
Cuttable ws d k m = (t : ℕ) × Way m t k d ws × (1 ≤ (node_at m t).height) × Alone m t

abbrev pub Cuts : List ℕ → (d k q : ℕ) → (m m' : List ℕ) → Type 0
Cuts ws d k q m m' = (t : ℕ) → Way m t k d ws → 1 ≤ (node_at m t).height → Alone m t → Removes t k q m m'
