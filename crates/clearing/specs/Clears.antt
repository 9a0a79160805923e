-- What clearing promises in memory: what is left of a tree is what shape's Clear says, the places that came free are the first spare ones, and
-- nothing else has changed.
use Rattle.std.specs.Prelude.{◌≡◌, ◌≢◌, Bool, true, false, List, ◌++◌, ℕ, ◌+◌, ◌/◌, ◌%◌, ◌≤◌, ◌<◌, length, get_or}
use Rattle.numbers.specs.Words.{word}
use Rattle.shape.specs.Tree.{Tree, size, height, same, uses, In, Balanced}
use Rattle.shape.specs.Clear.{Rest, gone, rest, clear, freed}
use Rattle.node.specs.Layout.{header_words, bytes_for, highest, node_at, most_places}
use Rattle.node.specs.Rep.{Stands}
use Rattle.state.specs.State.{State, first}
use Rattle.state.specs.Sound.{among, below}
use Rattle.state.specs.Act.{cleared}
use Rattle.memory.specs.Holds.{Spares, Past, After}
use Rattle.memory.specs.Steps.{Link}

-- m has the header h, but for the first spare place, and the spare places ps; past its n places all is as it was in m0
pub record Ground (m0 m : List ℕ) (n : ℕ) (h ps : List ℕ) : Type 0 where
  pub some : 1 ≤ n
  pub small : n ≤ most_places
  pub long : bytes_for n ≤ length m
  pub heads : (j : ℕ) → j < header_words → j ≢ 7 → word m j ≡ get_or h j 0
  pub next : word m 7 ≡ first ps
  pub spare : Spares m ps
  pub past : Past (bytes_for n) m0 m

-- and the tree t at the seat s; no place is used twice, and s is at none of them
pub record Site (n : ℕ) (h m : List ℕ) (s : ℕ) (t : Tree) (ps : List ℕ) : Type 0 where
  pub ground : Ground m m n h ps
  pub stands : Stands m s t
  pub even : Balanced t
  pub low : height t ≤ highest
  pub once : (z : ℕ) → same z (s / 8) + uses z t + among z ps ≤ below z n
  pub few : length ps + size t ≤ 65536

-- what the code says is left of a tree: nothing, or a tree at its seat; and how many places are spare now
pub record Left : Type 0 where
  pub gone : Bool
  pub spare : ℕ

-- what it says is left at the seat s
abbrev pub LeftAt : List ℕ → (s : ℕ) → Left → Rest → Type 0
LeftAt m s x gone = x.gone ≡ true
LeftAt m s x (rest u) = (x.gone ≡ false) × Stands m s u

pub record Cleaned (b n : ℕ) (h m : List ℕ) (s : ℕ) (t : Tree) (ps : List ℕ) (x : Left) (m' : List ℕ) : Type 0 where
  pub ground : Ground m m' n h (freed b t ++ ps)
  pub left : LeftAt m' s x (clear b t)
  pub many : x.spare ≡ length (freed b t ++ ps)
  -- no node outside the tree was written
  pub nodes : (z : ℕ) → z % 4 ≡ 0 → same z s + uses (z / 8) t ≡ 0 → node_at m' z ≡ node_at m z

abbrev pub Clearable : List ℕ → (s k : ℕ) → Type 0
Clearable m s k = (n : ℕ) × (h : List ℕ) × (t : Tree) × (ps : List ℕ) × Site n h m s t ps × (k ≡ length ps)

abbrev pub Cleans : (b s k : ℕ) → Left → (m m' : List ℕ) → Type 0
Cleans b s k x m m' = (n : ℕ) (h : List ℕ) (t : Tree) (ps : List ℕ) → Site n h m s t ps → k ≡ length ps → Cleaned b n h m s t ps x m'

-- ---- a whole link, in which a void ends at the bound or later
pub record Lasting (bound : ℕ) (m : List ℕ) (s : State) : Type 0 where
  pub link : Link m s
  pub key : ℕ
  pub end : ℕ
  pub inside : In key end s.tree
  pub late : bound ≤ end

abbrev pub Lasts : (bound : ℕ) → List ℕ → Type 0
Lasts bound m = (s : State) × Lasting bound m s

-- the voids that end before the bound go, and n is how many
abbrev pub Clears : (bound n : ℕ) → (m m' : List ℕ) → Type 0
Clears bound n m m' = (s : State) → Lasting bound m s → (n + size (cleared s bound).tree ≡ size s.tree) × After m m' (cleared s bound)
