-- Nodes in lent memory: where the words of the node at a seat stand, and what a change of nodes keeps, byte for byte.
-- The numbers of the layout are here and in docs/ARCHITECTURE.md only.
use Rattle.std.specs.Prelude.{◌≡◌, ◌⊎◌, Bool, true, false, List, ℕ, ◌+◌, ◌*◌, ◌-◌, ◌/◌, ◌%◌, ◌≤◌, ◌<◌, min, max, length, get_or}
use Rattle.numbers.specs.Words.{word, store}
use Rattle.shape.specs.Tree.{same}
use Rattle.node.specs.declared.Node.{Node}

-- the words of the header; the four words of each node come after it
abbrev pub header_words : ℕ
header_words = 28

-- the first word of the node at seat s. Seats are numbered by words, so that no address needs a shift (docs/DECISIONS.md)
abbrev pub base : ℕ → ℕ
base s = s + 24

-- the root's seat; every other node is beside its sibling: the place q has the seats 8 q, for a left child, and 8 q + 4
abbrev pub root_seat : ℕ
root_seat = 4

-- the left seat of the place where the seat x is
abbrev pub home : ℕ → ℕ
home x = x / 8 * 8

-- s is a seat, the node there is inside the memory, and s can be noted in a way
abbrev pub Within : List ℕ → ℕ → Type 0
Within m s = (8 * s + 224 ≤ length m) × (4 ≤ s) × (s < 65536) × (s % 4 ≡ 0)

-- no link has more places than this: so every seat can be noted in a way
abbrev pub most_places : ℕ
most_places = 8192

-- the bytes of the header and of so many places, the place 0 among them: that has one seat, the root's, every other one two
abbrev pub bytes_for : (places : ℕ) → ℕ
bytes_for n = 192 + 64 * n

-- a node's links are one word: its height in the upper half, in the lower the left seat of its place, where its children are
abbrev pub half_word : ℕ
half_word = 4294967296

-- no tree may be higher than this, so that a height fits (a link's trees are lower by far)
abbrev pub highest : ℕ
highest = half_word - 8

-- the node at seat s
unfoldable pub node_at : List ℕ → ℕ → Node
node_at m s =
    record {
      height = word m (base s + 3) / half_word;
      lo = word m (base s);
      top = word m (base s + 1);
      low = word m (base s + 2);
      place = word m (base s + 3) % half_word;
    }

-- height and place in one word
abbrev pub links_of : Node → ℕ
links_of n = n.height * half_word + n.place

abbrev pub Fits : Node → Type 0
Fits n = (n.height < half_word) × (n.place < half_word)

-- the memory with the sums of n at seat s: three words; and with n there, height and place too
unfoldable pub sums_saved : List ℕ → ℕ → Node → List ℕ
sums_saved m s n = store (store (store m (base s) n.lo) (base s + 1) n.top) (base s + 2) n.low

unfoldable pub saved : List ℕ → ℕ → Node → List ℕ
saved m s n = store (sums_saved m s n) (base s + 3) (links_of n)

-- a leaf's node
abbrev pub leaf_node : (key end : ℕ) → Node
leaf_node k e = record { height = 0; lo = k; top = e; low = e; place = 0 }

-- the node over two others, of which the left one is at q
abbrev pub over_node : (x y : Node) → (q : ℕ) → Node
over_node x y q =
    record { height = max x.height y.height + 1; lo = x.lo; top = max x.top y.top; low = min x.low y.low; place = q }

-- the node k with the sums of n: height and place are as they were
abbrev pub with_sums : (n k : Node) → Node
with_sums n k = record { height = k.height; lo = n.lo; top = n.top; low = n.low; place = k.place }

-- the node n with the sums of the two others, taken anew
abbrev pub summed_node : (n x y : Node) → Node
summed_node n x y = with_sums (over_node x y 0) n

-- two nodes say the same of what is below them
abbrev pub SameSums : (x y : Node) → Type 0
SameSums x y = (x.lo ≡ y.lo) × (x.top ≡ y.top) × (x.low ≡ y.low)

-- ---- the frame
-- the seat whose node has the byte b
abbrev pub seat_of : (b : ℕ) → ℕ
seat_of b = (b - 192) / 32 * 4

-- m' is as long as m, and differs from it at most in the nodes of seats z with n z > 0: not in the header, not in another node.
-- n z says how often the seat z may have been written
pub record Kept (n : ℕ → ℕ) (m m' : List ℕ) : Type 0 where
  pub len : length m' ≡ length m
  pub byte : (b : ℕ) → (b < 224) ⊎ (n (seat_of b) ≡ 0) → get_or m' b 0 ≡ get_or m b 0

-- m' is m with n at seat s
pub record Saved (s : ℕ) (n : Node) (m m' : List ℕ) : Type 0 where
  pub at : node_at m' s ≡ n
  pub kept : Kept (λ z. same z s) m m'

-- m' is m with s over the nodes at q and beside it
abbrev pub Over : (s q : ℕ) → (m m' : List ℕ) → Type 0
Over s q m m' = Saved s (over_node (node_at m q) (node_at m (q + 4)) q) m m'

-- m' is m with the node of one seat at another too
abbrev pub Copied : (from to : ℕ) → (m m' : List ℕ) → Type 0
Copied s s' m m' = Saved s' (node_at m s) m m'

-- what reading the nodes at q and beside it and writing s asks: they are inside
pub record Summable (m : List ℕ) (s q : ℕ) : Type 0 where
  pub at : Within m s
  pub left : Within m q
  pub right : Within m (q + 4)

-- what writing s over them asks: that, and that the height fits
pub record Mendable (m : List ℕ) (s q : ℕ) : Type 0 where
  pub sums : Summable m s q
  pub low_left : (node_at m q).height < half_word - 1
  pub low_right : (node_at m (q + 4)).height < half_word - 1

-- ---- a node summed up anew
-- m' is m with s summed up anew, from the nodes at q and beside it
abbrev pub Summed : (s q : ℕ) → (m m' : List ℕ) → Type 0
Summed s q m m' = Saved s (summed_node (node_at m s) (node_at m q) (node_at m (q + 4))) m m'

-- and b is false exactly where that changed nothing: then no byte was written
pub record Sums (s q : ℕ) (b : Bool) (m m' : List ℕ) : Type 0 where
  pub summed : Summed s q m m'
  pub still : b ≡ false → m' ≡ m
  pub moved : b ≡ true → node_at m' s ≡ node_at m s → ⊥
