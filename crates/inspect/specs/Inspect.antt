-- What is asked of one node of a tree: of a leaf's, and of one over two others.
-- `ends` has one more than the last end seen of each channel; `after` is one more than the last key seen.
use Rattle.std.specs.Prelude.{◌≡◌, Bool, true, List, ℕ, ◌+◌, ◌≤◌, get_or, set}
use Rattle.rule.specs.Key.{start_of, channel_of}
use Rattle.node.specs.declared.Node.{Node}
use Rattle.node.specs.Layout.{leaf_node, over_node}
use Rattle.state.specs.Sound.{Lawful}
use Rattle.settled.specs.Says.{Says}

-- n is a leaf's node
abbrev pub Single : Node → Type 0
Single n = n ≡ leaf_node n.lo n.top

-- the heights of two children differ by at most 1
pub record Near (i j : ℕ) : Type 0 where
  pub left : i ≤ j + 1
  pub right : j ≤ i + 1

-- n is the node over x and y, wherever they stand, and their heights are balanced
pub record Joined (n x y : Node) : Type 0 where
  pub over : n ≡ over_node x y n.place
  pub near : Near x.height y.height

-- a void that comes next: its key is not before `from`, and it starts at `last` or later
pub record NextVoid (channels floor from last k e : ℕ) : Type 0 where
  pub after : from ≤ k
  pub lawful : Lawful channels floor k e
  pub apart : last ≤ start_of k

-- the test of a leaf's node, and what it leaves of the ends
pub record Leaf (channels floor after : ℕ) (x y : List ℕ) (n : Node) (b : Bool) : Type 0 where
  pub says : Says (Single n × NextVoid channels floor after (get_or x (channel_of n.lo) 0) n.lo n.top) b
  pub run : b ≡ true → y ≡ set x (channel_of n.lo) (n.top + 1)
