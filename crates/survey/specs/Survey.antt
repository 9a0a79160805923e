-- What a survey of the tree decides, in the order in which it goes: from left to right, a leaf after the other.
-- `ends` has one more than the last end seen of each channel; `after` is one more than the last key seen.
use Rattle.std.specs.Prelude.{◌≡◌, List, ℕ, ◌+◌, ◌*◌, ◌%◌, ◌≤◌, ◌<◌, length, get_or, set, Option, IfSome, IfNone}
use Rattle.rule.specs.Key.{channel_of}
use Rattle.shape.specs.Tree.{Tree, leaf, node, height, size, uses}
use Rattle.node.specs.Layout.{bytes_for, most_places}
use Rattle.node.specs.Rep.{Stands}
use Rattle.inspect.specs.Inspect.{Near, NextVoid}

-- what a survey of a seat may count on: n places in the memory, the seat one of theirs or the root's, an end for each channel
pub record Reach (m x : List ℕ) (n channels seat : ℕ) : Type 0 where
  pub long : bytes_for n ≤ length m
  pub small : n ≤ most_places
  pub least : 4 ≤ seat
  pub most : seat < 8 * n
  pub whole : seat % 4 ≡ 0
  pub ends : channels ≤ length x

-- the number is the left seat of one of n places, and not of the root's
pub record Seated (n first : ℕ) : Type 0 where
  pub some : 1 ≤ first
  pub whole : first % 8 ≡ 0
  pub less : first < 8 * n

-- ---- a tree
-- one more than the last key
unfoldable pub next : Tree → ℕ
next (leaf k e) = k + 1
next (node p l r) = next r

-- the ends after it
unfoldable pub run : List ℕ → Tree → List ℕ
run x (leaf k e) = set x (channel_of k) (e + 1)
run x (node p l r) = run (run x l) r

-- its leaves come next, one after the other, and it is balanced
unfoldable pub Good : (channels floor after : ℕ) → List ℕ → Tree → Type 0
Good c f a x (leaf k e) = NextVoid c f a (get_or x (channel_of k) 0) k e
Good c f a x (node p l r) = Good c f a x l × Good c f (next l) (run x l) r × Near (height l) (height r)

-- a tree that a survey of a seat takes: its places below n, of a height below the limit, and the visits to its nodes are in the budget
pub record Taken (m : List ℕ) (n channels floor : ℕ) (x : List ℕ) (seat limit after budget : ℕ) (t : Tree) : Type 0 where
  pub stands : Stands m seat t
  pub inside : (z : ℕ) → 1 ≤ uses z t → z < n
  pub low : height t < limit
  pub few : 2 * size t ≤ budget + 1
  pub good : Good channels floor after x t

-- the survey saw the tree t, with a visit to each of its 2 * size - 1 nodes, and comes to one more than its last key
pub record Seen (x y : List ℕ) (budget rest last : ℕ) (t : Tree) : Type 0 where
  pub next : last ≡ next t
  pub run : y ≡ run x t
  pub left : rest + 2 * size t ≡ budget + 1

-- None says that there is no such tree; each visit takes one from the budget, also where there is none
pub record Surveyed (m : List ℕ) (n channels floor : ℕ) (x y : List ℕ) (seat limit after budget rest : ℕ) (s : Option ℕ) : Type 0 where
  pub yes : IfSome s (λ last. (t : Tree) × Taken m n channels floor x seat limit after budget t × Seen x y budget rest last t)
  pub no : IfNone s ((t : Tree) → Taken m n channels floor x seat limit after budget t → ⊥)
  pub work : rest ≤ budget
