-- The tree of a whole link, at the root's seat: the second of the three parts that the check looks at.
-- That no place is used twice is not said here: it follows from the three (whole/proofs/Wholeness.antt).
use Rattle.std.specs.Prelude.{◌≡◌, List, ℕ, ◌≤◌, ◌<◌}
use Rattle.numbers.specs.Words.{word}
use Rattle.shape.specs.Tree.{Tree, size, HeightRule, Balanced, Ord, All, uses}
use Rattle.node.specs.Layout.{root_seat}
use Rattle.node.specs.Rep.{Stands}
use Rattle.state.specs.State.{places}
use Rattle.state.specs.Sound.{Lawful, Apart, OpenEnd, most_key}

-- a tree with the rules of code 2 stands there, with as many leaves as the header says
pub record Treed (m : List ℕ) (t : Tree) : Type 0 where
  pub stands : Stands m root_seat t
  pub many : size t ≡ word m 6
  pub inside : (z : ℕ) → 1 ≤ uses z t → z < places (word m 0)
  pub ordered : Ord 0 most_key t
  pub high : HeightRule t
  pub balanced : Balanced t
  pub lawful : All (λ k e. Lawful (word m 1) (word m 4) k e) t
  pub apart : Apart t
  pub open_ends : (c : ℕ) → c < word m 1 → OpenEnd t c

abbrev pub Planted : List ℕ → Type 0
Planted m = (t : Tree) × Treed m t
