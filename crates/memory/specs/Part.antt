-- A link in the middle of a step: what stands where, and that past its n places all is as it was in m0.
-- A step's proof goes from program point to program point by it (proofs/Parts.antt).
use Rattle.std.specs.Prelude.{◌≡◌, List, ℕ, ◌+◌, ◌≤◌, length}
use Rattle.shape.specs.Tree.{Tree, same, uses}
use Rattle.node.specs.Layout.{header_words, root_seat, bytes_for, most_places}
use Rattle.node.specs.Rep.{Stands}
use Rattle.state.specs.Sound.{among, below}
use Rattle.memory.specs.Header.{Heads}
use Rattle.memory.specs.Holds.{Spares, Past}

pub record Part (m0 m : List ℕ) (n : ℕ) (h : List ℕ) (t : Tree) (ps : List ℕ) : Type 0 where
  pub small : n ≤ most_places
  pub long : bytes_for n ≤ length m
  pub wide : length h ≡ header_words
  pub heads : Heads m h
  pub stands : Stands m root_seat t
  pub spare : Spares m ps
  -- no place is used twice, none that the link does not have, and none is the root's
  pub once : (z : ℕ) → same z 0 + uses z t + among z ps ≤ below z n
  pub past : Past (bytes_for n) m0 m
