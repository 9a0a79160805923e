-- The rules of a whole link that do not speak of bytes (01, What comes back, code 2), item by item.
use Rattle.std.specs.Prelude.{◌≡◌, true, List, [], ◌∷◌, ℕ, ◌+◌, ◌*◌, ◌≤◌, ◌<◌, ltb, length}
use Rattle.numbers.specs.Case.{pick}
use Rattle.rule.specs.Moments.{open_end, last_moment}
use Rattle.rule.specs.Settings.{in_bounds}
use Rattle.rule.specs.Kept.{stays}
use Rattle.rule.specs.Key.{start_of, channel_of, per_tick}
use Rattle.shape.specs.Tree.{Tree, size, HeightRule, Balanced, Ord, In, All, same, uses}
use Rattle.state.specs.State.{State, places}

-- "each void on a channel of the link with s < e and e at most the open end"; "the voids of a whole link end after the floor" (02, K3)
pub record Lawful (channels floor k e : ℕ) : Type 0 where
  pub channel : channel_of k < channels
  pub some : start_of k < e
  pub most : e ≤ open_end
  pub stay : stays floor e ≡ true

-- "voids of one channel apart by at least one tick"
abbrev pub Apart : Tree → Type 0
Apart t = (k e k' e' : ℕ) → In k e t → In k' e' t → channel_of k ≡ channel_of k' → k < k' → e < start_of k'

-- "one open end for each channel"
pub record OpenEnd (t : Tree) (c : ℕ) : Type 0 where
  pub key : ℕ
  pub inside : In key open_end t
  pub channel : channel_of key ≡ c

-- how often a place is in a list
abbrev pub among : (z : ℕ) → List ℕ → ℕ
among z [] = 0
among z (p ∷ ps) = same z p + among z ps

-- 1 below n, else 0
unfoldable pub below : (z n : ℕ) → ℕ
below z n = pick (ltb z n) 1 0

-- no key of a link is above this
abbrev pub most_key : ℕ
most_key = open_end * per_tick

pub record Sound (s : State) : Type 0 where
  -- "settings in bounds"
  pub bounds : in_bounds s.settings ≡ true
  pub floor : s.floor ≤ last_moment
  -- "ordered leaves", "the height rule and the team's balancing rule"
  pub ordered : Ord 0 most_key s.tree
  pub high : HeightRule s.tree
  pub balanced : Balanced s.tree
  pub lawful : All (λ k e. Lawful s.settings.channels s.floor k e) s.tree
  pub apart : Apart s.tree
  pub open_ends : (c : ℕ) → c < s.settings.channels → OpenEnd s.tree c
  -- "every spare place accounted for": the place 0 is the root's; each other one is used once, as a node's or as a spare one
  pub all : (z : ℕ) → same z 0 + uses z s.tree + among z s.spares ≡ below z (places s.settings.room)
  pub many : length s.spares + size s.tree ≡ s.settings.room + 1
  -- no more voids than the room
  pub within : size s.tree ≤ s.settings.room
