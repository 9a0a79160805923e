-- The header of a whole link, word by word: "as long as its room needs, settings in bounds" (01, What comes back, code 2),
-- and the words that are 0.
use Rattle.std.specs.Prelude.{◌≡◌, true, List, [], ◌∷◌, ℕ, zero, suc, ◌+◌, ◌≤◌, ◌<◌, length}
use Rattle.numbers.specs.Words.{word}
use Rattle.rule.specs.Moments.{last_moment}
use Rattle.rule.specs.Settings.{most_channels, most_room, most_lines, longest, rising}
use Rattle.node.specs.Layout.{header_words}
use Rattle.memory.specs.Header.{need}

-- the numbers of the header that have bounds of their own
pub record Bounded (room channels lines leap floor kept : ℕ) : Type 0 where
  pub some_channel : 1 ≤ channels
  pub most_channels : channels ≤ most_channels
  pub some_room : channels ≤ room
  pub most_room : room ≤ most_room
  pub most_lines : lines ≤ most_lines
  pub some_leap : 1 ≤ leap
  pub most_leap : leap ≤ longest
  pub most_floor : floor ≤ last_moment
  pub some_void : 1 ≤ kept
  pub most_voids : kept ≤ room

-- n words of the memory, from word a on
unfoldable pub listed : (n : ℕ) → List ℕ → (a : ℕ) → List ℕ
listed zero m a = []
listed (suc n) m a = word m a ∷ listed n m (a + 1)

-- the words of the header from a on are 0
abbrev pub Zeros : List ℕ → (a : ℕ) → Type 0
Zeros m a = (j : ℕ) → a ≤ j → j < header_words → word m j ≡ 0

pub record Settled (m : List ℕ) : Type 0 where
  pub bounded : Bounded (word m 0) (word m 1) (word m 2) (word m 3) (word m 4) (word m 6)
  pub long : need (word m 0) ≤ length m
  pub unused : word m 5 ≡ 0
  pub delays : rising 0 (listed (word m 2) m 8) ≡ true
  pub zeros : Zeros m (8 + word m 2)
