-- The header of a link in lent memory: 28 words (docs/ARCHITECTURE.md), and the bytes that a room needs.
use Rattle.std.specs.Prelude.{◌≡◌, List, [], ◌∷◌, ℕ, zero, suc, ◌+◌, ◌<◌, length, get_or}
use Rattle.numbers.specs.Words.{word}
use Rattle.shape.specs.Tree.{size}
use Rattle.node.specs.Layout.{header_words, bytes_for}
use Rattle.state.specs.State.{State, first}

-- n numbers: those of the list, then zeros
abbrev pub padded : (n : ℕ) → List ℕ → List ℕ
padded zero xs = []
padded (suc n) [] = 0 ∷ padded n []
padded (suc n) (x ∷ xs) = x ∷ padded n xs

-- the header's words; word 5 is 0, and after sixteen delays, the unused ones 0, four words are 0
abbrev pub header : State → List ℕ
header s =
    s.settings.room
    ∷ s.settings.channels
    ∷ length s.settings.delays
    ∷ s.settings.leap
    ∷ s.floor
    ∷ 0
    ∷ size s.tree
    ∷ first s.spares
    ∷ padded 20 s.settings.delays

-- the memory begins with these words
abbrev pub Heads : List ℕ → List ℕ → Type 0
Heads m h = (j : ℕ) → j < header_words → word m j ≡ get_or h j 0

-- "The exact need is a formula in the room": 64 * room + 256 bytes, for its room + 1 places (state's `places`)
abbrev pub need : (room : ℕ) → ℕ
need room = bytes_for (room + 1)
