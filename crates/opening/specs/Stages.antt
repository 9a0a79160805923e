-- The stages of an accepted opening: the delays written, the header written, the spare places laid, the channels added.
use Rattle.std.specs.Prelude.{◌≡◌, true, List, [], ◌∷◌, ℕ, ◌+◌, ◌-◌, ◌≤◌, ◌<◌, length, get_or, set}
use Rattle.numbers.specs.Words.{word}
use Rattle.rule.specs.Moments.{last_moment}
use Rattle.rule.specs.Settings.{Settings, in_bounds}
use Rattle.shape.specs.Tree.{Tree, uses}
use Rattle.node.specs.Layout.{header_words}
use Rattle.state.specs.State.{first}
use Rattle.state.specs.Open.{up_from, single, fresh}
use Rattle.memory.specs.Header.{padded, Heads}
use Rattle.memory.specs.Holds.{Holds, Past, After}
use Rattle.memory.specs.Part.{Part}

-- k words from the eighth on are those of the list, then 0; past the header m' is m
pub record Tail (k : ℕ) (ds : List ℕ) (m m' : List ℕ) : Type 0 where
  pub words : (i : ℕ) → i < k → word m' (8 + i) ≡ get_or ds i 0
  pub past : Past 224 m m'

-- the header of one channel with one void, and no spare place
abbrev pub bare_header : Settings → (floor : ℕ) → List ℕ
bare_header g floor = g.room ∷ 1 ∷ length g.delays ∷ g.leap ∷ floor ∷ 0 ∷ 1 ∷ 0 ∷ padded 20 g.delays

-- m' begins with the header h, and past it is m
pub record Draft (h : List ℕ) (m m' : List ℕ) : Type 0 where
  pub long : 224 ≤ length m'
  pub wide : length h ≡ header_words
  pub heads : Heads m' h
  pub past : Past 224 m m'

-- the last k of the places from 1 to n are spare now, where none was
abbrev pub Laid : (n k : ℕ) → (m m' : List ℕ) → Type 0
Laid n k m m' =
    (m0 h : List ℕ) (t : Tree) → Part m0 m (n + 1) h t [] → get_or h 7 0 ≡ 0 → ((z : ℕ) → 1 ≤ z → uses z t ≡ 0)
    → Part m0 m' (n + 1) (set h 7 (first (up_from (n + 1 - k) k))) t (up_from (n + 1 - k) k)

-- the memory holds one channel of a link that is to have so many
pub record Begun (g : Settings) (channels floor : ℕ) (m : List ℕ) : Type 0 where
  pub bounds : in_bounds g ≡ true
  pub early : floor ≤ last_moment
  pub many : g.channels ≡ channels
  pub holds : Holds m (single g floor)

abbrev pub Narrow : (channels floor : ℕ) → List ℕ → Type 0
Narrow channels floor m = (g : Settings) × Begun g channels floor m

abbrev pub Widens : (channels floor : ℕ) → (m m' : List ℕ) → Type 0
Widens channels floor m m' = (g : Settings) → Begun g channels floor m → After m m' (fresh g floor)
