-- When exactly the codes 7 and 8 are given (01, What comes back), in the words of the rule.
use Rattle.std.specs.Prelude.{◌≡◌, List, [], ◌∷◌, ℕ, ◌≤◌, length}
use Rattle.rule.specs.Fit.{hold, free}
use Rattle.rule.specs.Starts.{Start, starts}
use Rattle.rule.specs.Kept.{pieces}
use Rattle.rule.specs.Settings.{Settings}
use Rattle.rule.specs.Voids.{Voids, Has, Meaning}
use Rattle.rule.specs.Choice.{NoFit, taken, Chosen}

abbrev pub AllStarts : (ℕ → Type 0) → List Start → Type 0
AllStarts P [] = Unit {0}
AllStarts P (x ∷ xs) = P x.moment × AllStarts P xs

-- the starts of a booking, in their order
abbrev pub starts_of : Settings → (r l m : ℕ) → List Start
starts_of g r l m = starts g.delays r (hold g l) m

-- "nothing fits at any start tried", of the voids W
abbrev pub NothingFits : Voids → Settings → (r l m : ℕ) → Type 0
NothingFits W g r l m = AllStarts (λ b. NoFit W b (free b (hold g l))) (starts_of g r l m)

-- "the void taken leaves two pieces and the room is full"
pub record TwoPieces (M : Meaning) (r l m : ℕ) : Type 0 where
  pub line : ℕ
  pub start : ℕ
  pub channel : ℕ
  pub from : ℕ
  pub to : ℕ
  pub chosen : Chosen (Has M.voids) (hold M.settings l) (starts_of M.settings r l m) (taken line start channel from to)
  pub two : pieces M.floor from to start (free start (hold M.settings l)) ≡ 2
  pub full : M.settings.room ≤ length M.voids
