-- Which void is taken (01, The booking rule): the first start that has a fit, and there Min-SV, over any set of voids.
use Rattle.std.specs.Prelude.{◌≡◌, ◌⊎◌, List, [], ◌∷◌, ℕ, ◌≤◌, ◌<◌}
use Rattle.rule.specs.Fit.{Fits, free}
use Rattle.rule.specs.Starts.{Start}
use Rattle.rule.specs.Voids.{Voids}

-- no void fits a burst that holds its channel from r up to f
abbrev pub NoFit : Voids → (r f : ℕ) → Type 0
NoFit W r f = (c s e : ℕ) → W c s e → ¬ (Fits s e r f)

-- "the one with the latest start is taken .. Equal starts: the lowest channel": a void of channel c' from s' on comes
-- behind one of channel c from s on
abbrev pub Behind : (s' c' s c : ℕ) → Type 0
Behind s' c' s c = (s' < s) ⊎ ((s' ≡ s) × (c ≤ c'))

-- "Among the voids that fit, the one with the latest start is taken (Min-SV)": it fits, and every other that fits comes behind it
pub record MinSV (W : Voids) (r f c s e : ℕ) : Type 0 where
  pub void : W c s e
  pub fits : Fits s e r f
  pub best : (c' s' e' : ℕ) → W c' s' e' → Fits s' e' r f → Behind s' c' s c

-- nothing fits at any start tried; or the line, the start, and the void (channel, from, to) that is taken
pub data Choice : Type 0 where
  nothing : Choice
  taken : (line start channel from to : ℕ) → Choice

-- "Trying stops at the first start that has a fit." h: the ticks for which the burst holds its channel
abbrev pub Chosen : Voids → (h : ℕ) → List Start → Choice → Type 0
Chosen W h [] nothing = Unit {0}
Chosen W h [] (taken i r c s e) = ⊥
Chosen W h (x ∷ xs) nothing = NoFit W x.moment (free x.moment h) × Chosen W h xs nothing
Chosen W h (x ∷ xs) (taken i r c s e) =
    ((i ≡ x.line) × (r ≡ x.moment) × MinSV W r (free r h) c s e)
    ⊎ (NoFit W x.moment (free x.moment h) × Chosen W h xs (taken i r c s e))
