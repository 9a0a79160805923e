-- Voids, and what a link means: its settings, its floor and its voids (01, What a link is).
use Rattle.std.specs.Prelude.{◌≡◌, ◌⊎◌, ◌↔◌, List, [], ◌∷◌, ℕ}
use Rattle.rule.specs.Settings.{Settings}

-- "A void is a channel with a start s and an end e, s < e: the channel is idle from s up to but not at e."
pub record Void : Type 0 where
  pub channel : ℕ
  pub start : ℕ
  pub end : ℕ

-- any set of voids: W c s e says that channel c has a void from s up to e
abbrev pub Voids : Type 1
Voids = (channel start end : ℕ) → Type 0

-- the voids of a list
abbrev pub Has : List Void → Voids
Has [] c s e = ⊥
Has (v ∷ vs) c s e = ((v.channel ≡ c) × (v.start ≡ s) × (v.end ≡ e)) ⊎ Has vs c s e

pub record Meaning : Type 0 where
  pub settings : Settings
  pub floor : ℕ
  pub voids : List Void

-- the same settings, floor and voids, whatever the order of the list
pub record Same (M N : Meaning) : Type 0 where
  pub settings : N.settings ≡ M.settings
  pub floor : N.floor ≡ M.floor
  pub voids : (c s e : ℕ) → Has N.voids c s e ↔ Has M.voids c s e
