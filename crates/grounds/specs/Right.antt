-- Demand 2 by the rule: an answer is the rule's (`Rule`) between what the history makes of a link before the order and after it. Nobody has
-- to believe these words: Answered.antt says what is answered, and this is what follows for one who thinks in meanings.
-- 01, The booking rule: "the voids kept are the maximal idle stretches of the history" that end after the floor (02, K3).
use Rattle.std.specs.Prelude.{◌≡◌, ◌↔◌, List, [], ◌∷◌, ℕ}
use Rattle.rule.specs.Settings.{Settings}
use Rattle.rule.specs.Voids.{Void, Has, Meaning}
use Rattle.rule.specs.Order.{Order}
use Rattle.rule.specs.Answer.{Reply, seven}
use Rattle.rule.specs.Rule.{Rule}
use Rattle.state.specs.History.{Event, floor_of, Stretches}
use Rattle.grounds.specs.Session.{heard}

-- no void is listed twice, so that the list's length is the number of voids
abbrev pub Once : List Void → Type 0
Once [] = Unit {0}
Once (v ∷ vs) = (¬ (Has vs v.channel v.start v.end)) × Once vs

-- M is what the history makes of a link opened with settings g and floor F: the gaps kept are its longest idle stretches with end at or
-- after the floor
pub record Means (g : Settings) (F : ℕ) (past : List Event) (M : Meaning) : Type 0 where
  pub settings : M.settings ≡ g
  pub floor : M.floor ≡ floor_of F past
  pub gaps : (c s e : ℕ) → Has M.voids c s e ↔ Stretches F g.channels past c s e
  pub once : Once M.voids

-- the seven numbers are the right answer to the order, after this history
pub record Right (g : Settings) (F : ℕ) (past : List Event) (o : Order) (numbers : List ℕ) : Type 0 where
  pub reply : Reply
  pub count : ℕ
  pub are : numbers ≡ seven reply count
  pub before : Meaning
  pub after : Meaning
  pub means : Means g F past before
  pub rule : Rule before o reply after
  pub leaves : Means g F (heard g o numbers past) after
