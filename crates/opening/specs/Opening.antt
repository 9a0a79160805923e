-- What an opening promises: its code, and the memory after. Accepted, it is a memory of the fresh link; refused, it is as it was.
use Rattle.std.specs.Prelude.{◌≡◌, Result, Ok, Err, List, [], ◌∷◌, not, ℕ, ltb, length}
use Rattle.rule.specs.Settings.{Settings, in_bounds}
use Rattle.rule.specs.Codes.{first_code}
use Rattle.rule.specs.declared.refusal.Unopened.{Unopened}
use Rattle.rule.specs.Refusal.{unopened_of}
use Rattle.state.specs.Open.{fresh}
use Rattle.memory.specs.Header.{need}
use Rattle.memory.specs.Holds.{After}

-- "a bound above is broken, or the lent memory is smaller than the stated need"
abbrev pub opening_code : Settings → (bytes : ℕ) → ℕ
opening_code g bytes = first_code ((not (in_bounds g), 1) ∷ (ltb bytes (need g.room), 1) ∷ [])

-- 0: opened
abbrev pub opened_code : Result Unit Unopened → ℕ
opened_code (Ok _) = 0
opened_code (Err why) = unopened_of why

pub record Opens (g : Settings) (floor : ℕ) (m m' : List ℕ) (code : ℕ) : Type 0 where
  pub answer : code ≡ opening_code g (length m)
  pub accepted : code ≡ 0 → After m m' (fresh g floor)
  pub refused : code ≡ 1 → m' ≡ m
