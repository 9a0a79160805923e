-- What is answered to an order (01, What comes back), and the seven numbers that say it.
use Rattle.std.specs.Prelude.{List, [], ◌∷◌, ℕ, Result, Ok, Err}
use Rattle.rule.specs.declared.answer.Answer.{Answer}
use Rattle.rule.specs.declared.answer.Refused.{Refused}
use Rattle.rule.specs.Refusal.{number_of}

pub data Reply : Type 0 where
  booked : (channel line start finish : ℕ) → Reply
  swept : (dropped : ℕ) → Reply
  refused : (code : ℕ) → Reply

-- "seven 64-bit numbers for each (code, channel, line, start, finish, count, dropped)"; "A refusal has 0 in all but
-- code and count; a sweep has 0 in all but dropped"
abbrev pub seven : Reply → (count : ℕ) → List ℕ
seven (booked c i r f) n = 0 ∷ c ∷ i ∷ r ∷ f ∷ n ∷ 0 ∷ []
seven (swept d) n = 0 ∷ 0 ∷ 0 ∷ 0 ∷ 0 ∷ 0 ∷ d ∷ []
seven (refused x) n = x ∷ 0 ∷ 0 ∷ 0 ∷ 0 ∷ n ∷ 0 ∷ []

-- the numbers that the code's struct holds
abbrev pub numbers_of : Answer → List ℕ
numbers_of a = a.code ∷ a.channel ∷ a.line ∷ a.start ∷ a.finish ∷ a.count ∷ a.dropped ∷ []

-- the answer to an order, accepted or refused
abbrev pub answer_of : Result Answer Refused → Answer
answer_of (Ok a) = a
answer_of (Err r) = record { code = number_of r.why; channel = 0; line = 0; start = 0; finish = 0; count = r.count; dropped = 0 }
