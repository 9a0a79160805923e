-- Demands 2 and 3 for every whole link, whoever made it: a single order is answered over the voids of the tree that the memory holds. A run is its
-- single orders (Singly.antt). 01, The booking rule: "the rest of demands 2 and 3 holds for every whole link."
use Rattle.std.specs.Prelude.{◌≡◌, List, ℕ}
use Rattle.std.proofs.Common.{sym, ◌∙◌, ap, subst}
use Rattle.tally.specs.declared.Tally.{Tally}
use Rattle.rule.specs.Order.{Order}
use Rattle.rule.specs.Answer.{seven, numbers_of}
use Rattle.order.specs.Records.{order, reading}
use Rattle.shape.specs.Voids.{VoidsIn}
use Rattle.state.specs.State.{State}
use Rattle.state.specs.Act.{act}
use Rattle.state.specs.Sound.{Sound}
use Rattle.state.specs.VoidLaws.{has_voids}
use Rattle.memory.specs.Holds.{Holds}
use Rattle.stepping.specs.Step.{step_on}
use Rattle.calls.specs.declared.act.Done.{Done}
use Rattle.calls.specs.Calls.{Acts}
use Rattle.grounds.specs.Answered.{Answered}
use Rattle.grounds.specs.Memories.{acts_on}
use Rattle.grounds.proofs.AnsweredLaws.{sound_answered}

pub whole_answered : (m m' : List ℕ) (s : State) → Sound s → Holds m s → (t : Tally) (bytes : List ℕ) (d : Done) (used : ℕ) (o : Order)
    → Acts t bytes d m m' → reading bytes ≡ order used o → Answered s.settings s.floor (VoidsIn s.tree) s.tree o (numbers_of d.acted.answer)
whole_answered m m' s W H t bytes d used o a q =
    let A = acts_on t bytes m m' d a s W H in
    let e : numbers_of d.acted.answer ≡ seven (act s o).reply (act s o).count = A.numbers ∙ ap (λ z. (step_on s t z).numbers) q in
    subst (Answered s.settings s.floor (VoidsIn s.tree) s.tree o) (sym e) (sound_answered s W (VoidsIn s.tree) (λ c b j. has_voids c b j s.tree) o)
