-- Demand 2 over the history: the gaps kept after any calls since an accepted opening, and a further call answered by the rule over them.
-- 01, The booking rule: "So at any time the voids kept are the maximal idle stretches of the history" that end after the floor (02, K3).
use Rattle.std.specs.Prelude.{◌≡◌, ◌≢◌, List, ℕ, length}
use Rattle.std.proofs.Common.{sym, ◌∙◌, ap, subst}
use Rattle.tally.specs.declared.Tally.{Tally}
use Rattle.rule.specs.Settings.{Settings}
use Rattle.rule.specs.Voids.{Meaning}
use Rattle.rule.specs.Order.{Order}
use Rattle.numbers.specs.Words.{Bytes}
use Rattle.state.specs.State.{meaning}
use Rattle.state.specs.VoidLaws.{length_voids}
use Rattle.state.specs.History.{Event}
use Rattle.memory.specs.Holds.{Whole}
use Rattle.calls.specs.declared.act.Done.{Done}
use Rattle.running.specs.declared.RunDone.{RunDone}
use Rattle.calls.specs.declared.tell.Told.{Told}
use Rattle.running.specs.Runs.{Runs}
use Rattle.calls.specs.Calls.{Acts, Tells}
use Rattle.grounds.specs.Memories.{tells_of, same_link}
use Rattle.grounds.proofs.Doors.{act_door, run_door}
use Rattle.grounds.specs.Session.{Call, Since, more, heard_all, Each}
use Rattle.grounds.specs.Right.{Means, Right}
use Rattle.grounds.proofs.GapLaws.{begun, standing, standing_means, each_call, right}

module _ {g : Settings} {F : ℕ} {past : List Event} {m : List ℕ} (S : Since g F past m) where
  pub always_whole : Whole m
  always_whole = let T = standing S in (T.life.state, T.sound, T.holds)

  -- code 2 is "never given for memory that only these calls have changed since an accepted opening": no order, and no run
  pub act_never_2 : (t : Tally) (bytes m' : List ℕ) (d : Done) → Bytes bytes → Bytes m → Bytes m' → Acts t bytes d m m' → d.acted.answer.code ≢ 2
  act_never_2 t bytes m' d h x y a q = (act_door t bytes m m' d h x y a).whole.0 q always_whole

  pub run_never_2 : (t : Tally) (bytes m' out out' : List ℕ) (x : RunDone) → Bytes bytes → Bytes m → Bytes m' → Runs t bytes x m m' out out' → x.ran.code ≢ 2
  run_never_2 t bytes m' out out' x h y z a q = (run_door t bytes m m' out out' x h y z a).whole.0 q always_whole

  -- "So at any time the voids kept are the maximal idle stretches of the history" that end after the floor (02, K3): as many as are told
  pub told_gaps : (x : Told) → Tells x m → (M : Meaning) × Means g F past M × (x ≡ record { code = 0; voids = length M.voids })
  told_gaps x a =
      let T = standing S in
      let s = T.life.state in
      (meaning s, standing_means S, tells_of m x a s T.sound T.holds ∙ ap (λ n. record { code = 0; voids = n }) (sym (length_voids s.tree)))

  -- demand 2 by the rule: each order is answered by the rule over the gaps of the history, and leaves the gaps of the history after it
  pub each_right : {m' numbers : List ℕ} {orders : List Order} → Call m orders numbers m' → Each (Right g F) g past orders numbers
  each_right c = each_call S (Right g F) (right g F (begun S).0 (begun S).1) c

  -- a call that leaves the memory as it was leaves the gaps of the history as they were
  pub same_memory : {numbers : List ℕ} {orders : List Order} → Call m orders numbers m → (M : Meaning) × Means g F past M × Means g F (heard_all g orders numbers past) M
  same_memory {numbers} {orders} c =
      let T = standing S in
      let U = standing (more S c) in
      let s = T.life.state in
      let e = same_link m s U.life.state T.sound T.holds U.sound U.holds in
      (meaning s, standing_means S, subst (λ u. Means g F (heard_all g orders numbers past) (meaning u)) (sym e) (standing_means (more S c)))
