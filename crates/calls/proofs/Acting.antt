-- A run with room for one answer is the single record at its start: from what the run promises to what `act` promises.
use mathlib.Core.Path.{◌≡◌, refl, sym, ap, ◌∙◌}
use mathlib.Core.Logic.{◌⊎◌, inl, inr}
use mathlib.Core.List.{List, [], ◌∷◌, ◌++◌, append-nil}
use Prim.Native.Nat.{ℕ, zero, suc, ◌+◌, ◌*◌, ◌≤◌, ◌<◌}
use native.Mathlib.Omega.{arith}
use borrow.Author.Tests.{lt-leb}
use lib.ListN.{length, drop, drop_of_length-le}
use Rattle.tally.specs.declared.Tally.{Tally}
use Rattle.rule.specs.declared.answer.Answer.{Answer}
use Rattle.rule.specs.Answer.{seven, numbers_of}
use Rattle.tally.specs.Counts.{row_of, raised}
use Rattle.order.specs.Records.{Reading, unread, opening, order, reading, used_by}
use Rattle.order.specs.Kinds.{Kind, kind}
use Rattle.order.proofs.Alone.{inside}
use Rattle.state.specs.State.{State}
use Rattle.state.specs.Act.{act}
use Rattle.state.specs.Sound.{Sound}
use Rattle.memory.specs.Holds.{After}
use Rattle.stepping.specs.Step.{Stepped, step_on, unused}
use Rattle.running.specs.declared.RunDone.{RunDone}
use Rattle.running.specs.Run.{Ran, answered, onward, run_from, run_on, flat}
use Rattle.running.specs.Runs.{RunsTo, Runs}
use Rattle.calls.specs.declared.act.Done.{Done}
use Rattle.calls.specs.Calls.{Unused, StepsTo, Acts}

-- ---- with no room for seven numbers a run stops where it is
record Stops (y : Ran) (s : State) (t : Tally) (p : ℕ) : Type 0 where
  state : y.state ≡ s
  tally : y.tally ≡ t
  answers : y.answers ≡ []
  place : y.place ≡ p
  code : y.code ≡ 2 → ⊥

stops : (n : ℕ) (s : State) (t : Tally) (room place : ℕ) (bytes : List ℕ) → room < 7 → Stops (run_from n s t room place bytes) s t place
stops zero s t room place bytes r = record { state = refl; tally = refl; answers = refl; place = refl; code = λ e. omega arith }
stops (suc n) s t room place [] r = record { state = refl; tally = refl; answers = refl; place = refl; code = λ e. omega arith }
stops (suc n) s t room place (b ∷ bs) r = rw (lt-leb 7 room r) (record { state = refl; tally = refl; answers = refl; place = refl; code = λ e. omega arith })

-- ---- a run with room for seven: no record answered, or the one at the start
record None (y : Ran) (s : State) (t : Tally) (x : Stepped) : Type 0 where
  code : y.code ≡ 2 → ⊥
  answers : y.answers ≡ []
  state : y.state ≡ s
  is : x ≡ unused s t 11

record Only (y : Ran) (x : Stepped) : Type 0 where
  code : y.code ≡ 2 → ⊥
  answers : y.answers ≡ x.numbers ∷ []
  state : y.state ≡ x.after
  tally : y.tally ≡ x.tally
  place : y.place ≡ x.used

module _ (s : State) (t : Tally) where
  read_one : (n : ℕ) (bytes : List ℕ) (y : Reading) → Kind y
      → let r = onward s t 0 y (λ used o. answered (seven (act s o).reply (act s o).count) (run_from n (act s o).after (raised t (row_of (act s o).reply)) 0 (0 + used) (drop used bytes))) in
      None r s t (step_on s t y) ⊎ Only r (step_on s t y)
  read_one n bytes (unread x) k = inl (record { code = λ e. omega (arith, k, e); answers = refl; state = refl; is = rw k })
  read_one n bytes (opening u p) k = inl (record { code = λ e. omega arith; answers = refl; state = refl; is = refl })
  read_one n bytes (order u o) k =
      let z = stops n (act s o).after (raised t (row_of (act s o).reply)) 0 (0 + u) (drop u bytes) (omega arith) in
      let none : 0 + u ≡ u = omega arith in
      inr (record { code = z.code; answers = ap (λ (l : List (List ℕ)). seven (act s o).reply (act s o).count ∷ l) z.answers; state = z.state; tally = z.tally; place = z.place ∙ none })

  unread_is : (y : Reading) → Kind y → used_by y ≤ 0 → step_on s t y ≡ unused s t 11
  unread_is (unread x) k h = rw k
  unread_is (opening u p) k h = refl
  unread_is (order u o) k h = absurd (omega (arith, k))

  one : (bytes : List ℕ) → None (run_on s t 7 bytes) s t (step_on s t (reading bytes)) ⊎ Only (run_on s t 7 bytes) (step_on s t (reading bytes))
  one [] = inl (record { code = λ e. omega arith; answers = refl; state = refl; is = unread_is (reading []) (kind []) (omega (arith, inside [])) })
  one (b ∷ bs) = read_one (length bs) (b ∷ bs) (reading (b ∷ bs)) (kind (b ∷ bs))

-- ---- the answers of `act`
-- no order
unused_steps : (s : State) (t : Tally) (d : Done) (m m' : List ℕ) → Sound s → After m m' s → Unused 11 t d → (y : Reading) → step_on s t y ≡ unused s t 11 → StepsTo (step_on s t y) d m m'
unused_steps s t d m m' o h n y e = rw e (record { numbers = n.numbers; used = n.used; tally = n.tally; after = h; sound = o })

module _ (t : Tally) (bytes : List ℕ) (x : RunDone) (m m' out out' : List ℕ) (l : length out ≡ 7) (r : Runs t bytes x m m' out out') where
  -- what the run is on the whole link s
  runs_seven : (s : State) → RunsTo (run_on s t (length out) bytes) x m m' out out' → RunsTo (run_on s t 7 bytes) x m m' out out'
  runs_seven s y = rw l at y

  never_2 : (s : State) → RunsTo (run_on s t 7 bytes) x m m' out out' → x.ran.code ≡ 2 → ⊥
  never_2 s y e = elim (one s t bytes) [ inl z ↦ z.code (sym y.code ∙ e) | inr z ↦ z.code (sym y.code ∙ e) ]

  pub act_spoiled : (d : Done) → x.ran.code ≡ 2 → Unused 2 t d → Acts t bytes d m m'
  act_spoiled d e v = elim r [
    | inl y ↦ absurd (never_2 y.0 (runs_seven y.0 y.3) e)
    | inr y ↦ inr (y.0, record { answer = v; same = y.1.same })
  ]

  spoiled_2 : (x ≡ record { tally = t; ran = record { code = 2; place = 0; answered = 0 } }) → x.ran.code ≡ 2
  spoiled_2 e = ap (λ (z : RunDone). z.ran.code) e

  pub act_unread : (d : Done) → (x.ran.code ≡ 2 → ⊥) → x.ran.answered ≡ 0 → Unused 11 t d → Acts t bytes d m m'
  act_unread d n e v = elim r [
    | inl y ↦ inl (y.0, y.1, y.2, go y.0 (runs_seven y.0 y.3) (one y.0 t bytes))
    | inr y ↦ absurd (n (spoiled_2 y.1.answer))
  ]
    where
      go : (s : State) → RunsTo (run_on s t 7 bytes) x m m' out out' → None (run_on s t 7 bytes) s t (step_on s t (reading bytes)) ⊎ Only (run_on s t 7 bytes) (step_on s t (reading bytes))
          → StepsTo (step_on s t (reading bytes)) d m m'
      go s y (inl z) = unused_steps s t d m m' (rw z.state at y.sound) (rw z.state at y.after) v (reading bytes) z.is
      go s y (inr z) = absurd (omega (arith, e, y.answered, ap length z.answers))

  pub act_done : (a : Answer) → (x.ran.code ≡ 2 → ⊥) → (x.ran.answered ≡ 0 → ⊥) → numbers_of a ≡ out' → Acts t bytes (record { tally = x.tally; acted = record { answer = a; used = x.ran.place } }) m m'
  act_done a n e v = elim r [
    | inl y ↦ inl (y.0, y.1, y.2, go y.0 (runs_seven y.0 y.3) (one y.0 t bytes))
    | inr y ↦ absurd (n (spoiled_2 y.1.answer))
  ]
    where
      go : (s : State) → RunsTo (run_on s t 7 bytes) x m m' out out' → None (run_on s t 7 bytes) s t (step_on s t (reading bytes)) ⊎ Only (run_on s t 7 bytes) (step_on s t (reading bytes))
          → StepsTo (step_on s t (reading bytes)) (record { tally = x.tally; acted = record { answer = a; used = x.ran.place } }) m m'
      go s y (inl z) = absurd (e (y.answered ∙ ap length z.answers))
      go s y (inr z) =
          let ns = (step_on s t (reading bytes)).numbers in
          let text : out' ≡ flat (ns ∷ []) ++ drop 7 out = y.slice ∙ ap (λ (q : List (List ℕ)). flat q ++ drop (7 * length q) out) z.answers in
          let short : length out ≤ 7 = omega (arith, l) in
          let none : drop 7 out ≡ [] = drop_of_length-le out short in
          let whole : flat (ns ∷ []) ++ drop 7 out ≡ ns = ap (λ (q : List ℕ). flat (ns ∷ []) ++ q) none ∙ (append-nil (flat (ns ∷ [])) ∙ append-nil ns) in
          record {
            numbers = v ∙ (text ∙ whole);
            used = y.place ∙ z.place;
            tally = y.tally ∙ z.tally;
            after = rw z.state at y.after;
            sound = rw z.state at y.sound;
          }
