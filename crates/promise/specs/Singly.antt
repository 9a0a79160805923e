-- A run is its single orders one after the other, in memory, tally and answers; and what that makes of the tally's sum.
-- 01, What comes back: "A single order gives the same seven." "While no count is at its top, the sum rises by the orders acted on."
use Rattle.std.specs.Prelude.{◌≡◌, refl, List, [], ◌∷◌, ◌++◌, ℕ, suc, ◌+◌, ◌*◌, ◌≤◌, ◌<◌, length, take, drop}
use Rattle.std.proofs.Common.{sym, ◌∙◌, ap, subst, inl, inr, arith}
use Rattle.std.proofs.Math.Seq.{take-length}
use Rattle.tally.specs.declared.Tally.{Tally}
use Rattle.rule.specs.Order.{Order}
use Rattle.rule.specs.Answer.{seven, numbers_of}
use Rattle.tally.specs.Counts.{counts, sum}
use Rattle.order.specs.Records.{Reading, unread, opening, order, reading}
use Rattle.numbers.specs.Words.{Bytes}
use Rattle.state.specs.State.{State}
use Rattle.state.specs.Act.{act}
use Rattle.state.specs.Sound.{Sound}
use Rattle.state.proofs.SoundLaws.{act_sound}
use Rattle.state.specs.Range.{AllInRange}
use Rattle.memory.specs.Holds.{Holds, After}
use Rattle.memory.proofs.Whole.{after_none, after_then}
use Rattle.stepping.specs.Step.{step_on}
use Rattle.calls.specs.declared.act.Done.{Done}
use Rattle.running.specs.declared.RunDone.{RunDone}
use Rattle.running.specs.Run.{run_on, flat}
use Rattle.running.specs.Runs.{Runs}
use Rattle.calls.specs.Calls.{StepsTo, Acts}
use Rattle.grounds.specs.Orders.{orders_in, orders_one, sevens, after, tallied, counted}
use Rattle.grounds.specs.RecordLaws.{bytes_drop, order_fair}
use Rattle.grounds.proofs.RunLaws.{run_is_orders, after_sound, after_settings}
use Rattle.grounds.specs.TallyLaws.{counted_tallied, Below, sum_rises}
use Rattle.grounds.specs.Memories.{acts_on, after_one}

-- single orders, each on the bytes that the one before did not use, on the memory and with the tally that it left
pub data Singly : Tally → (bytes m : List ℕ) → (answers : List (List ℕ)) → Tally → (m' : List ℕ) → Type 0 where
  none : {t : Tally} {bytes m : List ℕ} → Singly t bytes m [] t m
  more : {t t' : Tally} {bytes m m₁ m' : List ℕ} {answers : List (List ℕ)} (d : Done) → Acts t bytes d m m₁ → 1 ≤ d.acted.used
      → Singly d.tally (drop d.acted.used bytes) m₁ answers t' m' → Singly t bytes m (numbers_of d.acted.answer ∷ answers) t' m'

pub record Singles (s : State) (t : Tally) (os : List Order) (m : List ℕ) (answers : List (List ℕ)) (t' : Tally) (m' : List ℕ) : Type 0 where
  pub range : AllInRange os
  pub numbers : answers ≡ sevens s os
  pub tally : t' ≡ tallied s t os
  pub leaves : After m m' (after s os)

singles : {t t' : Tally} {bytes m m' : List ℕ} {answers : List (List ℕ)} → Singly t bytes m answers t' m' → Bytes bytes → (s : State) → Sound s → Holds m s
    → Singles s t (orders_in (length answers) bytes) m answers t' m'
singles none h s W H = record { range = tt; numbers = refl; tally = refl; leaves = after_none H }
singles (more {t} {t'} {bytes} {m} {m₁} {m'} {answers} d a u r) h s W H =
    go (reading bytes) refl (acts_on t bytes m m₁ d a s W H) (λ b u X K. singles r b u X K)
  where
    Rest : Type 0
    Rest = Bytes (drop d.acted.used bytes) → (s : State) → Sound s → Holds m₁ s → Singles s d.tally (orders_in (length answers) (drop d.acted.used bytes)) m₁ answers t' m'

    go : (z : Reading) → reading bytes ≡ z → StepsTo (step_on s t (reading bytes)) d m m₁ → Rest → Singles s t (orders_in (suc (length answers)) bytes) m (numbers_of d.acted.answer ∷ answers) t' m'
    go (unread x) q A further = absurd (let e = A.used ∙ ap (λ z. (step_on s t z).used) q in omega (arith, e, u))
    go (opening n p) q A further = absurd (let e = A.used ∙ ap (λ z. (step_on s t z).used) q in omega (arith, e, u))
    go (order n o) q A further =
        let y = act s o in
        let B : StepsTo (step_on s t (order n o)) d m m₁ = subst (λ z. StepsTo (step_on s t z) d m m₁) q A in
        let z = order_fair bytes n o q in
        let I = further (bytes_drop d.acted.used bytes h) y.after (act_sound s W o (z.2 h)) B.after.holds in
        let J = subst (λ k. Singles y.after d.tally (orders_in (length answers) (drop k bytes)) m₁ answers t' m') B.used I in
        let os = orders_in (length answers) (drop n bytes) in
        let e = orders_one (length answers) bytes n o q in
        rw e (record {
          range = (z.2 h, J.range);
          numbers = ap (λ l. l ∷ answers) B.numbers ∙ ap (λ l. seven y.reply y.count ∷ l) J.numbers;
          tally = J.tally ∙ ap (λ k. tallied y.after k os) B.tally;
          leaves = after_then (sym (after_settings y.after os)) B.after J.leaves;
        })

no_singles : {t t'' : Tally} {bytes m m'' : List ℕ} {answers : List (List ℕ)} (out : List ℕ) → Singly t bytes m answers t'' m'' → length answers ≡ 0
    → (t ≡ t'') × (m ≡ m'') × (out ≡ flat answers ++ drop (7 * length answers) out)
no_singles out none z = (refl, refl, refl)
no_singles out (more d a u r) z = absurd (omega arith)

-- "act on a run of records": as many single orders leave the same memory, tally and numbers
pub run_is_singly : (t t'' : Tally) (bytes m m' m'' out out' : List ℕ) (x : RunDone) (answers : List (List ℕ)) → Bytes bytes → Bytes m' → Bytes m''
    → Runs t bytes x m m' out out' → Singly t bytes m answers t'' m'' → length answers ≡ x.ran.answered
    → (x.tally ≡ t'') × (m' ≡ m'') × (out' ≡ flat answers ++ drop (7 * length answers) out)
run_is_singly t t'' bytes m m' m'' out out' x answers h p q (inl (s, W, H, A)) r e =
    let y = run_on s t (length out) bytes in
    let I = run_is_orders s t (length out) bytes in
    let S = singles r h s W H in
    let k : length y.answers ≡ length answers = sym A.answered ∙ sym e in
    let os = orders_in (length answers) bytes in
    let f : (n : ℕ) → n ≡ length answers → orders_in n bytes ≡ os = λ n j. ap (λ n. orders_in n bytes) j in
    let same : y.answers ≡ answers = I.answers ∙ ap (sevens s) (f _ k) ∙ sym S.numbers in (
      A.tally ∙ I.tally ∙ ap (tallied s t) (f _ k) ∙ sym S.tally,
      after_one m m' m'' (after s os) (after_sound s os W S.range) p q (subst (After m m') (I.state ∙ ap (after s) (f _ k)) A.after) S.leaves,
      A.slice ∙ ap (λ l. flat l ++ drop (7 * length l) out) same,
    )
run_is_singly t t'' bytes m m' m'' out out' x answers h p q (inr (n, A)) r e =
    let z : x.ran.answered ≡ 0 = ap (λ y. y.ran.answered) A.answer in
    let N = no_singles out r (e ∙ z) in
    (ap (λ y. y.tally) A.answer ∙ N.0, A.same ∙ N.1, A.slice ∙ N.2)

-- "An order acted on raises exactly one count": of each order of a run, by its kind and its code
pub run_tally : (t : Tally) (bytes m m' out out' : List ℕ) (x : RunDone) → Runs t bytes x m m' out out' → x.tally ≡ counted t (orders_in x.ran.answered bytes) out'
run_tally t bytes m m' out out' x (inl (s, W, H, A)) =
    let I = run_is_orders s t (length out) bytes in
    let n = length (run_on s t (length out) bytes).answers in
    let os = orders_in n bytes in
    let rest = drop (7 * n) out in
    let e : tallied s t os ≡ counted t os (flat (sevens s os) ++ rest) = subst (λ l. tallied s t l ≡ counted t l (flat (sevens s os) ++ rest)) (take-length os) (sym (counted_tallied (length os) s t os rest)) in
    A.tally ∙ I.tally ∙ e ∙ (rw (A.answered, A.slice ∙ ap (λ l. flat l ++ rest) I.answers))
run_tally t bytes m m' out out' x (inr (n, A)) = rw A.answer

-- "While no count is at its top, the sum rises by the orders acted on": if none is before each order of a run on any memory
pub run_sum : (t : Tally) (bytes m m' out out' : List ℕ) (x : RunDone) → Runs t bytes x m m' out out'
    → ((n : ℕ) → n < x.ran.answered → Below (counted t (take n (orders_in x.ran.answered bytes)) out')) → sum (counts x.tally) ≡ sum (counts t) + x.ran.answered
run_sum t bytes m m' out out' x (inl (s, W, H, A)) b =
    let I = run_is_orders s t (length out) bytes in
    let k = length (run_on s t (length out) bytes).answers in
    let os = orders_in k bytes in
    let rest = drop (7 * k) out in
    let slice : out' ≡ flat (sevens s os) ++ rest = A.slice ∙ ap (λ l. flat l ++ rest) I.answers in
    let low : (n : ℕ) → n < length os → Below (tallied s t (take n os)) = λ n l.
    subst Below (ap (counted t (take n os)) slice ∙ counted_tallied n s t os rest) (subst (λ j. Below (counted t (take n (orders_in j bytes)) out')) A.answered (b n (omega (arith, l, I.many, A.answered)))) in
    let z = sum_rises s t os low in
    ap (λ k. sum (counts k)) (A.tally ∙ I.tally) ∙ (omega (arith, z, I.many, A.answered))
run_sum t bytes m m' out out' x (inr (n, A)) b = rw A.answer (omega arith)
