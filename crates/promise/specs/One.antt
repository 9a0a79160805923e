-- One outcome (01, How much a promise has to say): "for each input, refused ones too, that statement leaves a single possible answer
-- and a single content of the lent memory and tally. Show this by proving that any two outcomes allowed are equal." No exception.
use Rattle.std.specs.Prelude.{◌≡◌, refl, List, ℕ, length, get_or}
use Rattle.std.proofs.Common.{sym, ◌∙◌, ap, subst}
use Rattle.tally.specs.declared.Tally.{Tally}
use Rattle.rule.specs.declared.answer.Answer.{Answer}
use Rattle.rule.specs.Answer.{numbers_of}
use Rattle.order.specs.Records.{Reading, unread, opening, order, reading}
use Rattle.shape.specs.Tree.{size}
use Rattle.numbers.specs.Words.{Bytes}
use Rattle.state.specs.Open.{fresh}
use Rattle.memory.proofs.Same.{one_after}
use Rattle.opening.proofs.Same.{broken, small, fine, answer}
use Rattle.opening.proofs.Same
use Rattle.opening.specs.Opening.{opening_code}
use Rattle.opening.proofs.Widening.{placed_fresh}
use Rattle.stepping.specs.Step.{step_on}
use Rattle.calls.specs.declared.open.Opened.{Opened}
use Rattle.calls.specs.declared.act.Done.{Done}
use Rattle.running.specs.declared.RunDone.{RunDone}
use Rattle.calls.specs.declared.tell.Told.{Told}
use Rattle.calls.specs.Opens.{settings_of, OpensAs, OpensRead, Opens}
use Rattle.running.specs.Run.{run_on}
use Rattle.running.specs.Runs.{RunsTo, RunsNot, Runs}
use Rattle.calls.specs.Calls.{StepsTo, ActsNot, Acts, Tells}
use Rattle.grounds.specs.Memories.{whole_run, gives_both, after_one}

-- the seven numbers fix the answer
whole_answer : (a : Answer) → a ≡ record { code = a.code; channel = a.channel; line = a.line; start = a.start; finish = a.finish; count = a.count; dropped = a.dropped }
whole_answer a = refl

answer_one : (a b : Answer) → numbers_of a ≡ numbers_of b → a ≡ b
answer_one a b q =
    let at : (i : ℕ) → get_or (numbers_of a) i 0 ≡ get_or (numbers_of b) i 0 = λ i. ap (λ l. get_or l i 0) q in
    whole_answer a ∙ rw (at 0, at 1, at 2, at 3, at 4, at 5, at 6)

whole_done : (d : Done) → d ≡ record { tally = d.tally; acted = record { answer = d.acted.answer; used = d.acted.used } }
whole_done d = refl

done_one : (d d' : Done) → numbers_of d.acted.answer ≡ numbers_of d'.acted.answer → d.acted.used ≡ d'.acted.used → d.tally ≡ d'.tally → d ≡ d'
done_one d d' a u t = let e = answer_one d.acted.answer d'.acted.answer a in whole_done d ∙ rw (e, u, t)

-- ---- open
pub one_open : (room : ℕ) (bytes m m' m'' : List ℕ) (o o' : Opened) → Bytes m' → Bytes m'' → Opens room bytes o m m' → Opens room bytes o' m m'' → (o ≡ o') × (m' ≡ m'')
one_open room bytes m m' m'' o o' x y = go (reading bytes)
  where
    go : (z : Reading) → OpensRead room z o m m' → OpensRead room z o' m m'' → (o ≡ o') × (m' ≡ m'')
    go (unread c) a b = (a.0 ∙ sym b.0, a.1 ∙ sym b.1)
    go (order n p) a b = (a.0 ∙ sym b.0, a.1 ∙ sym b.1)
    go (opening n p) a b = by (answer (settings_of room p) (length m))
      where
        refusal : opening_code (settings_of room p) (length m) ≡ 1 → (o ≡ o') × (m' ≡ m'')
        refusal e =
            let u = subst (λ c. OpensAs c n (settings_of room p) p.floor o m m') e a in
            let v = subst (λ c. OpensAs c n (settings_of room p) p.floor o' m m'') e b in
            (u.0 ∙ sym v.0, u.1 ∙ sym v.1)

        by : Same.Answer (settings_of room p) (length m) → (o ≡ o') × (m' ≡ m'')
        by (broken h e) = refusal e
        by (small h e) = refusal e
        by (fine h l e) =
            let u = subst (λ c. OpensAs c n (settings_of room p) p.floor o m m') e a in
            let v = subst (λ c. OpensAs c n (settings_of room p) p.floor o' m m'') e b in
            (u.0 ∙ sym v.0, one_after m m' m'' (fresh (settings_of room p) p.floor) (placed_fresh (settings_of room p) p.floor h) x y u.1 v.1)

-- ---- act
pub one_act : (t : Tally) (bytes m m' m'' : List ℕ) (d d' : Done) → Bytes m' → Bytes m'' → Acts t bytes d m m' → Acts t bytes d' m m'' → (d ≡ d') × (m' ≡ m'')
one_act t bytes m m' m'' d d' x y a b =
    gives_both m (λ s. StepsTo (step_on s t (reading bytes)) d m m') (λ s. StepsTo (step_on s t (reading bytes)) d' m m'') (ActsNot t d m m') (ActsNot t d' m m'') _ a b
    (λ s W H u v. (
      done_one d d' (u.numbers ∙ sym v.numbers) (u.used ∙ sym v.used) (u.tally ∙ sym v.tally),
      after_one m m' m'' _ u.sound x y u.after v.after,
    ))
    (λ u v. (done_one d d' (u.answer.numbers ∙ sym v.answer.numbers) (u.answer.used ∙ sym v.answer.used) (u.answer.tally ∙ sym v.answer.tally), u.same ∙ sym v.same))

-- ---- run: the answer slice too
pub one_run : (t : Tally) (bytes m m' m'' out out' out'' : List ℕ) (x x' : RunDone) → Bytes m' → Bytes m''
    → Runs t bytes x m m' out out' → Runs t bytes x' m m'' out out'' → (x ≡ x') × (m' ≡ m'') × (out' ≡ out'')
one_run t bytes m m' m'' out out' out'' x x' p q a b =
    gives_both m (λ s. RunsTo (run_on s t (length out) bytes) x m m' out out') (λ s. RunsTo (run_on s t (length out) bytes) x' m m'' out out'')
    (RunsNot t x m m' out out') (RunsNot t x' m m'' out out'') _ a b
    (λ s W H u v.
    let e : x.tally ≡ x'.tally = u.tally ∙ sym v.tally in
    let f : x.ran.code ≡ x'.ran.code = u.code ∙ sym v.code in
    let g : x.ran.place ≡ x'.ran.place = u.place ∙ sym v.place in
    let k : x.ran.answered ≡ x'.ran.answered = u.answered ∙ sym v.answered in (
      whole_run x ∙ rw (e, f, g, k),
      after_one m m' m'' _ u.sound p q u.after v.after,
      u.slice ∙ sym v.slice,
    ))
    (λ u v. (u.answer ∙ sym v.answer, u.same ∙ sym v.same, u.slice ∙ sym v.slice))

-- ---- tell, which is lent nothing to change
pub one_tell : (m : List ℕ) (x y : Told) → Tells x m → Tells y m → x ≡ y
one_tell m x y a b =
    gives_both m (λ s. x ≡ record { code = 0; voids = size s.tree }) (λ s. y ≡ record { code = 0; voids = size s.tree }) _ _ _ a b
    (λ s W H u v. u ∙ sym v) (λ u v. u ∙ sym v)
