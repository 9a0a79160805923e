-- What each public call keeps (specs/Doors.antt), proved from its contract.
use Rattle.std.specs.Prelude.{◌≡◌, refl, ◌⊎◌, ◌≢◌, List, [], ◌∷◌, ◌++◌, ℕ, ◌*◌, ◌-◌, ◌≤◌, length, get_or, drop}
use Rattle.std.proofs.Common.{sym, ◌∙◌, ap, subst, inl, inr, arith, length-append, length-drop}
use Rattle.std.proofs.Math.Seq.{drop-append_seam}
use Rattle.numbers.specs.Words.{Bytes, word}
use Rattle.tally.specs.declared.Tally.{Tally}
use Rattle.rule.specs.Answer.{Reply, booked, swept, refused, seven, numbers_of}
use Rattle.tally.specs.Counts.{row_if, row_at, raised}
use Rattle.rule.specs.Order.{Order, booking, sweep}
use Rattle.order.specs.Records.{Reading, unread, opening, order, reading}
use Rattle.state.specs.State.{State}
use Rattle.state.specs.Act.{act}
use Rattle.state.specs.OpenLaws.{fresh_settings}
use Rattle.memory.specs.Header.{need}
use Rattle.memory.proofs.Parts.{past_none}
use Rattle.memory.specs.Holds.{Whole, After}
use Rattle.opening.proofs.Same.{broken, small, fine, answer}
use Rattle.opening.proofs.Same
use Rattle.stepping.specs.Step.{Stepped, step_on}
use Rattle.calls.specs.declared.open.Opened.{Opened}
use Rattle.calls.specs.declared.act.Done.{Done}
use Rattle.running.specs.declared.RunDone.{RunDone}
use Rattle.calls.specs.declared.tell.Told.{Told}
use Rattle.calls.specs.Opens.{settings_of, OpensAs, OpensRead, Opens}
use Rattle.running.specs.Run.{run_on, flat}
use Rattle.running.specs.Runs.{Runs}
use Rattle.calls.specs.Calls.{Acts, Tells}
use Rattle.running.proofs.Within.{run_within}
use Rattle.grounds.specs.Ends.{bytes_of}
use Rattle.grounds.specs.Orders.{orders_in, sevens}
use Rattle.grounds.specs.RecordLaws.{Fair, reading_fair}
use Rattle.grounds.specs.ReplyLaws.{Apt, act_apt, row_at_lem}
use Rattle.grounds.proofs.RunLaws.{run_is_orders, run_ends, end_codes, step_settings, step_refused, run_settings}
use Rattle.grounds.specs.Sevens.{AllRefused, flat_length, all_refused_same}
use Rattle.grounds.specs.Memories.{whole_run, after_same, room_is}
use Rattle.grounds.specs.Doors.{OpenDoor, ActDoor, RunDoor, TellDoor}

pub open_door : (room : ℕ) (bytes m m' : List ℕ) (o : Opened) → Bytes bytes → Opens room bytes o m m' → OpenDoor room o m m'
open_door room bytes m m' o h = go (reading bytes) (reading_fair bytes)
  where
    not : (x : ℕ) → (x ≡ 1) ⊎ (x ≡ 11) → (o ≡ record { code = x; used = 0 }) × (m' ≡ m) → OpenDoor room o m m'
    not x c a = record { code = rw a.0 (inr c); refused = λ n. rw a.0 (refl, a.1); past = rw a.1 (past_none (need room) m) }

    go : (z : Reading) → Fair bytes z → OpensRead room z o m m' → OpenDoor room o m m'
    go (unread x) f a = not x (inr f) a
    go (order n p) f a = not 11 (inr refl) a
    go (opening n p) f a = by (answer (settings_of room p) (length m))
      where
        by : Same.Answer (settings_of room p) (length m) → OpenDoor room o m m'
        by (broken q e) = not 1 (inl refl) (subst (λ c. OpensAs c n (settings_of room p) p.floor o m m') e a)
        by (small q e) = not 1 (inl refl) (subst (λ c. OpensAs c n (settings_of room p) p.floor o m m') e a)
        by (fine q l e) =
            let u = subst (λ c. OpensAs c n (settings_of room p) p.floor o m m') e a in
            let g = fresh_settings (settings_of room p) p.floor q (f h) in
            record { code = rw u.0 (inl refl); refused = λ k. absurd (k (rw u.0)); past = rw g at u.1.past }

-- what a step on a sound link says
record StepDoor (t : Tally) (bytes : List ℕ) (x : Stepped) : Type 0 where
  code : (get_or x.numbers 0 0 ≡ 0) ⊎ ((3 ≤ get_or x.numbers 0 0) × (get_or x.numbers 0 0 ≤ 11))
  numbers : get_or x.numbers 0 0 ≢ 0 → x.numbers ≡ get_or x.numbers 0 0 ∷ 0 ∷ 0 ∷ 0 ∷ 0 ∷ get_or x.numbers 5 0 ∷ 0 ∷ []
  used : x.used ≤ length bytes
  unread : get_or x.numbers 0 0 ≡ 11 → (x.used ≡ 0) × (x.tally ≡ t)
  tally : get_or x.numbers 0 0 ≢ 11 → (n : ℕ) × (o : Order) × (reading bytes ≡ order n o) × (x.used ≡ n) × (x.tally ≡ raised t (row_at (get_or x.numbers 0 0) (row_if o)))

step_door : (s : State) (t : Tally) (bytes : List ℕ) → StepDoor t bytes (step_on s t (reading bytes))
step_door s t bytes = go (reading bytes) refl (reading_fair bytes)
  where
    not : (x : ℕ) → x ≡ 11 → StepDoor t bytes (step_on s t (unread x))
    not x e = record { code = inr (omega arith); numbers = λ k. refl; used = omega arith; unread = λ k. (refl, refl); tally = λ k. absurd (k e) }

    go : (z : Reading) → reading bytes ≡ z → Fair bytes z → StepDoor t bytes (step_on s t z)
    go (unread x) q f = not x f
    go (opening n p) q f = not 11 refl
    go (order n o) q f = by o (act s o).reply refl (act_apt s o)
      where
        by : (o' : Order) (y : Reply) → (act s o).reply ≡ y → Apt o' (act s o).reply → StepDoor t bytes (step_on s t (order n o))
        by o' y e a = record {
          code = rw e (codes o' y (rw e at a));
          numbers = rw e (zeros y (act s o).count);
          used = f.1;
          unread = rw e (λ k. absurd (never o' y (rw e at a) k));
          tally = λ k. (n, o, q, refl, ap (raised t) (row_at_lem o (act s o).reply (act s o).count (act_apt s o)));
        }
          where
            codes : (o' : Order) (y : Reply) → Apt o' y → let k = get_or (seven y (act s o).count) 0 0 in (k ≡ 0) ⊎ ((3 ≤ k) × (k ≤ 11))
            codes o' (booked c i r g) a = inl refl
            codes o' (swept d) a = inl refl
            codes (booking r l p) (refused x) a = inr (omega arith)
            codes (sweep moment) (refused x) a = inr (omega arith)

            never : (o' : Order) (y : Reply) → Apt o' y → get_or (seven y (act s o).count) 0 0 ≡ 11 → ⊥
            never o' (booked c i r g) a k = omega arith
            never o' (swept d) a k = omega arith
            never (booking r l p) (refused x) a k = omega arith
            never (sweep moment) (refused x) a k = omega arith

            zeros : (y : Reply) (n : ℕ) → get_or (seven y n) 0 0 ≢ 0 → seven y n ≡ get_or (seven y n) 0 0 ∷ 0 ∷ 0 ∷ 0 ∷ 0 ∷ get_or (seven y n) 5 0 ∷ 0 ∷ []
            zeros (booked c i r g) n k = absurd (k refl)
            zeros (swept d) n k = absurd (k refl)
            zeros (refused x) n k = refl

pub act_door : (t : Tally) (bytes m m' : List ℕ) (d : Done) → Bytes bytes → Bytes m → Bytes m' → Acts t bytes d m m' → ActDoor t bytes d m m'
act_door t bytes m m' d h x y (inl (s, W, H, A)) =
    let D = step_door s t bytes in
    let at : (i : ℕ) → get_or (numbers_of d.acted.answer) i 0 ≡ get_or (step_on s t (reading bytes)).numbers i 0 = λ i. ap (λ l. get_or l i 0) A.numbers in
    let c : d.acted.answer.code ≡ get_or (step_on s t (reading bytes)).numbers 0 0 = at 0 in
    let n : d.acted.answer.count ≡ get_or (step_on s t (reading bytes)).numbers 5 0 = at 5 in
    record {
      code = rw c (elim D.code [ inl k ↦ inl k | inr k ↦ inr (omega (arith, k)) ]);
      whole = ((λ k. absurd (elim D.code [ inl j ↦ omega (arith, c, k, j) | inr j ↦ omega (arith, c, k, j) ])), (λ k. absurd (k (s, W, H))));
      refused = λ k.
          let e = step_refused s t (reading bytes) (λ z. k (c ∙ z)) in
          after_same m m' s W x y H (subst (After m m') e A.after);
      numbers = λ k. A.numbers ∙ D.numbers (λ z. k (c ∙ z)) ∙ rw (c, n);
      used = rw A.used D.used;
      unread = λ k. rw (A.used, A.tally) (elim k [ inl j ↦ absurd (elim D.code [ inl i ↦ omega (arith, c, i, j) | inr i ↦ omega (arith, c, i, j) ]) | inr j ↦ D.unread (sym c ∙ j) ]);
      tally = λ k j. let z = D.tally (λ i. j (c ∙ i)) in (z.0, z.1, z.2, A.used ∙ z.3, A.tally ∙ z.4 ∙ ap (λ i. raised t (row_at i (row_if z.1))) (sym c));
      past = let e : word m 0 ≡ (step_on s t (reading bytes)).after.settings.room = room_is H ∙ sym (ap (λ g. g.room) (step_settings s t (reading bytes))) in rw e A.after.past;
    }
act_door t bytes m m' d h x y (inr (n, A)) =
    let at : (i : ℕ) → get_or (numbers_of d.acted.answer) i 0 ≡ get_or (2 ∷ 0 ∷ 0 ∷ 0 ∷ 0 ∷ 0 ∷ 0 ∷ []) i 0 = λ i. ap (λ l. get_or l i 0) A.answer.numbers in
    record {
      code = inr (omega (arith, at 0));
      whole = ((λ k. n), (λ k. at 0));
      refused = λ k. A.same;
      numbers = λ k. A.answer.numbers ∙ rw (at 0, at 5);
      used = omega (arith, A.answer.used);
      unread = λ k. (A.answer.used, A.answer.tally);
      tally = λ k. absurd (k (at 0));
      past = rw A.same (past_none (need (word m 0)) m);
    }

pub run_door : (t : Tally) (bytes m m' out out' : List ℕ) (x : RunDone) → Bytes bytes → Bytes m → Bytes m' → Runs t bytes x m m' out out' → RunDoor t bytes x m m' out out'
run_door t bytes m m' out out' x h p q (inl (s, W, H, A)) =
    let y = run_on s t (length out) bytes in
    let E = run_ends s t (length out) bytes in
    let k = bytes_of (length y.answers) bytes in
    let C = end_codes (length bytes - k) (drop k bytes) (length out - 7 * length y.answers) y.code E.left in
    let I = run_is_orders s t (length out) bytes in
    let within = run_within t bytes x m m' out out' (inl (s, W, H, A)) in
    let os = orders_in (length y.answers) bytes in
    let l : length (flat y.answers) ≡ 7 * length y.answers = ap (λ a. length (flat a)) I.answers ∙ flat_length s os ∙ ap (λ n. 7 * n) I.many in
    record {
      code = rw A.code (elim C.0 [ inl k ↦ inl k | inr k ↦ inr (inr k) ]);
      whole = ((λ k. absurd (elim C.0 [ inl j ↦ omega (arith, A.code, k, j) | inr j ↦ elim j [ inl i ↦ omega (arith, A.code, k, i) | inr i ↦ omega (arith, A.code, k, i) ] ])), (λ k. absurd (k (s, W, H))));
      refused = λ k.
          let rest = drop (7 * length y.answers) out in
          let v = subst (AllRefused x.ran.answered) (A.slice ∙ ap (λ a. flat a ++ rest) I.answers) k in
          let u = subst (λ n. AllRefused n (flat (sevens s os) ++ rest)) (A.answered ∙ sym I.many) v in
          let e : y.state ≡ s = I.state ∙ all_refused_same s os rest u in
          after_same m m' s W p q H (subst (After m m') e A.after);
      place = (
        omega (arith, A.place, E.place, E.inside),
        (λ k. omega (arith, A.place, E.place, E.inside, C.1 (sym A.code ∙ k))),
      );
      answers = within;
      slice = (
        rw A.slice (omega (arith, length-append (flat y.answers) (drop (7 * length y.answers) out), l, length-drop (7 * length y.answers) out, A.answered, within)),
        rw (A.slice, A.answered, ← l) (drop-append_seam (flat y.answers) (drop (length (flat y.answers)) out)),
      );
      past = let e : word m 0 ≡ y.state.settings.room = room_is H ∙ sym (ap (λ g. g.room) (run_settings s t (length out) bytes)) in rw e A.after.past;
    }
run_door t bytes m m' out out' x h p q (inr (n, A)) = record {
  code = rw A.answer (inr (inl refl));
  whole = ((λ k. n), (λ k. rw A.answer));
  refused = λ k. A.same;
  place = rw A.answer (omega arith, (λ k. absurd (omega arith)));
  answers = rw A.answer (omega arith);
  slice = (ap length A.slice, ap (drop (7 * x.ran.answered)) A.slice);
  past = rw A.same (past_none (need (word m 0)) m);
}

-- "an empty run on a whole link ends well with nothing written"
pub empty_run : (t : Tally) (m m' out out' : List ℕ) (x : RunDone) → Whole m → Bytes m → Bytes m' → Runs t [] x m m' out out'
    → (x ≡ record { tally = t; ran = record { code = 0; place = 0; answered = 0 } }) × (m' ≡ m) × (out' ≡ out)
empty_run t m m' out out' x w p q (inl (s, W, H, A)) = (whole_run x ∙ rw (A.tally, A.code, A.place, A.answered), after_same m m' s W p q H A.after, A.slice)
empty_run t m m' out out' x w p q (inr (n, A)) = absurd (n w)

pub tell_door : (m : List ℕ) (x : Told) → Tells x m → TellDoor x m
tell_door m x (inl (s, W, H, A)) = record { code = rw A (inl refl); whole = rw A ((λ k. absurd (omega arith)), (λ k. absurd (k (s, W, H)))); refused = λ k. absurd (k (rw A)) }
tell_door m x (inr (n, A)) = record { code = rw A (inr refl); whole = ((λ k. n), (λ k. rw A)); refused = λ k. rw A }
