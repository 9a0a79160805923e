-- What an opening answers and makes, and what ends a run or a single order that is none, exactly. 01, What comes back: the codes 1, 2, 11 and
-- 12, bytes used, and the place where a run ended. What a whole link is (`Whole`) only who lends memory that others may have changed has to
-- read (docs/PROMISES.md): of memory that only these calls have changed it always holds (grounds' `always_whole`).
use Rattle.std.specs.Prelude.{◌≡◌, refl, ◌↔◌, Bool, true, false, List, [], ℕ, ◌+◌, ◌*◌, ◌-◌, ◌≤◌, leb}
use Rattle.std.proofs.Common.{sym, ◌∙◌, ap, subst, inl, inr, arith}
use lib.ListN.{length, drop}
use Rattle.numbers.specs.Case.{pick, case_le}
use Rattle.numbers.specs.Words.{Bytes}
use Rattle.tally.specs.declared.Tally.{Tally}
use Rattle.rule.specs.Settings.{settings, in_bounds}
use Rattle.order.specs.Records.{Reading, Opening, unread, opening, order, reading}
use Rattle.memory.specs.Header.{need}
use Rattle.memory.specs.Holds.{Whole}
use Rattle.opening.proofs.Same.{broken, small, fine, answer}
use Rattle.opening.proofs.Same
use Rattle.stepping.specs.Step.{step_on}
use Rattle.calls.specs.declared.open.Opened.{Opened}
use Rattle.calls.specs.declared.act.Done.{Done}
use Rattle.running.specs.declared.RunDone.{RunDone}
use Rattle.calls.specs.Opens.{settings_of, OpensAs, OpensRead, Opens}
use Rattle.running.specs.Run.{run_on}
use Rattle.running.specs.Runs.{Runs}
use Rattle.calls.specs.Calls.{Acts}
use Rattle.grounds.specs.Ends.{opens_with, bytes_of, NoOrder, EndsWith}
use Rattle.grounds.specs.RecordLaws.{Fair, reading_fair}
use Rattle.grounds.proofs.RunLaws.{run_ends}
use Rattle.grounds.specs.Session.{Since, opened}
use Rattle.grounds.proofs.Doors.{act_door, run_door}

-- ---- open
-- "1: a bound above is broken, or the lent memory is smaller than the stated need"; 11 is any record but a whole OL
pub open_answers : (room : ℕ) (bytes m m' : List ℕ) (o : Opened) → Opens room bytes o m m' → ◌≡◌ {A = ℕ × ℕ} (o.code, o.used) (opens_with room (leb (need room) (length m)) (reading bytes))
open_answers room bytes m m' o = go (reading bytes)
  where
    is : (code used : ℕ) → o ≡ record { code = code; used = used } → ◌≡◌ {A = ℕ × ℕ} (o.code, o.used) (code, used)
    is code used e = rw e

    go : (z : Reading) → OpensRead room z o m m' → ◌≡◌ {A = ℕ × ℕ} (o.code, o.used) (opens_with room (leb (need room) (length m)) z)
    go (unread x) a = is x 0 a.0
    go (order n p) a = is 11 0 a.0
    go (opening n p) a = by (answer (settings_of room p) (length m))
      where
        at : {c d : ℕ} → c ≡ d → OpensAs c n (settings_of room p) p.floor o m m' → OpensAs d n (settings_of room p) p.floor o m m'
        at e = subst (λ c. OpensAs c n (settings_of room p) p.floor o m m') e

        either : (b : Bool) → ◌≡◌ {A = ℕ × ℕ} (pick b (1, 0) (1, 0)) (1, 0)
        either true = refl
        either false = refl

        by : Same.Answer (settings_of room p) (length m) → ◌≡◌ {A = ℕ × ℕ} (o.code, o.used) (opens_with room (leb (need room) (length m)) (opening n p))
        by (broken h e) = rw h (is 1 0 (at e a).0)
        by (small l e) = elim (case_le (need room) (length m)) [
          | inl y ↦ absurd (omega arith)
          | inr y ↦ rw y.1 (is 1 0 (at e a).0 ∙ sym (either (in_bounds (settings_of room p))))
        ]
        by (fine h l e) = elim (case_le (need room) (length m)) [ inl y ↦ rw (h, y.1) (is 0 n (at e a).0) | inr y ↦ absurd (omega arith) ]

-- an accepted opening makes the link with the settings and the floor of its record: with no history yet
pub open_begins : (room : ℕ) (bytes m m' : List ℕ) (o : Opened) (used : ℕ) (p : Opening) → Bytes bytes → Opens room bytes o m m' → reading bytes ≡ opening used p → o.code ≡ 0
    → Since (settings room p.channels p.leap p.delays) p.floor [] m'
open_begins room bytes m m' o used p b a q z = opened m bytes used o b a z q

-- "Memory of 96 bytes for each place of the room and 256 more is always enough": such memory is not refused for its length
pub always_enough : (room : ℕ) (bytes m m' : List ℕ) (o : Opened) (used : ℕ) (p : Opening) → Opens room bytes o m m' → reading bytes ≡ opening used p
    → in_bounds (settings room p.channels p.leap p.delays) ≡ true → 96 * room + 256 ≤ length m → (need room ≤ 96 * room + 256) × (o.code ≡ 0)
always_enough room bytes m m' o used p a q h l =
    let e : o.code ≡ (opens_with room (leb (need room) (length m)) (opening used p)).0 = ap (λ (x : ℕ × ℕ). x.0) (open_answers room bytes m m' o a) ∙ ap (λ z. (opens_with room (leb (need room) (length m)) z).0) q in
    elim (case_le (need room) (length m)) [
      | inl y ↦ (omega arith, e ∙ (rw (h, y.1)))
      | inr y ↦ absurd (omega arith)
    ]

-- ---- act: a single order that is none; and the bytes used
pub act_ends : (t : Tally) (bytes m m' : List ℕ) (d : Done) → Bytes bytes → Bytes m → Bytes m' → Acts t bytes d m m'
    → ((d.acted.answer.code ≡ 2) ↔ (¬ (Whole m)))
    × (Whole m → (d.acted.used ≡ bytes_of 1 bytes) × (bytes_of 1 bytes ≡ 0 → NoOrder (reading bytes) d.acted.answer.code))
act_ends t bytes m m' d b x y a = ((act_door t bytes m m' d b x y a).whole, go a)
  where
    go : Acts t bytes d m m' → Whole m → (d.acted.used ≡ bytes_of 1 bytes) × (bytes_of 1 bytes ≡ 0 → NoOrder (reading bytes) d.acted.answer.code)
    go (inr (n, A)) w = absurd (n w)
    go (inl (s, W, H, A)) w = by (reading bytes) refl (reading_fair bytes)
      where
        by : (z : Reading) → reading bytes ≡ z → Fair bytes z → (d.acted.used ≡ bytes_of 1 bytes) × (bytes_of 1 bytes ≡ 0 → NoOrder (reading bytes) d.acted.answer.code)
        by (unread c) q f = (A.used ∙ ap (λ z. (step_on s t z).used) q ∙ (rw (q, bytes_of)), (λ e. rw q (ap (λ l. lib.ListN.get_or l 0 0) (A.numbers ∙ ap (λ z. (step_on s t z).numbers) q))))
        by (opening n p) q f = (A.used ∙ ap (λ z. (step_on s t z).used) q ∙ (rw (q, bytes_of)), (λ e. rw q (ap (λ l. lib.ListN.get_or l 0 0) (A.numbers ∙ ap (λ z. (step_on s t z).numbers) q))))
        by (order n o) q f =
            let u : bytes_of 1 bytes ≡ n = rw (q, bytes_of) (omega arith) in
            (A.used ∙ ap (λ z. (step_on s t z).used) q ∙ sym u, (λ e. absurd (omega (arith, u, e, f.0))))

-- ---- run: its place is the sum of the lengths of the records answered, and what is left there, with the room left, ended it
pub run_ended : (t : Tally) (bytes m m' out out' : List ℕ) (x : RunDone) → Bytes bytes → Bytes m → Bytes m' → Runs t bytes x m m' out out'
    → ((x.ran.code ≡ 2) ↔ (¬ (Whole m)))
    × (x.ran.place ≡ bytes_of x.ran.answered bytes)
    × (¬ (Whole m) → x.ran.answered ≡ 0)
    × (Whole m → EndsWith (length bytes - x.ran.place) (reading (drop x.ran.place bytes)) (length out - 7 * x.ran.answered) x.ran.code)
run_ended t bytes m m' out out' x b p q a = let G = go a in ((run_door t bytes m m' out out' x b p q a).whole, G.0, G.1, G.2)
  where
    go : Runs t bytes x m m' out out'
        → (x.ran.place ≡ bytes_of x.ran.answered bytes) × (¬ (Whole m) → x.ran.answered ≡ 0) × (Whole m → EndsWith (length bytes - x.ran.place) (reading (drop x.ran.place bytes)) (length out - 7 * x.ran.answered) x.ran.code)
    go (inl (s, W, H, A)) =
        let E = run_ends s t (length out) bytes in
        let k : x.ran.place ≡ bytes_of (length (run_on s t (length out) bytes).answers) bytes = omega (arith, A.place, E.place) in (
          k ∙ ap (λ n. bytes_of n bytes) (sym A.answered),
          (λ n. absurd (n (s, W, H))),
          (λ w. rw (k, A.answered, A.code) E.left),
        )
    go (inr (n, A)) = (rw A.answer, (λ k. rw A.answer), (λ w. absurd (n w)))
