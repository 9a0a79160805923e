-- Demand 1, one theorem for each public call, for every byte string and every memory. That a call ends and touches nothing but what it is lent
-- is proved of its code; here: its codes, that a refusal changes no byte, that nothing past the need is written. In full: grounds' Doors.antt.
use Rattle.std.specs.Prelude.{◌≡◌, ◌⊎◌, ◌≢◌, List, ℕ, ◌+◌, ◌*◌, ◌≤◌, ◌<◌, length, get_or, drop}
use Rattle.std.proofs.Common.{sym, ◌∙◌, inl, inr, arith, length-drop, ext_get_or, get_or-drop}
use Rattle.numbers.specs.Words.{Bytes, word}
use Rattle.tally.specs.declared.Tally.{Tally}
use Rattle.memory.specs.Header.{need}
use Rattle.memory.specs.Holds.{Past}
use Rattle.calls.specs.declared.open.Opened.{Opened}
use Rattle.calls.specs.declared.act.Done.{Done}
use Rattle.running.specs.declared.RunDone.{RunDone}
use Rattle.calls.specs.declared.tell.Told.{Told}
use Rattle.calls.specs.Opens.{Opens}
use Rattle.running.specs.Runs.{Runs}
use Rattle.calls.specs.Calls.{Acts, Tells}
use Rattle.grounds.specs.Sevens.{all_refused}
use Rattle.grounds.proofs.Doors.{open_door, act_door, run_door, tell_door}

-- a call has left the memory m as m'. Refused: nothing was accepted; n: what the link needs
pub record Safe (Refused : Type 0) (n : ℕ) (m m' : List ℕ) : Type 0 where
  -- "Every code but 0 leaves link memory as it stood before that record, byte for byte."
  pub kept : Refused → m' ≡ m
  -- "Memory past what that room needs is never written."
  pub past : (length m' ≡ length m) × (drop n m' ≡ drop n m)

past_dropped : (n : ℕ) (m m' : List ℕ) → Past n m m' → (length m' ≡ length m) × (drop n m' ≡ drop n m)
past_dropped n m m' p = (
  p.len,
  ext_get_or 0 (drop n m') (drop n m) (omega (arith, length-drop n m', length-drop n m, p.len))
      (λ i h. get_or-drop n m' i 0 ∙ p.byte (n + i) (omega arith) ∙ sym (get_or-drop n m i 0)),
)

pub open_safe : (room : ℕ) (bytes m m' : List ℕ) (o : Opened) → Bytes bytes → Opens room bytes o m m'
    → ((o.code ≡ 0) ⊎ ((o.code ≡ 1) ⊎ (o.code ≡ 11))) × Safe (o.code ≢ 0) (need room) m m'
open_safe room bytes m m' o b a =
    let D = open_door room bytes m m' o b a in
    (D.code, record { kept = λ n. (D.refused n).1; past = past_dropped (need room) m m' D.past })

-- the need is that of the room in the header, its first word
pub act_safe : (t : Tally) (bytes m m' : List ℕ) (d : Done) → Bytes bytes → Bytes m → Bytes m' → Acts t bytes d m m'
    → ((d.acted.answer.code ≡ 0) ⊎ ((2 ≤ d.acted.answer.code) × (d.acted.answer.code ≤ 11)))
    × Safe (d.acted.answer.code ≢ 0) (need (word m 0)) m m'
act_safe t bytes m m' d b x y a =
    let D = act_door t bytes m m' d b x y a in
    (D.code, record { kept = D.refused; past = past_dropped (need (word m 0)) m m' D.past })

-- nothing was accepted: none of the answers has code 0. The answer slice out becomes out', and its unused part is untouched
pub run_safe : (t : Tally) (bytes m m' out out' : List ℕ) (x : RunDone) → Bytes bytes → Bytes m → Bytes m' → Runs t bytes x m m' out out'
    → ((x.ran.code ≡ 0) ⊎ ((x.ran.code ≡ 2) ⊎ ((x.ran.code ≡ 11) ⊎ (x.ran.code ≡ 12))))
    × Safe ((i : ℕ) → i < x.ran.answered → get_or out' (7 * i) 0 ≢ 0) (need (word m 0)) m m'
    × (length out' ≡ length out) × (drop (7 * x.ran.answered) out' ≡ drop (7 * x.ran.answered) out)
run_safe t bytes m m' out out' x b p q a =
    let D = run_door t bytes m m' out out' x b p q a in (
      D.code,
      record { kept = λ h. D.refused (all_refused x.ran.answered out' h); past = past_dropped (need (word m 0)) m m' D.past },
      D.slice.0,
      D.slice.1,
    )

-- it is lent nothing to change
pub tell_safe : (m : List ℕ) (x : Told) → Tells x m → (x.code ≡ 0) ⊎ ((x.code ≡ 2) × (x.voids ≡ 0))
tell_safe m x a =
    let D = tell_door m x a in
    elim D.code [ inl z ↦ inl z | inr z ↦ inr (z, D.refused (λ k. omega (arith, k, z))) ]
