-- A run is its single orders one after the other; where it ends; that it leaves a sound link sound.
-- 01, What comes back: "A run returns the code that ended it (0 at its end), that place (then its length) and the number of records answered."
use Rattle.std.specs.Prelude.{◌≡◌, refl, ◌⊎◌, ◌≢◌, List, [], ◌∷◌, ℕ, zero, suc, ◌+◌, ◌*◌, ◌-◌, ◌≤◌, ◌<◌, length, get_or, drop}
use Rattle.std.proofs.Common.{◌∙◌, ap, inl, inr, arith, length-drop, drop-drop}
use Rattle.numbers.specs.Case.{case_le}
use Rattle.tally.specs.declared.Tally.{Tally}
use Rattle.rule.specs.Order.{Order}
use Rattle.rule.specs.Answer.{seven}
use Rattle.tally.specs.Counts.{row_of, raised}
use Rattle.order.specs.Records.{Reading, unread, opening, order, reading}
use Rattle.numbers.specs.Words.{Bytes}
use Rattle.state.specs.State.{State}
use Rattle.state.specs.Act.{act}
use Rattle.state.specs.Sound.{Sound}
use Rattle.state.proofs.SoundLaws.{act_sound}
use Rattle.state.specs.SettingsLaws.{act_settings}
use Rattle.state.specs.Range.{AllInRange}
use Rattle.stepping.specs.Step.{step_on}
use Rattle.running.specs.Run.{Ran, ended, answered, onward, run_from, run_on}
use Rattle.grounds.specs.Ends.{bytes_of, NoOrder, EndsWith}
use Rattle.grounds.specs.Orders.{orders_in, orders_one, sevens, after, tallied}
use Rattle.grounds.specs.Sevens.{coded_same}
use Rattle.grounds.specs.RecordLaws.{bytes_drop, Fair, reading_fair, order_fair}

-- ---- the ways in which a run goes on: it is at its end, lacks room, cannot read, or acts on an order
pub data Running : State → Tally → (room place : ℕ) → List ℕ → Ran → Type 0 where
  done : {s : State} {t : Tally} {room place : ℕ} → Running s t room place [] (ended s t 0 place)
  full : {s : State} {t : Tally} {room place b : ℕ} {bs : List ℕ} → room < 7 → Running s t room place (b ∷ bs) (ended s t 12 place)
  stuck : {s : State} {t : Tally} {room place b : ℕ} {bs : List ℕ} (x : ℕ) → 7 ≤ room → NoOrder (reading (b ∷ bs)) x → Running s t room place (b ∷ bs) (ended s t x place)
  one : {s : State} {t : Tally} {room place b : ℕ} {bs : List ℕ} {x : Ran} (used : ℕ) (o : Order) → 7 ≤ room → reading (b ∷ bs) ≡ order used o
      → Running (act s o).after (raised t (row_of (act s o).reply)) (room - 7) (place + used) (drop used (b ∷ bs)) x
      → Running s t room place (b ∷ bs) (answered (seven (act s o).reply (act s o).count) x)

running_from : (n : ℕ) (s : State) (t : Tally) (room place : ℕ) (bytes : List ℕ) → length bytes ≤ n → Running s t room place bytes (run_from n s t room place bytes)
running_from zero s t room place [] h = done
running_from zero s t room place (b ∷ bs) h = absurd (omega arith)
running_from (suc n) s t room place [] h = done
running_from (suc n) s t room place (b ∷ bs) h = elim (case_le 7 room) [
  | inl y ↦ rw y.1 (go y.0 (reading (b ∷ bs)) refl (reading_fair (b ∷ bs)) (running_from n))
  | inr y ↦ rw y.1 (full y.0)
]
  where
    go : 7 ≤ room → (z : Reading) → reading (b ∷ bs) ≡ z → Fair (b ∷ bs) (reading (b ∷ bs))
        → ((s : State) (t : Tally) (room place : ℕ) (bytes : List ℕ) → length bytes ≤ n → Running s t room place bytes (run_from n s t room place bytes))
        → Running s t room place (b ∷ bs) (onward s t place (reading (b ∷ bs)) (λ used o.
        let y = act s o in answered (seven y.reply y.count) (run_from n y.after (raised t (row_of y.reply)) (room - 7) (place + used) (drop used (b ∷ bs)))))
    go g (unread x) q f more = let e : NoOrder (reading (b ∷ bs)) x = rw q refl in rw q (stuck x g e)
    go g (opening k p) q f more = let e : NoOrder (reading (b ∷ bs)) 11 = rw q refl in rw q (stuck 11 g e)
    go g (order used o) q f more =
        let z = order_fair (b ∷ bs) used o q in
        rw q (one used o g q (more (act s o).after (raised t (row_of (act s o).reply)) (room - 7) (place + used) (drop used (b ∷ bs)) (omega (arith, length-drop used (b ∷ bs), z))))

pub running : (s : State) (t : Tally) (room : ℕ) (bytes : List ℕ) → Running s t room 0 bytes (run_on s t room bytes)
running s t room bytes = running_from (length bytes) s t room 0 bytes (omega arith)

-- ---- a run is its orders
pub record IsOrders (s : State) (t : Tally) (bytes : List ℕ) (x : Ran) : Type 0 where
  pub many : length (orders_in (length x.answers) bytes) ≡ length x.answers
  pub answers : x.answers ≡ sevens s (orders_in (length x.answers) bytes)
  pub state : x.state ≡ after s (orders_in (length x.answers) bytes)
  pub tally : x.tally ≡ tallied s t (orders_in (length x.answers) bytes)
  pub range : Bytes bytes → AllInRange (orders_in (length x.answers) bytes)

is_orders : {s : State} {t : Tally} {room place : ℕ} {bytes : List ℕ} {x : Ran} → Running s t room place bytes x → IsOrders s t bytes x
is_orders done = record { many = refl; answers = refl; state = refl; tally = refl; range = λ h. tt }
is_orders (full g) = record { many = refl; answers = refl; state = refl; tally = refl; range = λ h. tt }
is_orders (stuck x g n) = record { many = refl; answers = refl; state = refl; tally = refl; range = λ h. tt }
is_orders (one {s} {b} {bs} {x} used o g q r) =
    let I = is_orders r in
    let e = orders_one (length x.answers) (b ∷ bs) used o q in
    record {
      many = rw e (ap suc I.many);
      answers = rw e (ap (λ l. seven (act s o).reply (act s o).count ∷ l) I.answers);
      state = rw e I.state;
      tally = rw e I.tally;
      range = rw e (λ h. ((order_fair (b ∷ bs) used o q).2 h, I.range (bytes_drop used (b ∷ bs) h)));
    }

pub run_is_orders : (s : State) (t : Tally) (room : ℕ) (bytes : List ℕ) → IsOrders s t bytes (run_on s t room bytes)
run_is_orders s t room bytes = is_orders (running s t room bytes)

-- ---- where it ends: after the records answered, by what is left
pub record Ends (room before : ℕ) (bytes : List ℕ) (x : Ran) : Type 0 where
  pub place : x.place ≡ before + bytes_of (length x.answers) bytes
  pub inside : bytes_of (length x.answers) bytes ≤ length bytes
  pub left : let k = bytes_of (length x.answers) bytes in EndsWith (length bytes - k) (reading (drop k bytes)) (room - 7 * length x.answers) x.code

-- the first record, an order, and those after it
bytes_one : (n : ℕ) (bytes : List ℕ) (used : ℕ) (o : Order) → reading bytes ≡ order used o → bytes_of (suc n) bytes ≡ used + bytes_of n (drop used bytes)
bytes_one n bytes used o q = rw (q, bytes_of)

pub ends : {s : State} {t : Tally} {room place : ℕ} {bytes : List ℕ} {x : Ran} → Running s t room place bytes x → Ends room place bytes x
ends done = record { place = omega arith; inside = omega arith; left = refl }
ends (full {room} {bs} g) = record { place = omega arith; inside = omega arith; left = let e : suc (length bs) - 0 ≡ suc (length bs) = omega arith in rw e (elim (case_le 7 (room - 0)) [ inl y ↦ absurd (omega arith) | inr y ↦ rw y.1 refl ]) }
ends (stuck {room} {bs} x g n) = record { place = omega arith; inside = omega arith; left = let e : suc (length bs) - 0 ≡ suc (length bs) = omega arith in rw e (elim (case_le 7 (room - 0)) [ inl y ↦ rw y.1 n | inr y ↦ absurd (omega arith) ]) }
ends (one {room} {b} {bs} {x} used o g q r) =
    let z = order_fair (b ∷ bs) used o q in
    let E = ends r in
    let e = bytes_one (length x.answers) (b ∷ bs) used o q in
    let l = length-drop used (b ∷ bs) in
    let j : length (drop used (b ∷ bs)) - bytes_of (length x.answers) (drop used (b ∷ bs)) ≡ length (b ∷ bs) - (used + bytes_of (length x.answers) (drop used (b ∷ bs))) = omega (arith, l) in
    let k : room - 7 - 7 * length x.answers ≡ room - 7 * suc (length x.answers) = omega arith in
    record {
      place = omega (arith, E.place, e);
      inside = omega (arith, E.inside, e, l, z);
      left = rw (e, ← drop-drop (bytes_of (length x.answers) (drop used (b ∷ bs))) used (b ∷ bs), ← k, ← j) E.left;
    }

pub run_ends : (s : State) (t : Tally) (room : ℕ) (bytes : List ℕ) → Ends room 0 bytes (run_on s t room bytes)
run_ends s t room bytes = ends (running s t room bytes)

-- its codes; and where it ends well, nothing is left
pub end_codes : (n : ℕ) (bytes : List ℕ) (room code : ℕ) → EndsWith n (reading bytes) room code → ((code ≡ 0) ⊎ ((code ≡ 11) ⊎ (code ≡ 12))) × (code ≡ 0 → n ≡ 0)
end_codes zero bytes room code = λ e. (inl e, (λ z. refl))
end_codes (suc n) bytes room code = elim (case_le 7 room) [
  | inl y ↦ rw y.1 (λ e. let k = go (reading bytes) (reading_fair bytes) e in (inr (inl k), (λ z. absurd (omega (arith, k, z)))))
  | inr y ↦ rw y.1 (λ e. (inr (inr e), (λ z. absurd (omega (arith, e, z)))))
]
  where
    go : (z : Reading) → Fair bytes z → NoOrder z code → code ≡ 11
    go (unread x) f e = e ∙ f
    go (opening k p) f e = e
    go (order k o) f e = absurd e

-- ---- orders one after the other leave a sound link sound, and its settings
pub after_sound : (s : State) (os : List Order) → Sound s → AllInRange os → Sound (after s os)
after_sound s [] W a = W
after_sound s (o ∷ os) W a = after_sound (act s o).after os (act_sound s W o a.0) a.1

pub after_settings : (s : State) (os : List Order) → (after s os).settings ≡ s.settings
after_settings s [] = refl
after_settings s (o ∷ os) = after_settings (act s o).after os ∙ act_settings s o

-- ---- what a record leaves: the settings, and under every code but 0 the link itself
module _ (s : State) (t : Tally) where
  pub step_settings : (z : Reading) → (step_on s t z).after.settings ≡ s.settings
  step_settings (unread x) = refl
  step_settings (opening n p) = refl
  step_settings (order n o) = act_settings s o

  pub step_refused : (z : Reading) → get_or (step_on s t z).numbers 0 0 ≢ 0 → (step_on s t z).after ≡ s
  step_refused (unread x) h = refl
  step_refused (opening n p) h = refl
  step_refused (order n o) h = coded_same s o h

  pub run_settings : (room : ℕ) (bytes : List ℕ) → (run_on s t room bytes).state.settings ≡ s.settings
  run_settings room bytes =
      let I = run_is_orders s t room bytes in
      ap (λ (u : State). u.settings) I.state ∙ after_settings s (orders_in (length (run_on s t room bytes).answers) bytes)
