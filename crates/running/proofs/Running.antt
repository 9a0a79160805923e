-- The run so far: what the loop over the records keeps, where it begins, what a record adds, and what the run is where it stops.
use mathlib.Core.Path.{◌≡◌, refl, sym, ap, ap₂, ◌∙◌, subst}
use mathlib.Core.Logic.{inl}
use Rattle.std.specs.Prelude.{Result, Ok, Err}
use mathlib.Core.List.{List, [], ◌∷◌, ◌++◌, append_assoc, append-nil}
use Prim.Native.Nat.{ℕ, zero, suc, ◌+◌, ◌*◌, ◌-◌, ◌≤◌, ◌<◌}
use native.Mathlib.Omega.{arith}
use borrow.Author.Tests.{le-leb, lt-leb}
use lib.ListN.{length, take, drop, length-append, length-drop, take-append-drop, drop_of_length-le}
use lib.Seq.{take_all, sets, sets-eq, length-sets, take_at, drop_at, drop-drop, length-take-le}
use Rattle.tally.specs.declared.Tally.{Tally}
use Rattle.rule.specs.Order.{Order}
use Rattle.rule.specs.Answer.{seven, numbers_of}
use Rattle.tally.specs.Counts.{row_of, index_of, raised}
use Rattle.order.specs.Records.{Reading, unread, opening, order, reading}
use Rattle.order.specs.declared.Unread.{Unread}
use Rattle.order.specs.Kinds.{Kind, kind}
use Rattle.order.proofs.Alone.{inside}
use Rattle.state.specs.State.{State}
use Rattle.state.specs.Act.{act}
use Rattle.state.specs.Sound.{Sound}
use Rattle.state.specs.SettingsLaws.{act_settings}
use Rattle.memory.specs.Holds.{Holds, Whole, After}
use Rattle.memory.proofs.Whole.{after_none, after_then}
use Rattle.stepping.specs.declared.Single.{Single}
use Rattle.stepping.specs.Step.{step_on}
use Rattle.stepping.specs.Steps.{StepsOn, Steps}
use Rattle.running.specs.declared.RunDone.{RunDone}
use Rattle.running.specs.Run.{Ran, ended, answered, onward, run_from, run_on, flat}
use Rattle.running.specs.Runs.{Runs}

-- what is said of y, said of what is equal to it
pub runs_as : (t : Tally) (bytes m m' out out' : List ℕ) (x y : RunDone) → x ≡ y → Runs t bytes y m m' out out' → Runs t bytes x m m' out out'
runs_as t bytes m m' out out' x y e a = subst (λ z. Runs t bytes z m m' out out') (sym e) a

-- ---- the definition of a run, a record at a time
module _ (n : ℕ) (s : State) (t : Tally) (room place : ℕ) where
  next : (bytes : List ℕ) (u : ℕ) (o : Order) → 1 ≤ length bytes → 7 ≤ room → reading bytes ≡ order u o
      → run_from (suc n) s t room place bytes
      ≡ answered (seven (act s o).reply (act s o).count) (run_from n (act s o).after (raised t (row_of (act s o).reply)) (room - 7) (place + u) (drop u bytes))
  next [] u o l r q = absurd (omega arith)
  next (b ∷ bs) u o l r q = rw (le-leb 7 room r, q)

  not_onward : (f : (used : ℕ) → Order → Ran) (y : Reading) → Kind y → (step_on s t y).used ≡ 0 → onward s t place y f ≡ ended s t 11 place
  not_onward f (unread x) k e = rw k
  not_onward f (opening u o) k e = refl
  not_onward f (order u o) k e = absurd (omega arith)

  -- no order, no room, no byte
  stuck : (bytes : List ℕ) → 1 ≤ length bytes → 7 ≤ room → (step_on s t (reading bytes)).used ≡ 0 → run_from (suc n) s t room place bytes ≡ ended s t 11 place
  stuck [] l r z = absurd (omega arith)
  stuck (b ∷ bs) l r z = rw (le-leb 7 room r) (not_onward _ (reading (b ∷ bs)) (kind (b ∷ bs)) z)

  full : (bytes : List ℕ) → 1 ≤ length bytes → room < 7 → run_from (suc n) s t room place bytes ≡ ended s t 12 place
  full [] l r = absurd (omega arith)
  full (b ∷ bs) l r = rw (lt-leb 7 room r)

none : (n : ℕ) (s : State) (t : Tally) (room place : ℕ) → run_from n s t room place [] ≡ ended s t 0 place
none zero s t room place = refl
none (suc n) s t room place = refl

-- ---- the slice: seven numbers more at its place w
module _ (out vs : List ℕ) (w : ℕ) (l : length vs ≡ 7) (r : w + 7 ≤ length out) where
  parts : sets out w vs ≡ take w out ++ vs ++ drop (w + 7) out
  parts = sets-eq vs out w (omega arith) ∙ ap (λ (k : ℕ). take w out ++ vs ++ drop (w + k) out) l

  front : length (take w out ++ vs) ≡ w + 7
  front = length-append (take w out) vs ∙ ap₂ (λ (j k : ℕ). j + k) (length-take-le w out (omega arith)) l

  sets_take : take (w + 7) (sets out w vs) ≡ take w out ++ vs
  sets_take = ap (take (w + 7)) parts ∙ take_at (take w out ++ vs) (drop (w + 7) out) (w + 7) front

  sets_drop : drop (w + 7) (sets out w vs) ≡ drop (w + 7) out
  sets_drop = ap (drop (w + 7)) parts ∙ drop_at (take w out ++ vs) (drop (w + 7) out) (w + 7) front

flat_more : (xs : List (List ℕ)) (x : List ℕ) → flat (xs ++ (x ∷ [])) ≡ flat xs ++ x
flat_more [] x = append-nil x
flat_more (y ∷ ys) x = ap (λ (l : List ℕ). y ++ l) (flat_more ys x) ∙ sym (append_assoc y (flat ys) x)

-- ---- the run so far
abbrev before : List (List ℕ) → Ran → Ran
before said x = record { state = x.state; tally = x.tally; answers = said ++ x.answers; code = x.code; place = x.place }

shifted : (said : List (List ℕ)) (vs : List ℕ) (x : Ran) → before said (answered vs x) ≡ before (said ++ (vs ∷ [])) x
shifted said vs x = rw (append_assoc said (vs ∷ []) x.answers)

-- m₀, out₀, t₀: as the run began; then as they are now
pub record Along (m₀ bytes out₀ : List ℕ) (t₀ : Tally) (m out : List ℕ) (t : Tally) (place count written : ℕ) : Type 0 where
  pub began : State
  pub began_sound : Sound began
  pub began_holds : Holds m₀ began
  pub state : State
  pub sound : Sound state
  pub after : After m₀ m state
  pub settings : state.settings ≡ began.settings
  pub in_bytes : place ≤ length bytes
  pub in_out : written ≤ length out
  pub long : length out ≡ length out₀
  pub seven_each : written ≡ 7 * count
  pub said : List (List ℕ)
  pub said_all : length said ≡ count
  pub text : take written out ≡ flat said
  pub rest : drop written out ≡ drop written out₀
  pub fuel : ℕ
  pub enough : length bytes ≤ place + fuel
  pub run : run_on began t₀ (length out₀) bytes ≡ before said (run_from fuel state t (length out - written) place (drop place bytes))

pub start : (m bytes out : List ℕ) (t : Tally) → Whole m → Along m bytes out t m out t 0 0 0
start m bytes out t w =
    let e : length out - 0 ≡ length out = omega arith in
    record {
      began = w.0;
      began_sound = w.1;
      began_holds = w.2;
      state = w.0;
      sound = w.1;
      after = after_none w.2;
      settings = refl;
      in_bytes = omega arith;
      in_out = omega arith;
      long = refl;
      seven_each = omega arith;
      said = [];
      said_all = refl;
      text = refl;
      rest = refl;
      fuel = length bytes;
      enough = omega arith;
      run = rw e;
    }

module _ {m₀ bytes out₀ : List ℕ} {t₀ : Tally} {m out : List ℕ} {t : Tally} {place count written : ℕ} (p : Along m₀ bytes out₀ t₀ m out t place count written) where
  pub whole_now : Whole m
  whole_now = (p.state, p.sound, p.after.holds)

  left : length (drop place bytes) ≡ length bytes - place
  left = length-drop place bytes

  -- the run ends here, with the memory m' that still holds the state
  ends : (m' : List ℕ) (code : ℕ) → After m₀ m' p.state → run_from p.fuel p.state t (length out - written) place (drop place bytes) ≡ ended p.state t code place
      → Runs t₀ bytes (record { tally = t; ran = record { code = code; place = place; answered = count } }) m₀ m' out₀ out
  ends m' code a e =
      let q : run_on p.began t₀ (length out₀) bytes ≡ before p.said (ended p.state t code place) = p.run ∙ ap (before p.said) e in
      let n : length (p.said ++ []) ≡ count = ap length (append-nil p.said) ∙ p.said_all in
      let w : 7 * length (p.said ++ []) ≡ written = omega (arith, p.seven_each) in
      inl (
        p.began,
        p.began_sound,
        p.began_holds,
        rw q (record {
          code = refl;
          place = refl;
          answered = sym n;
          tally = refl;
          after = a;
          sound = p.sound;
          slice = sym (take-append-drop written out) ∙ ap₂ (λ (x y : List ℕ). x ++ y) (p.text ∙ ap flat (sym (append-nil p.said))) (p.rest ∙ ap (λ (k : ℕ). drop k out₀) (sym w));
        }),
      )

  fueled : (P : ℕ → Type 0) → place < length bytes → ((n : ℕ) → P (suc n)) → P p.fuel
  fueled P h f = go p.fuel p.enough
    where
      go : (n : ℕ) → length bytes ≤ place + n → P n
      go zero e = absurd (omega arith)
      go (suc n) e = f n

  pub run_done : length bytes ≤ place → Runs t₀ bytes (record { tally = t; ran = record { code = 0; place = place; answered = count } }) m₀ m out₀ out
  run_done h = ends m 0 p.after (rw (drop_of_length-le bytes h) (none p.fuel p.state t (length out - written) place))

  pub run_full : place < length bytes → length out - written < 7 → Runs t₀ bytes (record { tally = t; ran = record { code = 12; place = place; answered = count } }) m₀ m out₀ out
  run_full h r =
      ends m 12 p.after
      (fueled (λ n. run_from n p.state t (length out - written) place (drop place bytes) ≡ ended p.state t 12 place) h
      (λ n. full n p.state t (length out - written) place (drop place bytes) (omega (arith, left)) r))

  pub run_stuck : place < length bytes → 7 ≤ length out - written → (m' : List ℕ) (e : Unread) → Steps (drop place bytes) (Err e) m m'
      → Runs t₀ bytes (record { tally = t; ran = record { code = 11; place = place; answered = count } }) m₀ m' out₀ out
  run_stuck h r m' e f =
      let i = f p.state p.sound p.after.holds t in
      ends m' 11 (after_then refl p.after i.after)
      (fueled (λ n. run_from n p.state t (length out - written) place (drop place bytes) ≡ ended p.state t 11 place) h
      (λ n. stuck n p.state t (length out - written) place (drop place bytes) (omega (arith, left)) r (ap (λ y. y.used) i.unused)))

  module _ (h : place < length bytes) (r : 7 ≤ length out - written) (m' : List ℕ) (x : Single) (f : Steps (drop place bytes) (Ok x) m m') where
    step : StepsOn (step_on p.state t (reading (drop place bytes))) t x m m'
    step = f p.state p.sound p.after.holds t

    pub some_used : 1 ≤ x.used
    some_used = step.some

    -- a record more
    seven_long : (y : Rattle.rule.specs.Answer.Reply) (n : ℕ) → length (seven y n) ≡ 7
    seven_long (Rattle.rule.specs.Answer.booked c i b f) n = refl
    seven_long (Rattle.rule.specs.Answer.swept x) n = refl
    seven_long (Rattle.rule.specs.Answer.refused x) n = refl

    further : (u : ℕ) (o : Order) → let y = act p.state o in (vs : List ℕ) → vs ≡ seven y.reply y.count → reading (drop place bytes) ≡ order u o
        → run_from p.fuel p.state t (length out - written) place (drop place bytes)
        ≡ answered vs (run_from (p.fuel - 1) y.after (raised t (row_of y.reply)) (length out - written - 7) (place + u) (drop u (drop place bytes)))
    further u o vs ev e =
        let y = act p.state o in
        fueled (λ n. run_from n p.state t (length out - written) place (drop place bytes)
        ≡ answered vs (run_from (n - 1) y.after (raised t (row_of y.reply)) (length out - written - 7) (place + u) (drop u (drop place bytes)))) h
        (λ n. let q : suc n - 1 ≡ n = omega arith in rw (q, ev) (next n p.state t (length out - written) place (drop place bytes) u o (omega (arith, left)) r e))

    along : (u : ℕ) (o : Order) → let y = act p.state o in (vs : List ℕ) → vs ≡ seven y.reply y.count → After m m' y.after → Sound y.after → 8 ≤ u → u ≤ length (drop place bytes) → reading (drop place bytes) ≡ order u o
        → Along m₀ bytes out₀ t₀ m' (sets out written vs) (raised t (row_of y.reply)) (place + u) (count + 1) (written + 7)
    along u o vs ev a so k i e =
        let y = act p.state o in
        let l7 : length vs ≡ 7 = ap length ev ∙ seven_long y.reply y.count in
        let r7 : written + 7 ≤ length out = omega (arith, p.in_out) in
        let ll : length (sets out written vs) ≡ length out = length-sets out written vs in
        record {
          began = p.began;
          began_sound = p.began_sound;
          began_holds = p.began_holds;
          state = y.after;
          sound = so;
          after = after_then (sym (act_settings p.state o)) p.after a;
          settings = act_settings p.state o ∙ p.settings;
          in_bytes = omega (arith, left);
          in_out = omega arith;
          long = ll ∙ p.long;
          seven_each = omega (arith, p.seven_each);
          said = p.said ++ (vs ∷ []);
          said_all = length-append p.said (vs ∷ []) ∙ ap (λ (n : ℕ). n + 1) p.said_all;
          text = sets_take out vs written l7 r7 ∙ (ap (λ (l : List ℕ). l ++ vs) p.text ∙ sym (flat_more p.said vs));
          rest = sets_drop out vs written l7 r7 ∙ (sym (drop-drop 7 written out) ∙ (ap (drop 7) p.rest ∙ drop-drop 7 written out₀));
          fuel = p.fuel - 1;
          enough = omega (arith, p.enough);
          run =
              let n : length out - written - 7 ≡ length (sets out written vs) - (written + 7) = omega arith in
              p.run ∙ (ap (before p.said) (further u o vs ev e) ∙ (rw (n, drop-drop u place bytes) (shifted p.said vs _)));
        }

    pub turn : Along m₀ bytes out₀ t₀ m' (sets out written (numbers_of x.answer)) (raised t (index_of x.row)) (place + x.used) (count + 1) (written + 7)
    turn = go (reading (drop place bytes)) refl
      where
        Next : Type 0
        Next = Along m₀ bytes out₀ t₀ m' (sets out written (numbers_of x.answer)) (raised t (index_of x.row)) (place + x.used) (count + 1) (written + 7)

        idle : (step_on p.state t (reading (drop place bytes))).used ≡ 0 → Next
        idle e = absurd (omega (arith, step.some, step.used, e))

        turned : (u : ℕ) (o : Order) → StepsOn (step_on p.state t (order u o)) t x m m' → reading (drop place bytes) ≡ order u o → Next
        turned u o s e =
            let k : 8 ≤ u = rw e at (kind (drop place bytes)) in
            let i : u ≤ length (drop place bytes) = rw e at (inside (drop place bytes)) in
            let A = along u o (numbers_of x.answer) s.numbers s.after s.sound k i e in
            subst (λ (z : Tally). Along m₀ bytes out₀ t₀ m' (sets out written (numbers_of x.answer)) z (place + x.used) (count + 1) (written + 7)) (sym s.tally)
            (subst (λ (v : ℕ). Along m₀ bytes out₀ t₀ m' (sets out written (numbers_of x.answer)) (raised t (row_of (act p.state o).reply)) (place + v) (count + 1) (written + 7)) (sym s.used) A)

        go : (y : Reading) → reading (drop place bytes) ≡ y → Next
        go (unread k) e = idle (rw e)
        go (opening u o) e = idle (rw e)
        go (order u o) e =
            let s : StepsOn (step_on p.state t (order u o)) t x m m' = rw e at step in
            turned u o s e

-- a step on the part of the records from the place on
pub from_part : (bytes : List ℕ) (place : ℕ) (x : Result Single Unread) (m m' : List ℕ) → Steps (take (length bytes - place) (drop place bytes)) x m m' → Steps (drop place bytes) x m m'
from_part bytes place x m m' f = let e : take (length bytes - place) (drop place bytes) ≡ drop place bytes = take_all (length bytes - place) (drop place bytes) (omega (arith, length-drop place bytes)) in rw e at f

-- a record more, and none
module _ {m₀ bytes out₀ : List ℕ} {t₀ : Tally} {m out : List ℕ} {t : Tally} {place count written : ℕ} (p : Along m₀ bytes out₀ t₀ m out t place count written) (h : place < length bytes) (r : 7 ≤ length out - written)
    (m' : List ℕ) (y : Result Single Unread) (f : Steps (take (length bytes - place) (drop place bytes)) y m m') where
  pub more : (x : Single) → y ≡ Ok x → (1 ≤ x.used) × Along m₀ bytes out₀ t₀ m' (sets out written (numbers_of x.answer)) (raised t (index_of x.row)) (place + x.used) (count + 1) (written + 7)
  more x e = let g = from_part bytes place (Ok x) m m' (rw e at f) in (some_used p h r m' x g, turn p h r m' x g)

  pub no_more : (e : Unread) → y ≡ Err e → Runs t₀ bytes (record { tally = t; ran = record { code = 11; place = place; answered = count } }) m₀ m' out₀ out
  no_more e q = run_stuck p h r m' e (from_part bytes place (Err e) m m' (rw q at f))
