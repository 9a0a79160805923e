-- What a call does to a memory that holds a sound link, and what its caller hears of it, is what its orders do to the link.
-- 01, The booking rule: "What is said of the history supposes memory that only these calls have changed since an accepted opening".
use Rattle.std.specs.Prelude.{◌≡◌, refl, true, List, [], ◌∷◌, ◌++◌, ℕ, ◌*◌, ◌≤◌, eqb, length, drop}
use Rattle.std.proofs.Common.{sym, ◌∙◌, ap, subst, inl, inr, arith}
use Rattle.numbers.specs.Case.{pick, case_eq}
use Rattle.rule.specs.Moments.{last_moment}
use Rattle.rule.specs.Settings.{Settings, in_bounds}
use Rattle.rule.specs.Fit.{hold, free}
use Rattle.rule.specs.Order.{Order, booking, sweep}
use Rattle.rule.specs.Answer.{Reply, booked, swept, refused, seven, numbers_of}
use Rattle.order.specs.Records.{Reading, unread, opening, order, reading}
use Rattle.numbers.specs.Words.{Bytes}
use Rattle.state.specs.State.{State}
use Rattle.state.specs.Act.{act}
use Rattle.state.specs.Sound.{Sound}
use Rattle.state.specs.Open.{fresh}
use Rattle.state.specs.Range.{AllInRange}
use Rattle.state.specs.SettingsLaws.{act_settings}
use Rattle.state.specs.History.{Event, books, sweeps}
use Rattle.state.specs.Life.{event, Life, next, live}
use Rattle.memory.specs.Holds.{Holds}
use Rattle.opening.proofs.Same.{broken, small, fine, answer}
use Rattle.opening.proofs.Same
use Rattle.opening.specs.Opening.{opening_code}
use Rattle.stepping.specs.Step.{step_on}
use Rattle.calls.specs.declared.open.Opened.{Opened}
use Rattle.calls.specs.Opens.{OpensAs, OpensRead, Opens}
use Rattle.running.specs.Run.{run_on, flat}
use Rattle.calls.specs.Calls.{StepsTo}
use Rattle.grounds.specs.Orders.{orders_in, orders_one, orders_unread, orders_opening, sevens, after}
use Rattle.grounds.specs.RecordLaws.{Fair, reading_fair, order_fair}
use Rattle.grounds.specs.ReplyLaws.{Apt, act_apt}
use Rattle.grounds.proofs.RunLaws.{run_is_orders}
use Rattle.grounds.specs.Sevens.{seven_take, seven_drop}
use Rattle.grounds.specs.Memories.{acts_on, runs_on}
use Rattle.grounds.proofs.Doors.{open_door}
use Rattle.grounds.specs.Session.{Call, acting, running, telling, opening_refused, heard, heard_all}

-- ---- what is heard of an order is what it adds to the history
unheard : (x : ℕ) (y z : List Event) → 3 ≤ x → pick (eqb x 0) y z ≡ z
unheard x y z h = elim (case_eq x 0) [ inl k ↦ absurd (omega (arith, k.0)) | inr k ↦ rw k.1 ]

pub heard_seven : (g : Settings) (o : Order) (y : Reply) (n : ℕ) (past : List Event) → Apt o y → heard g o (seven y n) past ≡ event g o y past
heard_seven g (booking r l p) (booked c i b f) n past a = refl
heard_seven g (booking r l p) (swept d) n past a = absurd a
heard_seven g (booking r l p) (refused x) n past a = unheard x (books 0 0 (free 0 (hold g l)) ∷ past) past (omega arith)
heard_seven g (sweep moment) (booked c i b f) n past a = absurd a
heard_seven g (sweep moment) (swept d) n past a = refl
heard_seven g (sweep moment) (refused x) n past a = unheard x (sweeps moment ∷ past) past (omega arith)

module _ (g : Settings) where
  pub heard_next : (x : Life) (o : Order) → x.state.settings ≡ g → let y = act x.state o in heard g o (seven y.reply y.count) x.past ≡ (next x o).past
  heard_next x o e =
      let y = act x.state o in
      heard_seven g o y.reply y.count x.past (act_apt x.state o) ∙ ap (λ h. event h o y.reply x.past) (sym e)

  pub heard_all_lem : (x : Life) (os : List Order) (rest : List ℕ) → x.state.settings ≡ g → heard_all g os (flat (sevens x.state os) ++ rest) x.past ≡ (live x os).past
  heard_all_lem x [] rest e = refl
  heard_all_lem x (o ∷ os) rest e =
      let y = act x.state o in
      let xs = flat (sevens y.after os) in
      rw (seven_take y.count xs rest y.reply, seven_drop y.count xs rest y.reply, heard_next x o e) (heard_all_lem (next x o) os rest (act_settings x.state o ∙ e))

pub live_after : (x : Life) (os : List Order) → (live x os).state ≡ after x.state os
live_after x [] = refl
live_after x (o ∷ os) = live_after (next x o) os

-- ---- a call on a memory that holds the sound link s
pub record Went (s : State) (os : List Order) (numbers m' : List ℕ) : Type 0 where
  pub range : AllInRange os
  pub rest : List ℕ
  pub answers : numbers ≡ flat (sevens s os) ++ rest
  pub holds : Holds m' (after s os)

seven_plain : (y : Reply) (n : ℕ) → seven y n ≡ (seven y n ++ []) ++ []
seven_plain (booked c i r f) n = refl
seven_plain (swept d) n = refl
seven_plain (refused x) n = refl

pub call_went : {m m' numbers : List ℕ} {os : List Order} → Call m os numbers m' → (s : State) → Sound s → Holds m s → Went s os numbers m'
call_went {m} {m'} (acting t bytes d b a) s W H = go (reading bytes) refl (acts_on t bytes m m' d a s W H)
  where
    go : (z : Reading) → reading bytes ≡ z → StepsTo (step_on s t (reading bytes)) d m m' → Went s (orders_in 1 bytes) (numbers_of d.acted.answer) m'
    go (unread x) q A = let e = orders_unread 0 bytes x q in rw e (record { range = tt; rest = _; answers = refl; holds = subst (λ z. Holds m' (step_on s t z).after) q A.after.holds })
    go (opening n p) q A = let e = orders_opening 0 bytes n p q in rw e (record { range = tt; rest = _; answers = refl; holds = subst (λ z. Holds m' (step_on s t z).after) q A.after.holds })
    go (order n o) q A = let e = orders_one 0 bytes n o q in rw e (record {
      range = ((order_fair bytes n o q).2 b, tt);
      rest = [];
      answers = A.numbers ∙ ap (λ z. (step_on s t z).numbers) q ∙ seven_plain (act s o).reply (act s o).count;
      holds = subst (λ z. Holds m' (step_on s t z).after) q A.after.holds;
    })
call_went {m} {m'} (running t bytes out out' x b a) s W H =
    let A = runs_on t bytes m m' out out' x a s W H in
    let y = run_on s t (length out) bytes in
    let I = run_is_orders s t (length out) bytes in
    let rest = drop (7 * length y.answers) out in
    subst (λ n. Went s (orders_in n bytes) out' m') (sym A.answered) (record {
      range = I.range b;
      rest = rest;
      answers = A.slice ∙ ap (λ l. flat l ++ rest) I.answers;
      holds = subst (Holds m') I.state A.after.holds;
    })
call_went (telling x a) s W H = record { range = tt; rest = []; answers = refl; holds = H }
call_went {m} {m'} (opening_refused room bytes o b a n) s W H =
    record { range = tt; rest = []; answers = refl; holds = subst (λ k. Holds k s) (sym ((open_door room bytes m m' o b a).refused n).1) H }

-- ---- an accepted opening
pub record Begun (g : Settings) (F : ℕ) (m : List ℕ) : Type 0 where
  pub bounds : in_bounds g ≡ true
  pub floor : F ≤ last_moment
  pub holds : Holds m (fresh g F)

pub opened_begun : {g : Settings} {F : ℕ} {m : List ℕ} (before bytes : List ℕ) (used : ℕ) (o : Opened) → Bytes bytes → Opens g.room bytes o before m → o.code ≡ 0
    → reading bytes ≡ opening used (record { channels = g.channels; delays = g.delays; leap = g.leap; floor = F }) → Begun g F m
opened_begun {g} {F} {m} before bytes used o b a z q = by (answer g (length before))
  where
    R : OpensAs (opening_code g (length before)) used g F o before m
    R = subst (λ x. OpensRead g.room x o before m) q a

    f : Bytes bytes → F ≤ last_moment
    f = subst (Fair bytes) q (reading_fair bytes)

    not : {x : ℕ} → x ≡ 1 → OpensAs x used g F o before m → ⊥
    not e u = let v = subst (λ c. OpensAs c used g F o before m) e u in omega (arith, z, ap (λ o. o.code) v.0)

    by : Same.Answer g (length before) → Begun g F m
    by (broken h e) = absurd (not e R)
    by (small h e) = absurd (not e R)
    by (fine h l e) = record { bounds = h; floor = f b; holds = (subst (λ c. OpensAs c used g F o before m) e R).1.holds }
