-- The three sentences (specs/Plain.antt), proved from the rule.
use Rattle.std.specs.Prelude.{◌≡◌, refl, Bool, true, false, ◌↔◌, List, [], ◌∷◌, ℕ, zero, suc, ◌+◌, length, get_or, take, drop}
use Rattle.std.proofs.Common.{sym, ◌∙◌, ap, subst, arith}
use Rattle.numbers.specs.Case.{pick}
use Rattle.rule.specs.Settings.{Settings}
use Rattle.rule.specs.Fit.{hold, free}
use Rattle.rule.specs.Starts.{Start, starts}
use Rattle.rule.specs.Voids.{Voids, Has, Meaning}
use Rattle.rule.specs.Choice.{Choice, nothing, taken, Chosen}
use Rattle.rule.specs.Order.{Order, booking, sweep}
use Rattle.rule.specs.Answer.{Reply, booked, swept, refused, seven}
use Rattle.rule.specs.Codes.{booking_code, too_many, chosen_reply}
use Rattle.rule.specs.Rule.{Booking, Rule}
use Rattle.rule.specs.Single.{OneEnd}
use Rattle.state.specs.Exact.{AllStarts, starts_of, NothingFits, TwoPieces}
use Rattle.state.proofs.ExactLaws.{seven_exactly, eight_exactly}
use Rattle.state.specs.VoidLaws.{chosen_as}
use Rattle.state.specs.History.{Event, floor_of, Stretches}
use Rattle.grounds.specs.Session.{Call, Since, heard, Each}
use Rattle.grounds.specs.Right.{Right}
use Rattle.grounds.proofs.AnsweredOne.{stretches_one}
use Rattle.grounds.proofs.Gaps.{each_right}
use Rattle.grounds.specs.Plain.{Fitted, Plain}

-- ---- what a code among the seven numbers says of the reply
code_refused : (y : Reply) (n x : ℕ) → (get_or (seven y n) 0 0 ≡ suc x) ↔ (y ≡ refused (suc x))
code_refused (booked c i r f) n x = ((λ h. absurd (omega arith)), (λ h. absurd (let z : ◌≡◌ {A = ℕ} 0 1 = cc h in omega arith)))
code_refused (swept d) n x = ((λ h. absurd (omega arith)), (λ h. absurd (let z : ◌≡◌ {A = ℕ} 0 1 = cc h in omega arith)))
code_refused (refused k) n x = ((λ h. ap refused h), (λ h. cc h))

-- a booking that is booked: the void that was chosen
booked_fitted : (M N : Meaning) (r l p : ℕ) (y : Reply) (n : ℕ) → Rule M (booking r l p) y N → get_or (seven y n) 0 0 ≡ 0
    → Fitted (Has M.voids) (hold M.settings l) l (starts_of M.settings r l p) (seven y n)
booked_fitted M N r l p y n R z = go (booking_code M.settings M.floor r l p) R
  where
    Is : Reply → Type 0
    Is y = get_or (seven y n) 0 0 ≡ 0 → Fitted (Has M.voids) (hold M.settings l) l (starts_of M.settings r l p) (seven y n)

    by : (o : Choice) → Chosen (Has M.voids) (hold M.settings l) (starts_of M.settings r l p) o → Is (chosen_reply M.settings M.floor (length M.voids) l o)
    by nothing c = λ h. absurd (omega arith)
    by (taken i b k s e) c = two (too_many M.settings M.floor (length M.voids) b (free b (hold M.settings l)) s e)
      where
        two : (t : Bool) → Is (pick t (refused 8) (booked k i b (b + l)))
        two true = λ h. absurd (omega arith)
        two false = λ h. record { from = s; to = e; chosen = c; finish = refl }

    go : (x : ℕ) → Booking M r l p y N x → Fitted (Has M.voids) (hold M.settings l) l (starts_of M.settings r l p) (seven y n)
    go zero B = subst Is (sym B.2) (by B.0 B.1) z
    go (suc x) B = absurd (let e = (code_refused y n x).1 B.0 in omega (arith, e, z))

all_starts : {P Q : ℕ → Type 0} → ((b : ℕ) → P b → Q b) → (xs : List Start) → AllStarts P xs → AllStarts Q xs
all_starts f [] a = tt
all_starts f (x ∷ xs) a = (f x.moment a.0, all_starts f xs a.1)

-- ---- over the history. r, l, p: a booking's arrival, length and permitted lines
module _ (g : Settings) (F : ℕ) (past : List Event) (r l p : ℕ) (a : List ℕ) (R : Right g F past (booking r l p) a) where
  -- the gaps, the ticks for which the burst holds its channel, the starts, and the codes 3 to 6
  abbrev pub gaps : Voids
  gaps = Stretches F g.channels past

  abbrev pub held_for : ℕ
  held_for = hold g l

  abbrev pub tries : List Start
  tries = starts g.delays r held_for p

  abbrev pub judged : ℕ
  judged = booking_code g (floor_of F past) r l p

  abbrev M : Meaning
  M = R.before

  one : OneEnd (Has M.voids)
  one c s e e' i j = stretches_one F g.channels past c s e e' ((R.means.gaps c s e).0 i) ((R.means.gaps c s e').0 j)

  same_code : booking_code M.settings M.floor r l p ≡ judged
  same_code = ap (λ s. booking_code s M.floor r l p) R.means.settings ∙ ap (λ f. booking_code g f r l p) R.means.floor

  -- "each booking is the Min-SV fit": over the gaps of the history
  pub booked_is_fit : get_or a 0 0 ≡ 0 → Fitted gaps held_for l tries a
  booked_is_fit z =
      let q = booked_fitted M R.after r l p R.reply R.count R.rule (ap (λ n. get_or n 0 0) (sym R.are) ∙ z) in
      let u = subst (λ (s : Settings). Fitted (Has M.voids) (hold s l) l (starts s.delays r (hold s l) p) (seven R.reply R.count)) R.means.settings q in
      let v = subst (λ n. Fitted (Has M.voids) held_for l tries n) (sym R.are) u in
      record { from = v.from; to = v.to; chosen = chosen_as (Has M.voids) gaps R.means.gaps held_for tries (taken (get_or a 2 0) (get_or a 3 0) (get_or a 1 0) v.from v.to) v.chosen; finish = v.finish }

  -- "7: nothing fits at any start tried"
  pub seven_is_none : (get_or a 0 0 ≡ 7) ↔ ((judged ≡ 0) × NothingFits gaps g r l p)
  seven_is_none = (
    (λ h. let z = E.0 ((code_refused R.reply R.count 6).0 (ap (λ n. get_or n 0 0) (sym R.are) ∙ h)) in (sym same_code ∙ z.0, there z.1)),
    (λ h. ap (λ n. get_or n 0 0) R.are ∙ (code_refused R.reply R.count 6).1 (E.1 (same_code ∙ h.0, back h.1))),
  )
    where
      E : (R.reply ≡ refused 7) ↔ ((booking_code M.settings M.floor r l p ≡ 0) × NothingFits (Has M.voids) M.settings r l p)
      E = seven_exactly M one r l p R.reply R.after R.rule

      there : NothingFits (Has M.voids) M.settings r l p → NothingFits gaps g r l p
      there n = all_starts (λ b m c s e i. m c s e ((R.means.gaps c s e).1 i)) tries (subst (λ (s : Settings). NothingFits (Has M.voids) s r l p) R.means.settings n)

      back : NothingFits gaps g r l p → NothingFits (Has M.voids) M.settings r l p
      back n = subst (λ (s : Settings). NothingFits (Has M.voids) s r l p) (sym R.means.settings) (all_starts (λ b m c s e i. m c s e ((R.means.gaps c s e).0 i)) tries n)

  -- "8: the void taken leaves two pieces and the room is full"
  pub eight_is_full : (get_or a 0 0 ≡ 8) ↔ ((judged ≡ 0) × TwoPieces R.before r l p)
  eight_is_full =
      let E = eight_exactly M one r l p R.reply R.after R.rule in (
        (λ h. let z = E.0 ((code_refused R.reply R.count 7).0 (ap (λ n. get_or n 0 0) (sym R.are) ∙ h)) in (sym same_code ∙ z.0, z.1)),
        (λ h. ap (λ n. get_or n 0 0) R.are ∙ (code_refused R.reply R.count 7).1 (E.1 (same_code ∙ h.0, h.1))),
      )

right_plain : (g : Settings) (F : ℕ) (past : List Event) (o : Order) (a : List ℕ) → Right g F past o a → Plain g F past o a
right_plain g F past (booking r l p) a R = record { accepted = booked_is_fit g F past r l p a R; seven = seven_is_none g F past r l p a R }
right_plain g F past (sweep moment) a R = tt

each_map : (P Q : List Event → Order → List ℕ → Type 0) (g : Settings) → ((past : List Event) (o : Order) (a : List ℕ) → P past o a → Q past o a)
    → (past : List Event) (os : List Order) (a : List ℕ) → Each P g past os a → Each Q g past os a
each_map P Q g f past [] a E = tt
each_map P Q g f past (o ∷ os) a E = (f past o (take 7 a) E.0, each_map P Q g f (heard g o (take 7 a) past) os (drop 7 a) E.1)

-- for every sequence of calls since an accepted opening, of every order of a further call
pub each_plain : {g : Settings} {F : ℕ} {past : List Event} {m m' numbers : List ℕ} {orders : List Order} → Since g F past m → Call m orders numbers m' → Each (Plain g F) g past orders numbers
each_plain {g} {F} {past} {numbers} {orders} S c = each_map (Right g F) (Plain g F) g (right_plain g F) past orders numbers (each_right S c)
