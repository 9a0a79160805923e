-- A booking on a whole link, way out by way out: refused by its code, nothing fits, no room for two pieces, booked.
use mathlib.Core.Path.{◌≡◌, refl, sym, subst, ap, ◌∙◌}
use mathlib.Core.Bool.{Bool, true, false}
use mathlib.Core.List.{List}
use Rattle.std.specs.Prelude.{Option, Some, None, Result, Err}
use Prim.Native.Nat.{ℕ, zero, suc, ◌+◌, ◌≤◌}
use native.Mathlib.Omega.{arith}
use lib.ListN.{length}
use Rattle.numbers.specs.Words.{word}
use Rattle.rule.specs.Moments.{last_moment}
use Rattle.rule.specs.Settings.{Settings, most_lines}
use Rattle.rule.specs.Fit.{hold, hold_least, free}
use Rattle.rule.specs.Starts.{starts}
use Rattle.rule.specs.Order.{booking}
use Rattle.rule.specs.Key.{channel_of}
use Rattle.rule.specs.Codes.{booking_code}
use Rattle.rule.specs.Answer.{booked, refused, seven, numbers_of, answer_of}
use Rattle.rule.specs.Refusal.{number_of, refused_some}
use Rattle.rule.specs.declared.answer.Answer.{Answer}
use Rattle.rule.specs.declared.answer.Refused.{Refused}
use Rattle.rule.specs.declared.refusal.Refusal.{Refusal}
use Rattle.state.specs.State.{State}
use Rattle.state.specs.Sound.{Sound}
use Rattle.state.specs.Act.{Sought, nowhere, found, Seeking, seek, split, Outcome, refusal, book_found, book_as, act}
use Rattle.state.specs.FoundLaws.{Fair, Found, booking_found}
use Rattle.state.proofs.SoundLaws.{split_room}
use Rattle.memory.specs.Holds.{Holds, Whole, After}
use Rattle.memory.proofs.Whole.{floor_is, after_none}
use Rattle.taking.specs.Take.{Splitting, Splittable, Splits, overfull}
use Rattle.seeking.specs.declared.Taken.{Taken}
use Rattle.seeking.specs.declared.Tried.{Tried}
use Rattle.seeking.specs.Seek.{taken_at, taken_of, Seeks}
use Rattle.booking.specs.Book.{Books}

-- ---- what the code's struct tells of the search
abbrev out_of : Option Taken → Sought
out_of (Some t) = found t.line t.start t.leaf.key t.leaf.end
out_of None = nowhere

abbrev seeking_of : Tried → Seeking
seeking_of x = record { out = out_of x.taken; count = x.count }

seeking_at : (x : Tried) (n : ℕ) (o : Sought) → seeking_of (taken_at x n o) ≡ record { out = o; count = n }
seeking_at x n nowhere = refl
seeking_at x n (found i b k e) = refl

module _ (x : Tried) (y : Seeking) (q : x ≡ taken_of x y) where
  taken_seeking : seeking_of x ≡ y
  taken_seeking = ap seeking_of q ∙ seeking_at x y.count y.out

  taken_count : x.count ≡ y.count
  taken_count = ap (λ (z : Seeking). z.count) taken_seeking

  taken_none : x.taken ≡ None → y.out ≡ nowhere
  taken_none h = rw h at (sym (ap (λ (z : Seeking). z.out) taken_seeking))

  taken_some : (t : Taken) → x.taken ≡ Some t → y.out ≡ found t.line t.start t.leaf.key t.leaf.end
  taken_some t h = rw h at (sym (ap (λ (z : Seeking). z.out) taken_seeking))

-- ---- what is done with what is found
book_early : (code : ℕ) (s : State) (r l p : ℕ) → (code ≡ 0 → ⊥) → book_as code s r l p ≡ refusal s code
book_early zero s r l p n = absurd (n refl)
book_early (suc c) s r l p n = refl

module _ (s : State) (l : ℕ) (y : Seeking) where
  book_none : y.out ≡ nowhere → book_found s l y ≡ record { reply = refused 7; count = y.count; after = s }
  book_none q = rw q

  module _ (i b k e : ℕ) (q : y.out ≡ found i b k e) where
    book_full : overfull s k e b (free b (hold s.settings l)) ≡ true → book_found s l y ≡ record { reply = refused 8; count = y.count; after = s }
    book_full full = rw (q, full)

    book_some : overfull s k e b (free b (hold s.settings l)) ≡ false
        → book_found s l y ≡ record { reply = booked (channel_of k) i b (b + l); count = y.count; after = split s k e b (free b (hold s.settings l)) }
    book_some few = rw (q, few)

-- the search of a booking
sought : (r l p : ℕ) → State → Seeking
sought r l p s = seek s.tree (hold s.settings l) (starts s.settings.delays r (hold s.settings l) p)

-- an outcome in memory
books : (r l p : ℕ) (a : Answer) (m m' : List ℕ) (s : State) (o : Outcome) → act s (booking r l p) ≡ o
    → numbers_of a ≡ seven o.reply o.count → After m m' o.after → Books r l p a m m' s
books r l p a m m' s o q ea A = record { answer = rw q ea; after = rw q A }

pub few_lines : (m : List ℕ) → Whole m → (x : ℕ) → x ≡ word m 2 → x ≤ most_lines
few_lines m w x e = omega (arith, w.2.lines, w.2.heads 2 (omega arith))

-- ---- the ways out
module _ (m : List ℕ) (r l p floor lines code : ℕ) (ef : floor ≡ word m 4) (el : lines ≡ word m 2)
    (ec : (g : Settings) → length g.delays ≡ lines → code ≡ booking_code g floor r l p) where
  code_is : (s : State) → Holds m s → booking_code s.settings s.floor r l p ≡ code
  code_is s H =
      let i : floor ≡ s.floor = ef ∙ floor_is H in
      sym (rw i at (ec s.settings (sym (el ∙ H.heads 2 (omega arith)))))

  pub refused_early : (why : Refusal) → code ≡ number_of why → (y : Result Answer Refused) → y ≡ Err (record { why = why; count = 0 })
      → (s : State) → Sound s → Holds m s → Books r l p (answer_of y) m m s
  refused_early why e y q s W H =
      rw q (books r l p _ m m s (refusal s code) (rw (code_is s H) (book_early code s r l p (λ z. omega (arith, e, refused_some why)))) (rw e) (after_none H))

  module _ (z : code ≡ 0) (h : ℕ) (eh : (g : Settings) → h ≡ hold g l) where
    goes : (s : State) → Holds m s → booking_code s.settings s.floor r l p ≡ 0
    goes s H = code_is s H ∙ z

    module _ (x : Tried) (g : Seeks r h p x m) where
      is : (s : State) → Holds m s → x ≡ taken_of x (sought r l p s)
      unfolding sought
      is s H = subst (λ (y : ℕ). x ≡ taken_of x (seek s.tree y (starts s.settings.delays r y p))) (eh s.settings) (g s H)

      acts : (s : State) → Holds m s → act s (booking r l p) ≡ book_found s l (sought r l p s)
      unfolding sought
      acts s H = rw (goes s H)

      pub nothing_fits : x.taken ≡ None → (a : Answer) → numbers_of a ≡ seven (refused 7) x.count → (s : State) → Sound s → Holds m s → Books r l p a m m s
      nothing_fits u a ea s W H =
          books r l p a m m s _ (acts s H ∙ book_none s l (sought r l p s) (taken_none x (sought r l p s) (is s H) u)) (rw (taken_count x (sought r l p s) (is s H)) at ea) (after_none H)

      module _ (t : Taken) (u : x.taken ≡ Some t) where
        at : (s : State) → Holds m s → (sought r l p s).out ≡ found t.line t.start t.leaf.key t.leaf.end
        at s H = taken_some x (sought r l p s) (is s H) t u

        -- the channel is free by the last moment
        pub free_low : Whole m → t.start + h ≤ last_moment
        unfolding sought
        free_low w =
            let s = w.0 in
            let F : Found s.tree (hold s.settings l) (Fair s.floor (hold s.settings l)) (found t.line t.start t.leaf.key t.leaf.end) =
            rw (at s w.2) at (booking_found s.settings s.floor s.tree r l p (goes s w.2)) in
            omega (arith, F.0, eh s.settings)

        pub finish_low : Whole m → t.start + l ≤ last_moment
        finish_low w = omega (arith, free_low w, hold_least w.0.settings l, eh w.0.settings)

        module _ (b : Bool) (eb : (s : State) → Holds m s → b ≡ overfull s t.leaf.key t.leaf.end t.start (t.start + h)) where
          full_is : (s : State) → Holds m s → overfull s t.leaf.key t.leaf.end t.start (free t.start (hold s.settings l)) ≡ b
          full_is s H = sym (rw (eh s.settings) at (eb s H))

          pub no_room : b ≡ true → (a : Answer) → numbers_of a ≡ seven (refused 8) x.count → (s : State) → Sound s → Holds m s → Books r l p a m m s
          no_room v a ea s W H =
              books r l p a m m s _ (acts s H ∙ book_full s l (sought r l p s) t.line t.start t.leaf.key t.leaf.end (at s H) (full_is s H ∙ v))
              (rw (taken_count x (sought r l p s) (is s H)) at ea) (after_none H)

          module _ (v : b ≡ false) where
            splitting : (s : State) → Sound s → Holds m s → Splitting s t.leaf.key t.leaf.end t.start (t.start + h)
            unfolding sought
            splitting s W H =
                let R = split_room s W r l p t.line t.start t.leaf.key t.leaf.end (goes s H) (at s H) (full_is s H ∙ v) in
                rw (eh s.settings) (record {
                  sound = W;
                  inside = R.0;
                  room = R.2;
                })

            pub split_pre : Whole m → Splittable t.leaf.key t.leaf.end t.start (t.start + h) m
            split_pre w = (w.0, splitting w.0 w.1 w.2, w.2)

            pub done : (c : ℕ) → c ≡ channel_of t.leaf.key → (m' : List ℕ) → Splits t.leaf.key t.leaf.end t.start (t.start + h) m m' → (s : State) → Sound s → Holds m s
                → Books r l p (record { code = 0; channel = c; line = t.line; start = t.start; finish = t.start + l; count = x.count; dropped = 0 }) m m' s
            done c k m' f s W H =
                books r l p _ m m' s _ (acts s H ∙ book_some s l (sought r l p s) t.line t.start t.leaf.key t.leaf.end (at s H) (full_is s H ∙ v))
                (rw (k, taken_count x (sought r l p s) (is s H)))
                (rw (eh s.settings) at (f s (splitting s W H) H))
