-- The stand-ins of 01, each against the demand that shuts it out.
-- 01, How much a promise has to say: "Try these stand-ins and see them rejected".
use Rattle.std.specs.Prelude.{◌≡◌, refl, ◌⊎◌, ◌≢◌, Bool, true, false, List, [], ◌∷◌, ℕ, zero, suc, ◌+◌, ◌*◌, ◌-◌, ◌≤◌, ◌<◌, leb, ltb, length, get_or, drop}
use Rattle.std.proofs.Common.{◌∙◌, ap, subst, inl, inr, arith}
use Rattle.std.proofs.lemmas.Bool.{false≢true}
use Rattle.numbers.specs.Case.{pick, case_le, case_lt}
use Rattle.rule.specs.Moments.{open_end}
use Rattle.rule.specs.Settings.{Settings}
use Rattle.rule.specs.Fit.{hold, free}
use Rattle.rule.specs.Starts.{Start}
use Rattle.rule.specs.Kept.{least}
use Rattle.rule.specs.Voids.{Voids, Same}
use Rattle.rule.specs.Choice.{NoFit, MinSV}
use Rattle.rule.specs.Order.{booking}
use Rattle.rule.specs.Answer.{booked, refused, seven, numbers_of}
use Rattle.rule.specs.Codes.{too_many}
use Rattle.tally.specs.declared.Tally.{Tally}
use Rattle.digits.specs.Digits.{goes_on, digits}
use Rattle.order.specs.Records.{opening, order, opening_of, booking_of, by_mark, reading}
use Rattle.shape.specs.Tree.{Tree}
use Rattle.shape.specs.Visits.{published}
use Rattle.numbers.specs.Words.{Bytes}
use Rattle.node.specs.Layout.{root_seat}
use Rattle.node.specs.Rep.{Stands}
use Rattle.node.proofs.Reps.{one_tree}
use Rattle.state.specs.History.{on, books, held, Stretches}
use Rattle.memory.specs.Header.{need}
use Rattle.calls.specs.declared.open.Opened.{Opened}
use Rattle.calls.specs.declared.act.Done.{Done}
use Rattle.running.specs.declared.RunDone.{RunDone}
use Rattle.calls.specs.Opens.{Opens}
use Rattle.running.specs.Runs.{Runs}
use Rattle.calls.specs.Calls.{Acts}
use Rattle.grounds.specs.Orders.{orders_in, orders_one}
use Rattle.grounds.specs.Session.{acting, Since, heard_all}
use Rattle.grounds.specs.Ends.{opens_with, EndsWith}
use Rattle.grounds.proofs.Gaps.{always_whole, same_memory}
use Rattle.grounds.specs.Right.{Right}
use Rattle.grounds.specs.Answered.{refusal, Tries, Answered}
use Rattle.promise.specs.Ends.{open_answers, run_ended}
use Rattle.promise.specs.Demands.{order_answered}

-- two channels and no lines, opened at 0
abbrev two : Settings
two = record { channels = 2; delays = []; leap = 1000; room = 8 }

-- what is answered of a void that is taken: 8, or the booking on its channel
picked : (b : Bool) (k c i r f : ℕ) (a : List ℕ) → a ≡ pick b (refusal 8 k) (0 ∷ c ∷ i ∷ r ∷ f ∷ k ∷ 0 ∷ []) → (get_or a 0 0 ≡ 8) ⊎ ((get_or a 0 0 ≡ 0) × (get_or a 1 0 ≡ c))
picked true k c i r f a q = inl (ap (λ b. get_or b 0 0) q)
picked false k c i r f a q = inr (ap (λ b. get_or b 0 0) q, ap (λ b. get_or b 1 0) q)

-- the sixth number of it
counted : (b : Bool) (k c i r f : ℕ) (a : List ℕ) → a ≡ pick b (refusal 8 k) (0 ∷ c ∷ i ∷ r ∷ f ∷ k ∷ 0 ∷ []) → get_or a 5 0 ≡ k
counted true k c i r f a q = ap (λ b. get_or b 5 0) q
counted false k c i r f a q = ap (λ b. get_or b 5 0) q

-- ---- a booking of a link without lines has one start: booked, the channel answered has the void that Min-SV takes there; 7, none fits there
module _ (W : Voids) (T : Tree) (g : Settings) (floor m l : ℕ) (x : Start) (t n : ℕ) (a : List ℕ) where
  abbrev visited : ℕ
  visited = n + (published x.moment (free x.moment (hold g l)) T).visits

  one_start : Tries W T g floor m l (x ∷ []) t n a → get_or a 0 0 ≡ 0 → (s : ℕ) × (e : ℕ) × MinSV W x.moment (free x.moment (hold g l)) (get_or a 1 0) s e
  one_start (inl y) z = absurd (omega (arith, z, ap (λ b. get_or b 0 0) y.2.0))
  one_start (inr (c, s, e, M, i, B, q)) z = elim (picked (too_many g floor m x.moment (free x.moment (hold g l)) s e) visited c x.line x.moment (x.moment + l) a q) [ inl h ↦ absurd (omega (arith, z, h)) | inr h ↦ (s, e, rw h.1 M) ]

  none_fits : Tries W T g floor m l (x ∷ []) t n a → get_or a 0 0 ≡ 7 → NoFit W x.moment (free x.moment (hold g l))
  none_fits (inl y) z = y.0
  none_fits (inr (c, s, e, M, i, B, q)) z = elim (picked (too_many g floor m x.moment (free x.moment (hold g l)) s e) visited c x.line x.moment (x.moment + l) a q) [ inl h ↦ absurd (omega (arith, z, h)) | inr h ↦ absurd (omega (arith, z, h.0)) ]

  -- the count is that of the one start
  one_count : Tries W T g floor m l (x ∷ []) t n a → get_or a 5 0 ≡ visited
  one_count (inl y) = ap (λ b. get_or b 5 0) y.2.0
  one_count (inr (c, s, e, M, i, B, q)) = counted (too_many g floor m x.moment (free x.moment (hold g l)) s e) visited c x.line x.moment (x.moment + l) a q

-- at the opening channel 0 is idle for ever
idle_at_first : Stretches 0 2 [] 0 0 open_end
unfolding least
idle_at_first = (omega arith, record { some = omega arith; idle = λ t a b. (omega arith, b, refl); stops = λ i. omega (arith, i.1); starts = λ t q i. omega arith }, refl)

-- tick 0 of channels 0 and 1 is held by the two bookings
held_twice : (c : ℕ) → c < 2 → held (books 1 0 5 ∷ books 0 0 5 ∷ []) c 0 ≡ 0 → ⊥
unfolding on
held_twice zero h q = omega (arith, q)
held_twice (suc zero) h q = omega (arith, q)
held_twice (suc (suc c)) h q = omega arith

-- the OL of that link, and an OB of a burst of 5 ticks at 0
abbrev opening_bytes : List ℕ
opening_bytes = 0x4F ∷ 0x4C ∷ 2 ∷ 0 ∷ 0 ∷ 0 ∷ 0x03 ∷ 0xE8 ∷ 0 ∷ 0 ∷ 0 ∷ 0 ∷ 0 ∷ 0 ∷ []

abbrev booking_bytes : List ℕ
booking_bytes = 0x4F ∷ 0x42 ∷ 0 ∷ 0 ∷ 0 ∷ 0 ∷ 0 ∷ 0 ∷ 0 ∷ 0 ∷ 0 ∷ 5 ∷ 0 ∷ 0 ∷ []

pub record ShutOut : Type 1 where
  -- answers 7 to everything
  pub always_seven : (T : Tree) (n : ℕ) → ¬ (Answered two 0 (Stretches 0 2 []) T (booking 0 5 0) (seven (refused 7) n))
  -- always gives channel 0, here while channel 0 is booked
  pub always_channel_0 : (T : Tree) (i r f n : ℕ) → ¬ (Answered two 0 (Stretches 0 2 (books 0 0 5 ∷ [])) T (booking 3 1 0) (seven (booked 0 i r f) n))
  -- books without changing the memory, so that it means what it meant
  pub changes_nothing : (n : ℕ) → (R : Right two 0 [] (booking 0 5 0) (seven (booked 0 0 0 5) n)) → ¬ (Same R.before R.after)
  -- the same in the words of the calls: a booking that is booked has changed the memory
  pub leaves_memory : (m bytes : List ℕ) (t : Tally) (d : Done) (used n : ℕ) → Since two 0 [] m → Bytes bytes → reading bytes ≡ order used (booking 0 5 0)
      → numbers_of d.acted.answer ≡ seven (booked 0 0 0 5) n → ¬ (Acts t bytes d m m)
  -- books truly once and afterwards only pretends: its third booking would be booked as its second was
  pub only_pretends : (T : Tree) (c i r f n : ℕ) → ¬ (Answered two 0 (Stretches 0 2 (books 1 0 5 ∷ books 0 0 5 ∷ [])) T (booking 0 5 0) (seven (booked c i r f) n))
  -- makes up its count: the memory holds a tree, and the count is that of the search on it
  pub makes_up_count : (m m' bytes : List ℕ) (t : Tally) (d : Done) (used : ℕ) (T : Tree) → Since two 0 [] m → Bytes bytes → Acts t bytes d m m'
      → reading bytes ≡ order used (booking 0 5 0) → Stands m root_seat T → ¬ (d.acted.answer.count ≢ (published 0 5 T).visits)
  -- opens nothing, here with code 11 in memory that is long enough
  pub opens_nothing : (m m' : List ℕ) (o : Opened) → need 8 ≤ length m → Opens 8 opening_bytes o m m' → o.code ≢ 11
  -- runs nothing, here with code 12 though there is room for an answer
  pub runs_nothing : (m m' out out' : List ℕ) (t : Tally) (x : RunDone) → Since two 0 [] m → Bytes m → Bytes m' → 7 ≤ length out → Runs t booking_bytes x m m' out out'
      → x.ran.answered ≡ 0 → x.ran.code ≢ 12

-- ---- the two that open or run nothing
read_opening : reading opening_bytes ≡ opening 14 (record { channels = 2; delays = []; leap = 1000; floor = 0 })
unfolding reading by_mark opening_of digits goes_on
read_opening = refl

read_booking : reading booking_bytes ≡ order 14 (booking 0 5 0)
unfolding reading by_mark booking_of digits goes_on
read_booking = refl

opens : (m m' : List ℕ) (o : Opened) → need 8 ≤ length m → Opens 8 opening_bytes o m m' → o.code ≡ 0
opens m m' o h a =
    let e : o.code ≡ (opens_with 8 (leb (need 8) (length m)) (opening 14 (record { channels = 2; delays = []; leap = 1000; floor = 0 }))).0 =
    ap (λ (x : ℕ × ℕ). x.0) (open_answers 8 opening_bytes m m' o a) ∙ ap (λ z. (opens_with 8 (leb (need 8) (length m)) z).0) read_opening in
    elim (case_le (need 8) (length m)) [ inl y ↦ rw y.1 at e | inr y ↦ absurd (omega arith) ]

runs : (place room code : ℕ) → place ≡ 0 → 7 ≤ room → EndsWith (14 - place) (reading (drop place booking_bytes)) room code → ⊥
runs place room code e h E =
    let F : EndsWith 14 (order 14 (booking 0 5 0)) room code = subst (λ z. EndsWith 14 z room code) read_booking (rw e at E) in
    elim (case_le 7 room) [ inl y ↦ rw y.1 at F | inr y ↦ absurd (omega arith) ]

-- a byte string, by a test of its bytes
abbrev all_bytes : List ℕ → Bool
all_bytes [] = true
all_bytes (b ∷ bs) = pick (ltb b 256) (all_bytes bs) false

tested : (bs : List ℕ) → all_bytes bs ≡ true → Bytes bs
tested [] q j = omega arith
tested (b ∷ bs) q zero = elim (case_lt b 256) [ inl y ↦ y.0 | inr y ↦ absurd (false≢true (rw y.1 at q)) ]
tested (b ∷ bs) q (suc j) = elim (case_lt b 256) [ inl y ↦ tested bs (rw y.1 at q) j | inr y ↦ absurd (false≢true (rw y.1 at q)) ]

pub shut_out : ShutOut
unfolding hold least on
shut_out = record {
  always_seven = λ T n R. none_fits _ T two 0 R.0 5 _ 0 0 (seven (refused 7) n) R.3 refl 0 0 open_end idle_at_first (omega arith);
  always_channel_0 = λ T i r f n R.
      let z = one_start _ T two 0 R.0 1 _ 0 0 (seven (booked 0 i r f) n) R.3 refl in
      let u = z.2.void.1.idle 3 (omega (arith, z.2.fits)) (omega (arith, z.2.fits)) in
      omega (arith, u.2);
  changes_nothing = λ n R S.
      let u = (R.leaves.gaps 0 0 open_end).0 ((S.voids 0 0 open_end).1 ((R.means.gaps 0 0 open_end).1 idle_at_first)) in
      let v = u.1.idle 0 (omega arith) (omega arith) in
      omega (arith, v.2);
  leaves_memory = λ m bytes t d used n A b q e a.
      let z = same_memory A (acting t bytes d b a) in
      let o = orders_one 0 bytes used (booking 0 5 0) q in
      let h : heard_all two (orders_in 1 bytes) (numbers_of d.acted.answer) [] ≡ books 0 0 5 ∷ [] =
      ap (λ a. heard_all two (orders_in 1 bytes) a []) e ∙ ap (λ os. heard_all two os (seven (booked 0 0 0 5) n) []) o in
      let u = (z.2.gaps 0 0 open_end).0 ((z.1.gaps 0 0 open_end).1 idle_at_first) in
      let v : Stretches 0 2 (books 0 0 5 ∷ []) 0 0 open_end = rw h at u in
      let w = v.1.idle 0 (omega arith) (omega arith) in
      omega (arith, w.2);
  only_pretends = λ T c i r f n R.
      let z = one_start _ T two 0 R.0 5 _ 0 0 (seven (booked c i r f) n) R.3 refl in
      let u = z.2.void.1.idle 0 (omega (arith, z.2.fits)) (omega (arith, z.2.fits)) in
      held_twice c z.2.void.0 u.2;
  makes_up_count = λ m m' bytes t d used T S b a q s n.
      let A = order_answered t bytes d used (booking 0 5 0) S b a q in
      let e : A.0 ≡ T = one_tree A.1 s in
      n (one_count _ A.0 two 0 A.2.0 5 _ 0 0 (numbers_of d.acted.answer) A.2.3 ∙ (rw e (omega arith)));
  opens_nothing = λ m m' o h a n. omega (arith, opens m m' o h a, n);
  runs_nothing = λ m m' out out' t x S y z h a e n.
      let E = run_ended t booking_bytes m m' out out' x (tested booking_bytes refl) y z a in
      let p : x.ran.place ≡ 0 = E.1 ∙ (rw e) in
      runs x.ran.place (length out - 7 * x.ran.answered) x.ran.code p (omega arith) (E.3 (always_whole S));
}
