-- What was accepted fixes a link, the tree's arrangement included: two links made of one opening with one history are one.
-- So the tree on which an order is counted (01, The tree and its visits) is the history's, whoever asks and however the orders came.
use Rattle.std.specs.Prelude.{◌≡◌, refl, true, List, [], ◌∷◌, ℕ, zero, suc, ◌≤◌, ◌<◌}
use Rattle.std.proofs.Common.{sym, ◌∙◌, subst, inl, inr, arith}
use Rattle.numbers.specs.Case.{case_le, case_eq}
use Rattle.rule.specs.Moments.{last_moment}
use Rattle.rule.specs.Settings.{Settings, in_bounds}
use Rattle.rule.specs.Fit.{hold, free}
use Rattle.rule.specs.Starts.{starts}
use Rattle.rule.specs.Kept.{least}
use Rattle.rule.specs.Key.{start_of, channel_of}
use Rattle.rule.specs.Order.{Order, booking, sweep}
use Rattle.rule.specs.Codes.{booking_code, sweep_code}
use Rattle.shape.specs.Tree.{size, In}
use Rattle.shape.specs.TreeLaws.{same_key}
use Rattle.shape.specs.SearchLaws.{search_some}
use Rattle.state.specs.State.{State, with_floor}
use Rattle.state.specs.Act.{Sought, nowhere, found, seek, split, book_found, book_as, cleared, sweep_as}
use Rattle.state.specs.Open.{fresh}
use Rattle.state.specs.Sound.{Sound, most_key}
use Rattle.state.specs.History.{Event, books, sweeps, held, floor_of}
use Rattle.state.specs.Life.{event, Life, born, next, live}
use Rattle.state.specs.FoundLaws.{booking_goes, case_full, Fair, Found, booking_found}
use Rattle.state.specs.Range.{AllInRange}
use Rattle.state.proofs.WholeLaws.{lives_sound}
use Rattle.state.proofs.HistoryLaws.{Lived, live_lives, fresh_lived}

-- z is s after the void of channel c that has the time from b up to f has given it
pub record Taken (s : State) (c b f : ℕ) (z : State) : Type 0 where
  pub key : ℕ
  pub end : ℕ
  pub inside : In key end s.tree
  pub channel : channel_of key ≡ c
  pub from : start_of key ≤ b
  pub some : b < f
  pub to : f ≤ end
  pub is : z ≡ split s key end b f

-- z is what the history makes of a fresh link
abbrev pub Made : Settings → (F : ℕ) → List Event → State → Type 0
Made g F [] z = z ≡ fresh g F
Made g F (books c b f ∷ past) z = (s : State) × Made g F past s × Sound s × Taken s c b f z
Made g F (sweeps moment ∷ past) z = (s : State) × Made g F past s × (z ≡ with_floor (cleared s (least moment)) moment)

-- one void of a channel has a given time
taken_one : (s : State) (c b f : ℕ) (z z' : State) → Sound s → Taken s c b f z → Taken s c b f z' → z ≡ z'
taken_one s c b f z z' W A B =
    let k : A.key ≡ B.key = elim (case_le A.key B.key) [
      | inr y ↦ absurd (omega (arith, W.apart B.key B.end A.key A.end B.inside A.inside (B.channel ∙ sym A.channel) y.0, A.from, B.to, B.some))
      | inl y ↦ elim (case_eq A.key B.key) [
        | inl x ↦ x.0
        | inr x ↦ absurd (omega (arith, W.apart A.key A.end B.key B.end A.inside B.inside (A.channel ∙ sym B.channel) (omega (arith, x.0)), B.from, A.to, A.some))
      ]
    ] in
    let e : A.end ≡ B.end = same_key 0 most_key s.tree W.ordered B.key A.end B.end (rw k at A.inside) B.inside in
    A.is ∙ (rw (k, e) (sym B.is))

pub made_one : (g : Settings) (F : ℕ) (past : List Event) (z z' : State) → Made g F past z → Made g F past z' → z ≡ z'
made_one g F [] z z' a b = a ∙ sym b
made_one g F (books c b f ∷ past) z z' A B =
    let q = made_one g F past A.0 B.0 A.1 B.1 in
    taken_one A.0 c b f z z' A.2 A.3 (subst (λ s. Taken s c b f z') (sym q) B.3)
made_one g F (sweeps moment ∷ past) z z' A B =
    let q = made_one g F past A.0 B.0 A.1 B.1 in
    A.2 ∙ (rw q (sym B.2))

-- ---- what orders make of a fresh link, their history makes of it
module _ (g : Settings) (F : ℕ) (past : List Event) (s : State) (M : Made g F past s) (W : Sound s) where
  abbrev To : Order → (code : ℕ) → Type 0
  To (booking r l m) x = let y = book_as x s r l m in Made g F (event s.settings (booking r l m) y.reply past) y.after
  To (sweep moment) x = let y = sweep_as x s moment in Made g F (event s.settings (sweep moment) y.reply past) y.after

  found_made : (r l m : ℕ) (o : Sought) (n : ℕ) → 1 ≤ hold s.settings l → Found s.tree (hold s.settings l) (Fair s.floor (hold s.settings l)) o
      → let y = book_found s l (record { out = o; count = n }) in Made g F (event s.settings (booking r l m) y.reply past) y.after
  found_made r l m nowhere n h a = M
  found_made r l m (found i b k e) n h a =
      let f = free b (hold s.settings l) in
      let x = search_some 0 most_key b f s.tree W.ordered k e a.1 in
      elim (case_full s.settings s.floor (size s.tree) b f (start_of k) e) [
        | inl y ↦ rw y.1 M
        | inr y ↦ rw y.1 (s, M, W, record { key = k; end = e; inside = x.0; channel = refl; from = x.1.0; some = omega arith; to = x.1.1; is = refl })
      ]

  next_made : (o : Order) → let x = next (record { state = s; past = past }) o in Made g F x.past x.state
  next_made (booking r l m) = go (booking_code s.settings s.floor r l m) refl
    where
      go : (x : ℕ) → booking_code s.settings s.floor r l m ≡ x → To (booking r l m) x
      go zero q =
          let h = hold s.settings l in
          let y = seek s.tree h (starts s.settings.delays r h m) in
          found_made r l m y.out y.count (booking_goes s.settings s.floor r l m q).0 (booking_found s.settings s.floor s.tree r l m q)
      go (suc x) q = M
  next_made (sweep moment) = go (sweep_code s.settings s.floor moment)
    where
      go : (x : ℕ) → To (sweep moment) x
      go zero = (s, M, refl)
      go (suc x) = M

module _ (g : Settings) (F : ℕ) (q : in_bounds g ≡ true) (h : F ≤ last_moment) where
  live_made : (x : Life) (os : List Order) → Lived F g x → AllInRange os → Made g F x.past x.state → let z = live x os in Made g F z.past z.state
  live_made x [] L a M = M
  live_made x (o ∷ os) L a M =
      let W = lives_sound F (floor_of F x.past) g (held x.past) x.state L q h in
      live_made (next x o) os (live_lives F g x (o ∷ []) h (a.0, tt) L) a.1 (next_made g F x.past x.state M W o)

  pub now_made : (os : List Order) → AllInRange os → let z = live (born (fresh g F)) os in Made g F z.past z.state
  now_made os a = live_made (born (fresh g F)) os (fresh_lived g F q h) a refl
