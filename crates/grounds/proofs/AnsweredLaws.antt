-- A link that orders have made of a fresh one answers each order as Answered says: the search tries the starts, and its count is theirs.
-- 01, The booking rule: "Trying stops at the first start that has a fit."
use Rattle.std.specs.Prelude.{◌≡◌, refl, ◌↔◌, Bool, true, false, List, [], ◌∷◌, ℕ, zero, suc, ◌+◌, ◌*◌, ◌≤◌, length}
use Rattle.std.proofs.Common.{sym, ◌∙◌, ap, subst, inl, inr, arith, suc-mul}
use Rattle.std.proofs.lemmas.Bool.{false≢true}
use Rattle.numbers.specs.Case.{pick}
use Rattle.rule.specs.Moments.{last_moment}
use Rattle.rule.specs.Settings.{Settings, in_bounds}
use Rattle.rule.specs.Fit.{hold, free}
use Rattle.rule.specs.Starts.{Start, starts}
use Rattle.rule.specs.Voids.{Void, Voids, Has}
use Rattle.rule.specs.Kept.{stays, dropped}
use Rattle.rule.specs.Key.{start_of, channel_of, key_is}
use Rattle.rule.specs.Order.{Order, booking, sweep}
use Rattle.rule.specs.Answer.{booked, refused, seven}
use Rattle.rule.specs.Codes.{booking_code, sweep_code, too_many, chosen_reply}
use Rattle.shape.specs.Tree.{Tree, size, HeightRule, Ord}
use Rattle.shape.specs.Voids.{VoidsIn}
use Rattle.shape.specs.Visits.{Out, none, some, published}
use Rattle.shape.specs.SearchLaws.{search_taken, search_nothing, search_bound}
use Rattle.state.specs.State.{State, voids_of}
use Rattle.state.specs.Act.{seek, choice, book_as, sweep_as, act}
use Rattle.state.specs.Sound.{Sound, most_key}
use Rattle.state.specs.Range.{InRange}
use Rattle.state.specs.VoidLaws.{has_voids, length_voids, dropped_voids, no_fit_as, min_sv_as}
use Rattle.state.specs.History.{floor_of, Stretches}
use Rattle.state.specs.Life.{Life}
use Rattle.grounds.specs.Answered.{Many, Leaves, Bounded, refusal, Tries, Booked, Unless, Answered}
use Rattle.grounds.specs.Right.{Once}
use Rattle.grounds.specs.OnceLaws.{once_voids}
use Rattle.grounds.proofs.GapLaws.{Reached, reached_sound, reached_means}

-- ---- a set has as many voids as a list of them without repeats
pub many_listed : (vs : List Void) (W : Voids) → Once vs → ((c s e : ℕ) → Has vs c s e ↔ W c s e) → Many (length vs) W
many_listed [] W o f = λ c s e w. (f c s e).1 w
many_listed (v ∷ vs) W o f = (
  v.channel,
  v.start,
  v.end,
  (f v.channel v.start v.end).0 (inl (refl, refl, refl)),
  many_listed vs _ o.1 (λ c s e. (
    (λ i. ((f c s e).0 (inr i), (λ q. o.0 (rw (← q.0, ← q.1, ← q.2) i)))),
    (λ w. elim ((f c s e).1 w.0) [ inl q ↦ absurd (w.1 (sym q.0, sym q.1, sym q.2)) | inr i ↦ i ]),
  )),
)

-- those of a list that a sweep drops
abbrev gone : (moment : ℕ) → List Void → List Void
gone moment [] = []
gone moment (v ∷ vs) = pick (stays moment v.end) (gone moment vs) (v ∷ gone moment vs)

record Gone (moment : ℕ) (vs us : List Void) (n : ℕ) : Type 0 where
  has : (c s e : ℕ) → Has us c s e ↔ (Has vs c s e × (stays moment e ≡ false))
  once : Once vs → Once us
  many : length us ≡ n

gone_is : (moment : ℕ) (vs : List Void) → Gone moment vs (gone moment vs) (dropped moment vs)
gone_is moment [] = record { has = λ c s e. ((λ i. absurd i), (λ i. i.0)); once = λ o. tt; many = refl }
gone_is moment (v ∷ vs) = go (stays moment v.end) refl (gone_is moment vs)
  where
    go : (b : Bool) → stays moment v.end ≡ b → Gone moment vs (gone moment vs) (dropped moment vs)
        → Gone moment (v ∷ vs) (pick b (gone moment vs) (v ∷ gone moment vs)) (pick b 0 1 + dropped moment vs)
    go true q G = record {
      has = λ c s e. (
        (λ i. let z = (G.has c s e).0 i in (inr z.0, z.1)),
        (λ i. elim i.0 [ inl k ↦ absurd (false≢true (sym i.1 ∙ ap (stays moment) (sym k.2) ∙ q)) | inr k ↦ (G.has c s e).1 (k, i.1) ]),
      );
      once = λ o. G.once o.1;
      many = omega (arith, G.many);
    }
    go false q G = record {
      has = λ c s e. (
        (λ i. elim i [ inl k ↦ (inl k, ap (stays moment) (sym k.2) ∙ q) | inr k ↦ let z = (G.has c s e).0 k in (inr z.0, z.1) ]),
        (λ i. elim i.0 [ inl k ↦ inl k | inr k ↦ inr ((G.has c s e).1 (k, i.1)) ]),
      );
      once = λ o. ((λ i. o.0 ((G.has v.channel v.start v.end).0 i).0), G.once o.1);
      many = omega (arith, G.many);
    }

-- ---- the search tries the starts
taken_seven : (b : Bool) (c i r f k : ℕ) → seven (pick b (refused 8) (booked c i r f)) k ≡ pick b (refusal 8 k) (0 ∷ c ∷ i ∷ r ∷ f ∷ k ∷ 0 ∷ [])
taken_seven true c i r f k = refl
taken_seven false c i r f k = refl

module _ (a b : ℕ) (T : Tree) (o : Ord a b T) (B : HeightRule T) (W : Voids) (f : (c s e : ℕ) → VoidsIn T c s e ↔ W c s e) (g : Settings) (floor l : ℕ) where
  bounded : (r k t n : ℕ) → Bounded (size T) t n → Bounded (size T) (suc t) (n + (published r k T).visits)
  bounded r k t n h i a = omega (arith, h i a, search_bound r k T B i a, suc-mul t (8 * a.whole + 1))

  tries : (xs : List Start) (t n : ℕ) → Bounded (size T) t n
      → let y = seek T (hold g l) xs in Tries W T g floor (size T) l xs t n (seven (chosen_reply g floor (size T) l (choice y.out)) (n + y.count))
  tries [] t n h = (let e : n + 0 ≡ n = omega arith in rw e, h)
  tries (x ∷ xs) t n h = go (published x.moment (free x.moment (hold g l)) T).out refl (tries xs (suc t) (n + (published x.moment (free x.moment (hold g l)) T).visits))
    where
      r : ℕ
      r = x.moment

      k : ℕ
      k = free r (hold g l)

      v : ℕ
      v = (published r k T).visits

      Rest : Type 0
      Rest = Bounded (size T) (suc t) (n + v) → let y = seek T (hold g l) xs in Tries W T g floor (size T) l xs (suc t) (n + v) (seven (chosen_reply g floor (size T) l (choice y.out)) (n + v + y.count))

      go : (u : Out) → (published r k T).out ≡ u → Rest
          → let y = seek T (hold g l) (x ∷ xs) in Tries W T g floor (size T) l (x ∷ xs) t n (seven (chosen_reply g floor (size T) l (choice y.out)) (n + y.count))
      go none q further =
          let e : n + (v + (seek T (hold g l) xs).count) ≡ n + v + (seek T (hold g l) xs).count = omega arith in
          rw (q, e) (inl (no_fit_as (VoidsIn T) W f r k (search_nothing a b r k T o q), refl, further (bounded r k t n h)))
      go (some j e) q further = rw q (inr (
        channel_of j,
        start_of j,
        e,
        min_sv_as (VoidsIn T) W f r k (channel_of j) (start_of j) e (search_taken a b r k T o j e q),
        ap (λ i. some i e) (key_is j),
        bounded r k t n h,
        taken_seven (too_many g floor (size T) r k (start_of j) e) (channel_of j) x.line r (r + l) (n + v),
      ))

-- ---- a sound link, whose voids are W
module _ (s : State) (S : Sound s) (W : Voids) (f : (c b e : ℕ) → Has (voids_of s.tree) c b e ↔ W c b e) where
  inside : (c b e : ℕ) → VoidsIn s.tree c b e ↔ W c b e
  inside c b e = let H = has_voids c b e s.tree in ((λ v. (f c b e).0 (H.1 v)), (λ w. H.0 ((f c b e).1 w)))

  leaves : Leaves W s.tree
  leaves = (
    S.ordered,
    (λ c b e. (
      (λ w. let v = (inside c b e).1 w in (v.key, v.inside, v.channel, v.start)),
      (λ v. (inside c b e).0 (record { key = v.0; inside = v.1; channel = v.2; start = v.3 })),
    )),
  )

  pub many : Many (size s.tree) W
  many = subst (λ n. Many n W) (length_voids s.tree) (many_listed (voids_of s.tree) W (once_voids 0 most_key s.tree S.ordered) f)

  booking_answered : (r l p : ℕ) → let y = act s (booking r l p) in Answered s.settings s.floor W s.tree (booking r l p) (seven y.reply y.count)
  booking_answered r l p = go (booking_code s.settings s.floor r l p)
    where
      xs : List Start
      xs = starts s.settings.delays r (hold s.settings l) p

      go : (x : ℕ) → let y = book_as x s r l p in let a = seven y.reply y.count in Unless x (Booked W s.tree s.settings s.floor r l p a) a
      go zero =
          let y = book_as 0 s r l p in
          let t = tries 0 most_key s.tree S.ordered S.high W inside s.settings s.floor l xs 0 0 (λ w q. omega arith) in
          let e : 0 + y.count ≡ y.count = omega arith in
          (size s.tree, many, leaves, subst (λ n. Tries W s.tree s.settings s.floor (size s.tree) l xs 0 0 (seven y.reply n)) e t)
      go (suc x) = refl

  sweep_answered : (moment : ℕ) → let y = act s (sweep moment) in Answered s.settings s.floor W s.tree (sweep moment) (seven y.reply y.count)
  sweep_answered moment = go (sweep_code s.settings s.floor moment)
    where
      G : Gone moment (voids_of s.tree) (gone moment (voids_of s.tree)) (dropped moment (voids_of s.tree))
      G = gone_is moment (voids_of s.tree)

      go : (x : ℕ) → let y = sweep_as x s moment in let a = seven y.reply y.count in
          Unless x ((d : ℕ) × Many d (λ c b e. W c b e × (stays moment e ≡ false)) × (a ≡ 0 ∷ 0 ∷ 0 ∷ 0 ∷ 0 ∷ 0 ∷ d ∷ [])) a
      go zero = (
        _,
        subst (λ n. Many n (λ c b e. W c b e × (stays moment e ≡ false))) (G.many ∙ dropped_voids moment s.tree)
            (many_listed (gone moment (voids_of s.tree)) _ (G.once (once_voids 0 most_key s.tree S.ordered)) (λ c b e. (
              (λ i. let z = (G.has c b e).0 i in ((f c b e).0 z.0, z.1)),
              (λ w. (G.has c b e).1 ((f c b e).1 w.0, w.1)),
            ))),
        refl,
      )
      go (suc x) = refl

  pub sound_answered : (o : Order) → let y = act s o in Answered s.settings s.floor W s.tree o (seven y.reply y.count)
  sound_answered (booking r l p) = booking_answered r l p
  sound_answered (sweep moment) = sweep_answered moment

-- ---- so does a link that orders have made of a fresh one, over the gaps of its history
pub answered : (g : Settings) (F : ℕ) → in_bounds g ≡ true → F ≤ last_moment → (x : Life) (o : Order) → Reached g F x → InRange o
    → let y = act x.state o in Answered g (floor_of F x.past) (Stretches F g.channels x.past) x.state.tree o (seven y.reply y.count)
answered g F q h x o R a =
    let s = x.state in
    let y = act s o in
    let W = Stretches F g.channels x.past in
    let M = reached_means g F q h x R in
    let A = sound_answered s (reached_sound g F q h x R) W M.gaps o in
    subst (λ k. Answered g k W s.tree o (seven y.reply y.count)) M.floor (subst (λ (k : Settings). Answered k s.floor W s.tree o (seven y.reply y.count)) M.settings A)
