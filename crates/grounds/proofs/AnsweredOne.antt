-- What Answered leaves open: nothing. Over one set of voids and one tree there is one answer, the count too.
-- 01, How much a promise has to say: "that statement leaves a single possible answer".
use Rattle.std.specs.Prelude.{◌≡◌, refl, ◌↔◌, false, List, [], ◌∷◌, ℕ, zero, suc, ◌+◌, length}
use Rattle.std.proofs.Common.{sym, ◌∙◌, ap, subst, inl, inr, arith}
use Rattle.numbers.specs.Case.{case_eq}
use Rattle.rule.specs.Settings.{Settings}
use Rattle.rule.specs.Fit.{hold, free}
use Rattle.rule.specs.Starts.{Start, starts}
use Rattle.rule.specs.Voids.{Void, Voids, Has}
use Rattle.rule.specs.Kept.{stays}
use Rattle.rule.specs.Order.{Order, booking, sweep}
use Rattle.rule.specs.Codes.{booking_code, sweep_code}
use Rattle.rule.specs.Single.{OneEnd, min_sv_one}
use Rattle.shape.specs.Tree.{Tree}
use Rattle.shape.specs.Visits.{published}
use Rattle.state.specs.History.{Event, held, Stretches}
use Rattle.state.proofs.LongestLaws.{longest_same}
use Rattle.grounds.specs.Answered.{Many, Tries, Booked, Unless, Answered}
use Rattle.grounds.specs.Right.{Once}
use Rattle.grounds.specs.OnceLaws.{once_most}

-- ---- a set has one number of voids
record Listed (n : ℕ) (W : Voids) : Type 0 where
  voids : List Void
  many : length voids ≡ n
  once : Once voids
  has : (c s e : ℕ) → Has voids c s e ↔ W c s e

listed : (n : ℕ) (W : Voids) → Many n W → Listed n W
listed zero W h = record { voids = []; many = refl; once = tt; has = λ c s e. ((λ i. absurd i), (λ w. h c s e w)) }
listed (suc n) W (c, s, e, v, h) =
    let L = listed n _ h in
    record {
      voids = record { channel = c; start = s; end = e } ∷ L.voids;
      many = ap suc L.many;
      once = ((λ i. ((L.has c s e).0 i).1 (refl, refl, refl)), L.once);
      has = λ c' s' e'. (
        (λ i. elim i [ inl q ↦ rw (← q.0, ← q.1, ← q.2) v | inr k ↦ ((L.has c' s' e').0 k).0 ]),
        (λ w. elim (case_eq c' c) [
          | inl x ↦ elim (case_eq s' s) [
            | inl y ↦ elim (case_eq e' e) [ inl z ↦ inl (sym x.0, sym y.0, sym z.0) | inr z ↦ inr ((L.has c' s' e').1 (w, λ q. z.0 q.2)) ]
            | inr y ↦ inr ((L.has c' s' e').1 (w, λ q. y.0 q.1))
          ]
          | inr x ↦ inr ((L.has c' s' e').1 (w, λ q. x.0 q.0))
        ]),
      );
    }

pub many_one : (W : Voids) (m n : ℕ) → Many m W → Many n W → m ≡ n
many_one W m n a b =
    let A = listed m W a in
    let B = listed n W b in
    omega (
      arith,
      A.many,
      B.many,
      once_most A.voids B.voids A.once (λ c s e i. (B.has c s e).1 ((A.has c s e).0 i)),
      once_most B.voids A.voids B.once (λ c s e i. (A.has c s e).1 ((B.has c s e).0 i)),
    )

-- ---- one answer
module _ (W : Voids) (d : OneEnd W) (T : Tree) (g : Settings) (floor : ℕ) where
  tries_one : (m l : ℕ) (xs : List Start) (t n : ℕ) (a b : List ℕ) → Tries W T g floor m l xs t n a → Tries W T g floor m l xs t n b → a ≡ b
  tries_one m l [] t n a b u v = u.0 ∙ sym v.0
  tries_one m l (x ∷ xs) t n a b (inl u) (inl v) = tries_one m l xs (suc t) (n + (published x.moment (free x.moment (hold g l)) T).visits) a b u.2 v.2
  tries_one m l (x ∷ xs) t n a b (inl u) (inr (c, s, e, M, z, B, q)) = absurd (u.0 c s e M.void M.fits)
  tries_one m l (x ∷ xs) t n a b (inr (c, s, e, M, z, B, q)) (inl v) = absurd (v.0 c s e M.void M.fits)
  tries_one m l (x ∷ xs) t n a b (inr (c, s, e, M, z, B, q)) (inr (c', s', e', M', z', B', q')) =
      let o = min_sv_one W d x.moment (free x.moment (hold g l)) c s e c' s' e' M M' in
      q ∙ (rw (o.0, o.1, o.2) (sym q'))

  -- any two answers are the same, the count too
  pub answered_one : (o : Order) (a b : List ℕ) → Answered g floor W T o a → Answered g floor W T o b → a ≡ b
  answered_one (booking r l p) a b = go (booking_code g floor r l p)
    where
      go : (x : ℕ) → Unless x (Booked W T g floor r l p a) a → Unless x (Booked W T g floor r l p b) b → a ≡ b
      go zero (m, M, L, u) (n, N, K, v) =
          let xs = starts g.delays r (hold g l) p in
          tries_one m l xs 0 0 a b u (subst (λ i. Tries W T g floor i l xs 0 0 b) (many_one W n m N M) v)
      go (suc x) u v = u ∙ sym v
  answered_one (sweep moment) a b = go (sweep_code g floor moment)
    where
      Drops : List ℕ → Type 0
      Drops a = (d : ℕ) × Many d (λ c s e. W c s e × (stays moment e ≡ false)) × (a ≡ 0 ∷ 0 ∷ 0 ∷ 0 ∷ 0 ∷ 0 ∷ d ∷ [])

      go : (x : ℕ) → Unless x (Drops a) a → Unless x (Drops b) b → a ≡ b
      go zero (n, M, u) (k, N, v) = let e = many_one _ n k M N in u ∙ (rw e (sym v))
      go (suc x) u v = u ∙ sym v

-- the gaps of a history are such a set: a channel has at most one from a moment on
pub stretches_one : (F C : ℕ) (past : List Event) → OneEnd (Stretches F C past)
stretches_one F C past c s e e' A B = (longest_same F (held past) c s e s e' s A.1 B.1 (omega arith) A.1.some (omega arith) B.1.some).1
