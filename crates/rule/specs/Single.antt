-- The rule allows one reply, and one meaning after it: the choice, and then what follows from it.
use Rattle.std.specs.Prelude.{◌≡◌, refl, List, [], ◌∷◌, ℕ, zero, suc, length}
use Rattle.std.proofs.Common.{sym, ◌∙◌, ap, inl, inr, arith}
use Rattle.rule.specs.Fit.{hold, free}
use Rattle.rule.specs.Starts.{Start, starts}
use Rattle.rule.specs.Voids.{Voids, Has, Meaning, Same}
use Rattle.rule.specs.Choice.{Behind, NoFit, MinSV, Choice, nothing, taken, Chosen}
use Rattle.rule.specs.Order.{Order, booking, sweep}
use Rattle.rule.specs.Answer.{Reply, booked, swept, refused}
use Rattle.rule.specs.Codes.{booking_code, sweep_code, chosen_reply}
use Rattle.rule.specs.Rule.{Effect, Booking, Sweep, Rule}

-- a channel has at most one void from a moment on
abbrev pub OneEnd : Voids → Type 0
OneEnd W = (c s e e' : ℕ) → W c s e → W c s e' → e ≡ e'

module _ (W : Voids) (d : OneEnd W) where
  -- Min-SV takes one void
  pub min_sv_one : (r f c s e c' s' e' : ℕ) → MinSV W r f c s e → MinSV W r f c' s' e' → (c ≡ c') × (s ≡ s') × (e ≡ e')
  min_sv_one r f c s e c' s' e' A B = go (A.best c' s' e' B.void B.fits) (B.best c s e A.void A.fits)
    where
      same : (c ≡ c') → (s ≡ s') → (c ≡ c') × (s ≡ s') × (e ≡ e')
      same p q = (p, q, d c' s' e e' (rw (← p, ← q) A.void) B.void)

      go : Behind s' c' s c → Behind s c s' c' → (c ≡ c') × (s ≡ s') × (e ≡ e')
      go (inl x) (inl y) = absurd (omega arith)
      go (inl x) (inr y) = absurd (omega arith)
      go (inr x) (inl y) = absurd (omega arith)
      go (inr x) (inr y) = same (omega arith) (omega arith)

  clash : (h : ℕ) (x : Start) (i r c s e : ℕ) → NoFit W x.moment (free x.moment h) → (i ≡ x.line) × (r ≡ x.moment) × MinSV W r (free r h) c s e → ⊥
  clash h x i r c s e n a = n c s e a.2.void (rw (← a.1) a.2.fits)

  -- and so there is one choice
  pub chosen_one : (h : ℕ) (xs : List Start) (o o' : Choice) → Chosen W h xs o → Chosen W h xs o' → o ≡ o'
  chosen_one h [] nothing nothing a b = refl
  chosen_one h [] nothing (taken i r c s e) a b = absurd b
  chosen_one h [] (taken i r c s e) o a b = absurd a
  chosen_one h (x ∷ xs) nothing nothing a b = refl
  chosen_one h (x ∷ xs) nothing (taken i r c s e) a (inl b) = absurd (clash h x i r c s e a.0 b)
  chosen_one h (x ∷ xs) nothing (taken i r c s e) a (inr b) = chosen_one h xs nothing (taken i r c s e) a.1 b.1
  chosen_one h (x ∷ xs) (taken i r c s e) nothing (inl a) b = absurd (clash h x i r c s e b.0 a)
  chosen_one h (x ∷ xs) (taken i r c s e) nothing (inr a) b = chosen_one h xs (taken i r c s e) nothing a.1 b.1
  chosen_one h (x ∷ xs) (taken i r c s e) (taken i' r' c' s' e') (inl a) (inl b) =
      let q : r' ≡ r = omega arith in
      let m = min_sv_one r (free r h) c s e c' s' e' a.2 (rw q at b.2) in
      let p : i ≡ i' = omega arith in
      cc (p, q, m.0, m.1, m.2)
  chosen_one h (x ∷ xs) (taken i r c s e) (taken i' r' c' s' e') (inl a) (inr b) = absurd (clash h x i r c s e b.0 a)
  chosen_one h (x ∷ xs) (taken i r c s e) (taken i' r' c' s' e') (inr a) (inl b) = absurd (clash h x i' r' c' s' e' a.0 b)
  chosen_one h (x ∷ xs) (taken i r c s e) (taken i' r' c' s' e') (inr a) (inr b) = chosen_one h xs (taken i r c s e) (taken i' r' c' s' e') a.1 b.1

both : (M N N' : Meaning) → Same M N → Same M N' → Same N N'
both M N N' s t = record {
  settings = t.settings ∙ sym s.settings;
  floor = t.floor ∙ sym s.floor;
  voids = λ c b e. ((λ x. (s.voids c b e).1 ((t.voids c b e).0 x)), (λ x. (t.voids c b e).1 ((s.voids c b e).0 x)));
}

module _ (M : Meaning) (d : OneEnd (Has M.voids)) (N N' : Meaning) where
  effect_one : (l : ℕ) (y : Reply) (o : Choice) → Effect M l y o N → Effect M l y o N' → Same N N'
  effect_one l (refused x) o a b = both M N N' a b
  effect_one l (swept n) o a b = absurd a
  effect_one l (booked c i r f) nothing a b = absurd a
  effect_one l (booked c i r f) (taken i' r' c' s e) a b = record {
    settings = b.settings ∙ sym a.settings;
    floor = b.floor ∙ sym a.floor;
    voids = λ c s e. ((λ x. (a.voids c s e).1 ((b.voids c s e).0 x)), (λ x. (b.voids c s e).1 ((a.voids c s e).0 x)));
  }

  booking_one : (r l m : ℕ) (y y' : Reply) (code : ℕ) → Booking M r l m y N code → Booking M r l m y' N' code → (y ≡ y') × Same N N'
  booking_one r l m y y' zero a b =
      let q : a.0 ≡ b.0 = chosen_one (Has M.voids) d (hold M.settings l) (starts M.settings.delays r (hold M.settings l) m) a.0 b.0 a.1 b.1 in
      let p : y ≡ y' = a.2 ∙ ap (chosen_reply M.settings M.floor (length M.voids) l) q ∙ sym b.2 in
      (p, effect_one l y a.0 a.3 (rw (p, q) b.3))
  booking_one r l m y y' (suc x) a b = (a.0 ∙ sym b.0, both M N N' a.1 b.1)

  sweep_one : (moment : ℕ) (y y' : Reply) (code : ℕ) → Sweep M moment y N code → Sweep M moment y' N' code → (y ≡ y') × Same N N'
  sweep_one moment y y' zero a b = (
    a.0 ∙ sym b.0,
    record {
      settings = b.1.settings ∙ sym a.1.settings;
      floor = b.1.floor ∙ sym a.1.floor;
      voids = λ c s e. ((λ x. (a.1.voids c s e).1 ((b.1.voids c s e).0 x)), (λ x. (b.1.voids c s e).1 ((a.1.voids c s e).0 x)));
    },
  )
  sweep_one moment y y' (suc x) a b = (a.0 ∙ sym b.0, both M N N' a.1 b.1)

  -- any two outcomes that the rule allows are the same
  pub rule_one : (o : Order) (y y' : Reply) → Rule M o y N → Rule M o y' N' → (y ≡ y') × Same N N'
  rule_one (booking r l m) y y' = booking_one r l m y y' (booking_code M.settings M.floor r l m)
  rule_one (sweep moment) y y' = sweep_one moment y y' (sweep_code M.settings M.floor moment)
