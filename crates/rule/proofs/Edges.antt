-- The claim of the edge rows (specs/Edges.antt), and what it needs.
use Rattle.std.specs.Prelude.{◌≡◌, refl, ◌↔◌, ◌≢◌, [], ◌∷◌, ℕ, ◌-◌, ◌^◌}
use Rattle.std.proofs.Common.{inl, inr, arith}
use Rattle.rule.specs.Moments.{open_end, last_moment}
use Rattle.rule.specs.Settings.{Settings}
use Rattle.rule.specs.Fit.{hold, free, Fits}
use Rattle.rule.specs.Starts.{starts}
use Rattle.rule.specs.Voids.{Void, Has, Meaning, Same}
use Rattle.rule.specs.Choice.{Behind, NoFit, MinSV, taken, Chosen}
use Rattle.rule.specs.Kept.{least}
use Rattle.rule.specs.Order.{Order}
use Rattle.rule.specs.Answer.{Reply}
use Rattle.rule.specs.Rule.{Rule}
use Rattle.rule.specs.Height.{Allowed, allowed_one}
use Rattle.rule.specs.Single.{OneEnd, rule_one}
use Rattle.rule.specs.Left.{replaced_is, swept_is}
use Rattle.rule.specs.Edges.{settings, Answers, alike, later, opened, three, since, delays, OnTheEdge}

answers : (M : Meaning) (o : Order) (y : Reply) (N : Meaning) → OneEnd (Has M.voids) → Rule M o y N → Answers M o y N
answers M o y N d R = record { rule = R; only = λ z N' S. rule_one M d N N' o y z R S }

same : (M : Meaning) → Same M M
same M = record { settings = refl; floor = refl; voids = λ c s e. ((λ h. h), (λ h. h)) }

-- ---- sets of one void and of two, on two channels
one_end : (v : Void) → OneEnd (Has (v ∷ []))
one_end v c s e e' (inl a) (inl b) = omega arith
one_end v c s e e' (inl a) (inr b) = absurd b
one_end v c s e e' (inr a) b = absurd a

two_ends : (u v : Void) → u.channel ≢ v.channel → OneEnd (Has (u ∷ v ∷ []))
two_ends u v h c s e e' (inl a) (inl b) = omega arith
two_ends u v h c s e e' (inl a) (inr (inl b)) = absurd (h (omega arith))
two_ends u v h c s e e' (inl a) (inr (inr b)) = absurd b
two_ends u v h c s e e' (inr (inl a)) (inl b) = absurd (h (omega arith))
two_ends u v h c s e e' (inr (inl a)) (inr (inl b)) = omega arith
two_ends u v h c s e e' (inr (inl a)) (inr (inr b)) = absurd b
two_ends u v h c s e e' (inr (inr a)) b = absurd a

only_one : (v : Void) (r f : ℕ) → Fits v.start v.end r f → MinSV (Has (v ∷ [])) r f v.channel v.start v.end
only_one v r f h = record { void = inl (refl, refl, refl); fits = h; best = λ c s e a x. go c s e a }
  where
    go : (c s e : ℕ) → Has (v ∷ []) c s e → Behind s c v.start v.channel
    go c s e (inl a) = inr (omega arith)
    go c s e (inr a) = absurd a

-- the first of two is taken: it starts later, or with the other and has the lower channel
first_of_two : (u v : Void) (r f : ℕ) → Fits u.start u.end r f → Behind v.start v.channel u.start u.channel → MinSV (Has (u ∷ v ∷ [])) r f u.channel u.start u.end
first_of_two u v r f h i = record { void = inl (refl, refl, refl); fits = h; best = λ c s e a x. go c s e a i }
  where
    go : (c s e : ℕ) → Has (u ∷ v ∷ []) c s e → Behind v.start v.channel u.start u.channel → Behind s c u.start u.channel
    go c s e (inl a) j = inr (omega arith)
    go c s e (inr (inl a)) (inl j) = inl (omega arith)
    go c s e (inr (inl a)) (inr j) = inr (omega arith)
    go c s e (inr (inr a)) j = absurd a

none_of_one : (v : Void) (r f : ℕ) → ¬ (Fits v.start v.end r f) → NoFit (Has (v ∷ [])) r f
none_of_one v r f n c s e (inl a) x = n (omega arith)
none_of_one v r f n c s e (inr a) x = a

three_ends : (u v w : Void) → u.channel ≢ v.channel → u.channel ≢ w.channel → v.channel ≢ w.channel → OneEnd (Has (u ∷ v ∷ w ∷ []))
three_ends u v w g h i c s e e' (inl a) (inl b) = omega arith
three_ends u v w g h i c s e e' (inl a) (inr (inl b)) = absurd (g (omega arith))
three_ends u v w g h i c s e e' (inl a) (inr (inr (inl b))) = absurd (h (omega arith))
three_ends u v w g h i c s e e' (inl a) (inr (inr (inr b))) = absurd b
three_ends u v w g h i c s e e' (inr (inl a)) (inl b) = absurd (g (omega arith))
three_ends u v w g h i c s e e' (inr (inr a)) (inl b) = elim a [ inl a ↦ absurd (h (omega arith)) | inr a ↦ absurd a ]
three_ends u v w g h i c s e e' (inr a) (inr b) = two_ends v w i c s e e' a b

-- the undelayed start has a fit
at_once : (v : Void) (g : Settings) (r l m : ℕ) → Fits v.start v.end r (free r (hold g l))
    → Chosen (Has (v ∷ [])) (hold g l) (starts g.delays r (hold g l) m) (taken 0 r v.channel v.start v.end)
at_once v g r l m h = inl (refl, refl, only_one v r (free r (hold g l)) h)

only_height : (m k : ℕ) → Allowed m k → (h : ℕ) → Allowed m h ↔ (h ≡ k)
only_height m k a h = ((λ b. allowed_one m h k b a), (λ q. rw q a))

pub on_the_edge : OnTheEdge
unfolding hold least
on_the_edge = record {
  exact_fit = omega arith;
  last_moment = answers (opened 2) _ _ _ (one_end _) (taken 0 (2 ^ 48 - 2) 0 0 open_end, at_once _ (settings 1 [] 2) (2 ^ 48 - 2) 1 0 (omega arith), refl, replaced_is (opened 2) 0 0 open_end (2 ^ 48 - 2) last_moment);
  past_the_last_moment = answers (opened 2) _ _ _ (one_end _) (refl, same (opened 2));
  equal_starts = answers alike _ _ _ (two_ends _ _ (λ q. omega arith))
      (taken 0 4 0 3 20, inl (refl, refl, first_of_two _ _ 4 8 (omega arith) (inr (omega arith))), refl, replaced_is alike 0 3 20 4 8);
  later_start = answers later _ _ _ (two_ends _ _ (λ q. omega arith))
      (taken 0 4 1 4 20, inl (refl, refl, first_of_two _ _ 4 8 (omega arith) (inl (omega arith))), refl, replaced_is later 1 4 20 4 8);
  sweep_drops = answers three _ _ _ (three_ends _ _ _ (λ q. omega arith) (λ q. omega arith) (λ q. omega arith)) (refl, swept_is three 11);
  front_at_the_floor = (
    answers (since 10) _ _ _ (one_end _) (taken 0 10 0 3 open_end, at_once _ (settings 1 [] 1) 10 5 0 (omega arith), refl, replaced_is (since 10) 0 3 open_end 10 15),
    answers (since 9) _ _ _ (one_end _) (taken 0 10 0 3 open_end, at_once _ (settings 1 [] 1) 10 5 0 (omega arith), refl, same (since 9)),
  );
  leap = (answers (opened 1) _ _ _ (one_end _) (refl, swept_is (opened 1) 1000), answers (opened 1) _ _ _ (one_end _) (refl, same (opened 1)));
  full_room = (
    answers (opened 1) _ _ _ (one_end _) (taken 0 10 0 0 open_end, at_once _ (settings 1 [] 1) 10 5 0 (omega arith), refl, same (opened 1)),
    answers (opened 1) _ _ _ (one_end _) (taken 0 0 0 0 open_end, at_once _ (settings 1 [] 1) 0 5 0 (omega arith), refl, replaced_is (opened 1) 0 0 open_end 0 5),
  );
  both_delays = refl;
  second_line = answers delays _ _ _ (one_end _) (
    taken 2 19 0 18 open_end,
    inr (none_of_one _ 10 11 (λ x. omega arith), inr (none_of_one _ 15 16 (λ x. omega arith), inl (refl, refl, only_one _ 19 20 (omega arith)))),
    refl,
    replaced_is delays 0 18 open_end 19 20,
  );
  heights = (
    only_height 1 0 (record { whole = 0; log = omega arith; twice = refl }),
    only_height 3 2 (record { whole = 1; log = omega arith; twice = refl }),
    only_height 4 4 (record { whole = 2; log = omega arith; twice = refl }),
  );
}
