-- The search of 01 (`published`) takes the void that the booking rule takes, and its visits are bounded.
-- These are the theorems; how they are proved is FindLaws'.
use Rattle.std.specs.Prelude.{◌≡◌, refl, ℕ, ◌+◌, ◌*◌, ◌≤◌}
use Rattle.std.proofs.Common.{sym, ◌∙◌, ap, subst, arith}
use Rattle.rule.specs.Fit.{Fits}
use Rattle.rule.specs.Key.{start_of, channel_of, key_order}
use Rattle.rule.specs.Choice.{NoFit, MinSV}
use Rattle.rule.specs.Height.{Allowed}
use Rattle.shape.specs.Tree.{Tree, height, size, HeightRule, Ord, In}
use Rattle.shape.specs.TreeLaws.{all_in}
use Rattle.shape.specs.Voids.{VoidsIn}
use Rattle.shape.specs.Visits.{Out, none, some, Result, published}
use Rattle.shape.specs.FindLaws.{Right, find_right, find_visits, published_is}

-- ---- where the search ends
module _ (a b r f : ℕ) (t : Tree) (o : Ord a b t) where
  published_right : (u : Out) → (published r f t).out ≡ u → Right r f t u
  published_right u q = subst (λ (u : Out). Right r f t u) (sym (ap (λ (z : Result). z.out) (published_is f r t)) ∙ q) (find_right a b r f t o)

  -- at a leaf that fits, and none with a greater key does
  pub search_some : (k e : ℕ) → (published r f t).out ≡ some k e
      → In k e t × Fits (start_of k) e r f × ((j g : ℕ) → In j g t → Fits (start_of j) g r f → j ≤ k)
  search_some k e q = let R = published_right (some k e) q in (R.0, R.1, all_in _ t R.2)

  -- or at none, and no leaf fits
  pub search_none : (published r f t).out ≡ none → (k e : ℕ) → In k e t → ¬ (Fits (start_of k) e r f)
  search_none q = all_in _ t (published_right none q)

  -- in the rule's words
  pub search_taken : (k e : ℕ) → (published r f t).out ≡ some k e → MinSV (VoidsIn t) r f (channel_of k) (start_of k) e
  search_taken k e q =
      let R = search_some k e q in
      record {
        void = record { key = k; inside = R.0; channel = refl; start = refl };
        fits = R.1;
        best = λ c s g v h. rw (← v.channel, ← v.start) (key_order v.key k (R.2 v.key g v.inside (rw v.start h)));
      }

  pub search_nothing : (published r f t).out ≡ none → NoFit (VoidsIn t) r f
  search_nothing q = λ c s e v h. search_none q v.key e v.inside (rw v.start h)

-- ---- its visits
pub search_visits : (r f : ℕ) (t : Tree) → (published r f t).visits ≤ 4 * height t + 1
search_visits r f t = omega (arith, ap (λ (z : Result). z.visits) (published_is f r t), find_visits r f t)

-- by the height rule: "at most t(8⌊log2 m⌋+1)", of one start
pub search_bound : (r f : ℕ) (t : Tree) → HeightRule t → (h : ℕ) (a : Allowed (size t) h) → (published r f t).visits ≤ 8 * a.whole + 1
search_bound r f t b h a = omega (arith, search_visits r f t, b h a, a.twice)
