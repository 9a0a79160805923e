-- From what a survey of the root says to the tree of a whole link, and back.
use mathlib.Core.Path.{◌≡◌, refl, sym, ◌∙◌}
use mathlib.Core.Bool.{Bool, true, false, false≢true}
use mathlib.Core.List.{List}
use Prim.Native.Nat.{ℕ, zero, suc, ◌+◌, ◌*◌, ◌-◌, ◌≤◌, ◌<◌}
use native.Mathlib.Omega.{arith}
use lib.Pow.{pow_mono}
use lib.ListN.{length, get_or, replicate}
use Rattle.numbers.specs.Words.{word}
use Rattle.numbers.specs.Case.{case_le}
use mathlib.Core.Logic.{◌⊎◌, inl, inr}
use Rattle.rule.specs.Moments.{open_end}
use Rattle.rule.specs.Key.{channel_of}
use Rattle.rule.specs.Height.{Allowed, allowed_one}
use Rattle.shape.specs.Tree.{Tree, size}
use Rattle.shape.specs.TreeLaws.{widen}
use Rattle.node.specs.Layout.{root_seat}
use Rattle.node.proofs.Reps.{one_tree}
use Rattle.state.specs.Sound.{most_key}
use Rattle.std.specs.Prelude.{Option, None, Some, is_some}
use Rattle.settled.specs.Says.{Says}
use Rattle.survey.specs.Survey.{next, run, Taken, Surveyed}
use Rattle.survey.specs.Planted.{Treed, Planted}
use Rattle.survey.proofs.Ordering.{good_ord, good_most, good_balanced, good_lawful}
use Rattle.survey.proofs.Apartness.{good_apart, apart_good, open_last, last_open}

-- no end has been seen at the start
pub zeros : (n d : ℕ) → ◌≡◌ {A = ℕ} (get_or (replicate n 0) d 0) 0
zeros zero d = refl
zeros (suc n) zero = refl
zeros (suc n) (suc d) = zeros n d

-- the height allowed is small
pub allowed_small : (k h : ℕ) → Allowed k h → k ≤ 4096 → h ≤ 24
allowed_small k h a g = elim (case_le a.whole 12) [
  | inl y ↦ omega (arith, a.twice)
  | inr y ↦ let u : 13 ≤ a.whole = omega arith in absurd (omega (arith, pow_mono u, a.log.low))
]

-- what the limit is for: a tree below it keeps the height rule, and it refuses none that does
pub record Limits (k h limit : ℕ) : Type 0 where
  pub allowed : Allowed k h
  pub keeps : limit ≤ h + 1
  pub takes : h < limit

module _ (m : List ℕ) (r c f k h limit : ℕ) (e0 : r ≡ word m 0) (e1 : c ≡ word m 1) (e4 : f ≡ word m 4) (e6 : k ≡ word m 6)
    (some : 1 ≤ k) (high : Limits k h limit) (x y : List ℕ) (g : ℕ) (n : c ≤ length x) (z : (d : ℕ) → get_or x d 0 ≡ 0) where
  taken : (t : Tree) → Treed m t → Taken m (r + 1) c f x root_seat limit 0 (2 * k - 1) t
  taken t w = record {
    stands = w.stands;
    inside = rw e0 w.inside;
    low = omega (arith, w.high h (rw (w.many, ← e6) high.allowed), high.takes);
    few = omega (arith, w.many);
    good = rw (e1, e4) (apart_good (word m 1) (word m 4) 0 most_key x t (omega arith) w.ordered w.balanced w.lawful w.apart (λ i e j. omega (arith, z (channel_of i))));
  }

  pub no_tree : Surveyed m (r + 1) c f x y root_seat limit 0 (2 * k - 1) g None → Planted m → ⊥
  no_tree v w = v.no w.0 (taken w.0 w.1)

  module _ (s : ℕ) (v : Surveyed m (r + 1) c f x y root_seat limit 0 (2 * k - 1) g (Some s)) where
    -- the survey saw that tree
    saw : (t : Tree) → Treed m t → v.yes.0 ≡ t
    saw t w = one_tree v.yes.1.stands w.stands

    pub no_many : (g ≡ 0 → ⊥) → Planted m → ⊥
    no_many e w =
        let q : size v.yes.0 ≡ size w.0 = rw (saw w.0 w.1) in
        e (omega (arith, v.yes.2.left, w.1.many))

    no_open : (((d : ℕ) → d < c → get_or y d 0 ≡ open_end + 1) → ⊥) → Planted m → ⊥
    no_open o w =
        let t = w.0 in
        let e : y ≡ run x t = rw (← saw t w.1) v.yes.2.run in
        o (rw e (open_last c f 0 x t n z (taken t w.1).good (rw e1 w.1.open_ends)))

    planted : g ≡ 0 → ((d : ℕ) → d < c → get_or y d 0 ≡ open_end + 1) → Planted m
    planted l o =
        let d = v.yes in
        let many : size d.0 ≡ k = omega (arith, d.2.left) in
        let all = good_lawful c f 0 x d.0 d.1.good in (
          d.0,
          record {
            stands = d.1.stands;
            many = omega (arith, d.2.left);
            inside = rw (← e0) d.1.inside;
            ordered = widen 0 (next d.0) 0 most_key d.0 (omega arith) (good_most c f 0 x d.0 d.1.good) (good_ord c f 0 x d.0 d.1.good);
            high = λ j a. omega (arith, d.1.low, high.keeps, allowed_one k h j high.allowed (rw many at a));
            balanced = good_balanced c f 0 x d.0 d.1.good;
            lawful = rw (← e1, ← e4) all;
            apart = good_apart c f 0 x d.0 n d.1.good;
            open_ends = rw (← e1) (last_open c f x d.0 n z all (rw d.2.run at o));
          },
        )

  -- the whole answer, where a survey came to s, and b says whether it found a tree
  module _ (s : Option ℕ) (b : Bool) (e : b ≡ is_some s) (v : Surveyed m (r + 1) c f x y root_seat limit 0 (2 * k - 1) g s) where
    pub not_planted : ((b ≡ true) × (g ≡ 0 → ⊥)) ⊎ (b ≡ false) → Planted m → ⊥
    not_planted = go s e v
      where
        go : (s : Option ℕ) → b ≡ is_some s → Surveyed m (r + 1) c f x y root_seat limit 0 (2 * k - 1) g s → ((b ≡ true) × (g ≡ 0 → ⊥)) ⊎ (b ≡ false) → Planted m → ⊥
        go None e v o = no_tree v
        go (Some s) e v (inl o) = no_many s v o.1
        go (Some s) e v (inr o) = absurd (false≢true (sym o ∙ e))

    pub plants : (q : Bool) → b ≡ true → g ≡ 0 → Says ((d : ℕ) → d < c → get_or y d 0 ≡ open_end + 1) q → Says (Planted m) q
    plants = go s e v
      where
        go : (s : Option ℕ) → b ≡ is_some s → Surveyed m (r + 1) c f x y root_seat limit 0 (2 * k - 1) g s → (q : Bool) → b ≡ true → g ≡ 0 → Says ((d : ℕ) → d < c → get_or y d 0 ≡ open_end + 1) q → Says (Planted m) q
        go None e v q t l o = absurd (false≢true (sym e ∙ t))
        go (Some s) e v true t l o = planted s v l o
        go (Some s) e v false t l o = no_open s v o
