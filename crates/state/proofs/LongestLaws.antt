-- What is kept comes to this: the voids are the longest idle stretches that end late enough.
use Rattle.std.specs.Prelude.{◌≡◌, refl, ◌⊎◌, ◌↔◌, ℕ, suc, ◌-◌, ◌≤◌, ◌<◌}
use Rattle.std.proofs.Common.{inl, inr, arith}
use Rattle.numbers.specs.Case.{case_le}
use Rattle.rule.specs.Moments.{open_end}
use Rattle.rule.specs.Key.{start_of, channel_of}
use Rattle.shape.specs.Tree.{Tree, In}
use Rattle.shape.specs.TreeLaws.{all_in}
use Rattle.shape.specs.Voids.{VoidsIn}
use Rattle.state.proofs.TickLaws.{Holds, cover_in, cover_some}
use Rattle.state.specs.History.{Idle, Longest}
use Rattle.state.specs.Bordered.{Bordered, Kept}

-- two that share a tick are one
pub longest_same : (F : ℕ) (H : ℕ → ℕ → ℕ) (c s e s' e' t : ℕ) → Longest F H c s e → Longest F H c s' e'
    → s ≤ t → t < e → s' ≤ t → t < e' → (s ≡ s') × (e ≡ e')
longest_same F H c s e s' e' t A B h i h' i' = (begins, ends)
  where
    begins : s ≡ s'
    begins = elim (case_le s s') [
      | inl y ↦ elim (case_le s' s) [ inl z ↦ omega arith | inr z ↦ absurd (B.starts (s' - 1) (omega arith) (A.idle (s' - 1) (omega arith) (omega arith))) ]
      | inr y ↦ absurd (A.starts (s - 1) (omega arith) (B.idle (s - 1) (omega arith) (omega arith)))
    ]

    ends : e ≡ e'
    ends = elim (case_le e e') [
      | inl y ↦ elim (case_le e' e) [ inl z ↦ omega arith | inr z ↦ absurd (A.stops (B.idle e (omega arith) z.0)) ]
      | inr y ↦ absurd (B.stops (A.idle e' (omega arith) y.0))
    ]

module _ (F₀ F G C : ℕ) (H : ℕ → ℕ → ℕ) (t : Tree) (K : Kept F₀ F G C H t) where
  pub bordered : (k e : ℕ) → In k e t → Bordered F₀ G C H k e
  bordered = all_in _ t K.edges

  pub leaf_longest : (k e : ℕ) → In k e t → Longest F₀ H (channel_of k) (start_of k) e
  leaf_longest k e m =
      let v = bordered k e m in
      let stop : (e ≡ open_end) ⊎ (1 ≤ H (channel_of k) e) → ¬ (Idle F₀ H (channel_of k) e) = elim [ inl a ↦ λ i. omega arith | inr a ↦ λ i. omega arith ] in
      let start : (start_of k ≡ F₀) ⊎ (1 ≤ H (channel_of k) (start_of k - 1)) → (s : ℕ) → suc s ≡ start_of k → ¬ (Idle F₀ H (channel_of k) s) = elim [
        | inl a ↦ λ s q i. omega arith
        | inr a ↦ λ s q i. let z : start_of k - 1 ≡ s = omega arith in let w : 1 ≤ H (channel_of k) s = rw z at a in omega arith
      ] in
      record {
        some = v.some;
        idle = λ s a b. (omega (arith, v.since), omega (arith, v.most), omega (arith, K.once (channel_of k) s v.channel, cover_in t (channel_of k) s k e m refl a b));
        stops = stop v.stops;
        starts = start v.starts;
      }

  -- a stretch is the void that holds its last tick
  held_by : (c s e : ℕ) → Longest F₀ H c s e → Holds t c (e - 1) → VoidsIn t c s e
  held_by c s e S x =
      let B : Longest F₀ H c (start_of x.key) x.end = rw (← x.channel) (leaf_longest x.key x.end x.inside) in
      let z = longest_same F₀ H c (start_of x.key) x.end s e (e - 1) B S x.start x.before (omega (arith, S.some)) (omega (arith, S.some)) in
      record { key = x.key; inside = rw (← z.1) x.inside; channel = x.channel; start = z.0 }

  longest_leaf : (c s e : ℕ) → c < C → Longest F₀ H c s e → F ≤ e → VoidsIn t c s e
  longest_leaf c s e a S h =
      let i = S.idle (e - 1) (omega (arith, S.some)) (omega (arith, S.some)) in
      held_by c s e S (cover_some t c (e - 1) (omega (arith, K.full c (e - 1) a i.0 (omega (arith, S.some)) i.1, i.2)))

-- the voids kept are the longest idle stretches with end at G or later
pub kept_longest : (F₀ G C : ℕ) (H : ℕ → ℕ → ℕ) (t : Tree) → Kept F₀ G G C H t → (c s e : ℕ)
    → VoidsIn t c s e ↔ ((c < C) × Longest F₀ H c s e × (G ≤ e))
kept_longest F₀ G C H t K c s e = (there, (λ x. longest_leaf F₀ G G C H t K c s e x.0 x.1 x.2))
  where
    there : VoidsIn t c s e → (c < C) × Longest F₀ H c s e × (G ≤ e)
    there v =
        let b = bordered F₀ G G C H t K v.key e v.inside in
        rw (← v.channel, ← v.start) (b.channel, leaf_longest F₀ G G C H t K v.key e v.inside, b.stay)
