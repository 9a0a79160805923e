-- A sound link lives, as if each tick had been booked that is in no void; and a link that lives is sound.
use Rattle.std.specs.Prelude.{◌≡◌, refl, ◌⊎◌, true, false, ℕ, ◌+◌, ◌-◌, ◌≤◌, ◌<◌, leb}
use Rattle.std.proofs.Common.{sym, inl, inr, arith}
use Rattle.numbers.specs.Case.{case_le, case_eq}
use Rattle.rule.specs.Moments.{open_end, last_moment}
use Rattle.rule.specs.Settings.{Settings, in_bounds}
use Rattle.rule.specs.Kept.{least, least_most}
use Rattle.rule.specs.Key.{start_of, channel_of}
use Rattle.shape.specs.Tree.{Tree, leaf, node, lo, Ord, In}
use Rattle.shape.specs.TreeLaws.{all_map, all_in, all_of, in_ord, same_key}
use Rattle.shape.specs.HeightLaws.{height_allowed}
use Rattle.state.specs.State.{State}
use Rattle.state.specs.Sound.{Lawful, Apart, Sound, most_key}
use Rattle.state.specs.Cover.{cover}
use Rattle.state.proofs.TickLaws.{cov_one, cover_in, cover_some}
use Rattle.state.specs.History.{Longest}
use Rattle.state.specs.Bordered.{Bordered, Kept}
use Rattle.state.proofs.LongestLaws.{longest_same, leaf_longest}
use Rattle.state.proofs.OpenEndLaws.{open_end_lem}
use Rattle.state.specs.KeptLaws.{stays_least}
use Rattle.state.specs.Lives.{Lives}

abbrev Case : ℕ → Type 0
Case n = ((1 ≤ n) × (leb 1 n ≡ true)) ⊎ ((n < 1) × (leb 1 n ≡ false))

-- no tick is in two voids
pub cover_one : (a b c s : ℕ) (t : Tree) → Ord a b t → Apart t → cover t c s ≤ 1
cover_one a b c s (leaf k e) o h = cov_one c s k e
cover_one a b c s (node q l r) o h =
    go (case_le 1 (cover l c s)) (case_le 1 (cover r c s))
    (cover_one a (lo r) c s l o.0 (λ k e k' e' i j. h k e k' e' (inl i) (inl j)))
    (cover_one (lo r) b c s r o.1 (λ k e k' e' i j. h k e k' e' (inr i) (inr j)))
  where
    go : Case (cover l c s) → Case (cover r c s) → cover l c s ≤ 1 → cover r c s ≤ 1 → 0 + cover l c s + cover r c s ≤ 1
    go (inr x) y u v = omega arith
    go (inl x) (inr y) u v = omega arith
    go (inl x) (inl y) u v =
        let X = cover_some l c s x.0 in
        let Y = cover_some r c s y.0 in
        absurd (omega (
          arith,
          h X.key X.end Y.key Y.end (inl X.inside) (inr Y.inside) (omega (arith, X.channel, Y.channel))
              (omega (arith, in_ord a (lo r) l o.0 _ _ X.inside, in_ord (lo r) b r o.1 _ _ Y.inside)),
          X.before,
          Y.start,
        ))

-- what every tick may count as that no void holds: booked
abbrev pub shut : Tree → (c t : ℕ) → ℕ
shut u c t = 1 - cover u c t

module _ (s : State) (W : Sound s) where
  abbrev t : Tree
  t = s.tree

  lawful : (k e : ℕ) → In k e t → Lawful s.settings.channels s.floor k e
  lawful = all_in _ t W.lawful

  clear_at : (c b : ℕ) → ((k e : ℕ) → In k e t → channel_of k ≡ c → start_of k ≤ b → b < e → ⊥) → cover t c b ≡ 0
  clear_at c b f = elim (case_le 1 (cover t c b)) [
    | inl y ↦ let x = cover_some t c b y.0 in absurd (f x.key x.end x.inside x.channel x.start x.before)
    | inr y ↦ omega arith
  ]

  -- no void holds the tick where another of its channel ends, nor the one before it starts
  at_end : (k e : ℕ) → In k e t → cover t (channel_of k) e ≡ 0
  at_end k e i = clear_at (channel_of k) e (λ k' e' j q x y. elim (case_le k k') [
    | inr z ↦ omega (arith, W.apart k' e' k e j i q z.0, (lawful k e i).some)
    | inl z ↦ elim (case_eq k k') [
      | inl n ↦ omega (arith, same_key 0 most_key t W.ordered k e e' i (rw n.0 j))
      | inr n ↦ omega (arith, W.apart k e k' e' i j (sym q) (omega (arith, n.0)))
    ]
  ])

  at_start : (k e : ℕ) → In k e t → 1 ≤ start_of k → cover t (channel_of k) (start_of k - 1) ≡ 0
  at_start k e i n = clear_at (channel_of k) (start_of k - 1) (λ k' e' j q x y. elim (case_le k k') [
    | inr z ↦ omega (arith, W.apart k' e' k e j i q z.0)
    | inl z ↦ omega arith
  ])

  sound_kept : Kept 0 (least s.floor) (least s.floor) s.settings.channels (shut t) t
  sound_kept = record {
    ordered = W.ordered;
    balanced = W.balanced;
    once = λ c b a. omega (arith, cover_one 0 most_key c b t W.ordered W.apart);
    full = λ c b a x y z. omega arith;
    last = λ c a.
        let o = W.open_ends c a in
        let l = lawful o.key open_end o.inside in
        omega (arith, cover_in t c last_moment o.key open_end o.inside o.channel (omega (arith, l.some)) (omega arith));
    edges = all_of (λ k e. Bordered 0 (least s.floor) s.settings.channels (shut t) k e) t (λ k e i.
        let w = lawful k e i in
        record {
          some = w.some;
          since = omega arith;
          most = w.most;
          stay = (stays_least s.floor e).0 w.stay;
          channel = w.channel;
          stops = inr (omega (arith, at_end k e i));
          starts = elim (case_le 1 (start_of k)) [ inl y ↦ inr (omega (arith, at_start k e i y.0)) | inr y ↦ inl (omega arith) ];
        });
  }

  pub sound_lives : Lives 0 s.floor s.settings (shut t) s
  sound_lives = record { kept = sound_kept; settings = refl; level = refl; floor = W.floor; placed = record { all = W.all; many = W.many }; within = W.within }

-- ---- and what lives is sound
module _ (F₀ F : ℕ) (g : Settings) (H : ℕ → ℕ → ℕ) (s : State) (L : Lives F₀ F g H s) where
  lives_apart : Apart s.tree
  lives_apart k e k' e' i j q x =
      let longest = leaf_longest F₀ (least s.floor) (least s.floor) g.channels H s.tree L.kept in
      let A = longest k e i in
      let B : Longest F₀ H (channel_of k) (start_of k') e' = rw q (longest k' e' j) in
      elim (case_le (start_of k') e) [
        | inr y ↦ y.0
        | inl y ↦ elim (case_le e (start_of k')) [
          | inl z ↦ let w : start_of k' ≡ e = omega arith in absurd (A.stops (rw w at (B.idle (start_of k') (omega arith) B.some)))
          | inr z ↦ absurd (omega (arith, longest_same F₀ H (channel_of k) (start_of k) e (start_of k') e' (start_of k') A B (omega arith) z.0 (omega arith) B.some))
        ]
      ]

  pub lives_sound : in_bounds g ≡ true → F₀ ≤ last_moment → Sound s
  lives_sound b z = record {
    bounds = rw L.settings b;
    floor = L.floor;
    ordered = L.kept.ordered;
    high = height_allowed s.tree L.kept.balanced;
    balanced = L.kept.balanced;
    lawful = rw L.settings (all_map (λ k e v. record { channel = v.channel; some = v.some; most = v.most; stay = (stays_least s.floor e).1 v.stay }) s.tree L.kept.edges);
    apart = lives_apart;
    open_ends = rw L.settings (open_end_lem F₀ (least s.floor) (least s.floor) g.channels H s.tree L.kept (omega (arith, least_most s.floor, L.floor)) z);
    all = L.placed.all;
    many = L.placed.many;
    within = L.within;
  }
