-- The state that an opening makes is sound, and has one void for each channel, from the floor to the open end.
-- It is made channel by channel, and each state on the way is sound.
use Rattle.std.specs.Prelude.{◌≡◌, refl, ◌↔◌, ℕ, zero, suc, ◌+◌, ◌≤◌, ◌<◌, length}
use Rattle.std.proofs.Common.{sym, ◌∙◌, subst, inl, inr, arith}
use Rattle.std.proofs.Math.Path.{ap}
use Rattle.std.proofs.Math.Bool.{true}
use Rattle.numbers.specs.Case.{case_lt, case_eq}
use Rattle.rule.specs.Moments.{open_end, last_moment}
use Rattle.rule.specs.Settings.{Settings, in_bounds}
use Rattle.rule.specs.SettingsLaws.{in_bounds_lem}
use Rattle.rule.specs.Kept.{least_most}
use Rattle.rule.specs.Key.{key_of, start_of, start_of_key}
use Rattle.rule.specs.Voids.{Has}
use Rattle.shape.specs.Tree.{Tree, leaf, size, All, same}
use Rattle.shape.specs.TreeLaws.{all_in}
use Rattle.shape.specs.HeightLaws.{height_allowed}
use Rattle.shape.specs.PlaceLaws.{same_self, same_other}
use Rattle.state.specs.State.{State, add, places, meaning}
use Rattle.state.specs.Open.{up_from, with_channels, widen, single, widened, fewer, fresh}
use Rattle.state.specs.Sound.{Sound, among, below}
use Rattle.state.specs.KeptLaws.{stays_least}
use Rattle.state.specs.VoidLaws.{has_voids}
use Rattle.state.specs.WidenLaws.{widen_inserted, widen_size, widen_sound}
use Rattle.state.specs.BoundLaws.{bounds_fewer}

-- every void is from the floor to the open end, and there is one for each channel
pub record Opening (g : Settings) (floor c : ℕ) (s : State) : Type 0 where
  pub sound : Sound s
  pub settings : s.settings ≡ with_channels g c
  pub level : s.floor ≡ floor
  pub many : size s.tree ≡ c
  pub wide : All (λ k e. (start_of k ≡ floor) × (e ≡ open_end)) s.tree

-- ---- the places of the first channel: all spare but the root's
below_next : (z p : ℕ) → same z p + below z p ≡ below z (p + 1)
unfolding below
below_next z p = elim (case_eq z p) [
  | inl y ↦ elim (case_lt z p) [
    | inl a ↦ absurd (omega arith)
    | inr a ↦ elim (case_lt z (p + 1)) [ inl b ↦ rw (a.1, b.1) (omega (arith, same_is z p y.0)) | inr b ↦ absurd (omega arith) ]
  ]
  | inr y ↦ elim (case_lt z p) [
    | inl a ↦ elim (case_lt z (p + 1)) [ inl b ↦ rw (a.1, b.1) (omega (arith, same_other z p y.0)) | inr b ↦ absurd (omega arith) ]
    | inr a ↦ elim (case_lt z (p + 1)) [ inl b ↦ absurd (omega (arith, y.0)) | inr b ↦ rw (a.1, b.1) (omega (arith, same_other z p y.0)) ]
  ]
]
  where
    same_is : (z p : ℕ) → z ≡ p → same z p ≡ 1
    same_is z p q = rw q (same_self p)

among_up : (z p n : ℕ) → among z (up_from p n) + below z p ≡ below z (p + n)
among_up z p zero = let q : p + 0 ≡ p = omega arith in rw q (omega arith)
among_up z p (suc n) = let q : p + suc n ≡ p + 1 + n = omega arith in rw q (omega (arith, among_up z (p + 1) n, below_next z p))

pub length_up : (p n : ℕ) → length (up_from p n) ≡ n
length_up p zero = refl
length_up p (suc n) = omega (arith, length_up (p + 1) n)

-- ---- one channel
below_none : (z : ℕ) → below z 0 ≡ 0
unfolding below
below_none z = elim (case_lt z 0) [ inl y ↦ absurd (omega arith) | inr y ↦ rw y.1 ]

single_all : (room z : ℕ) → same z 0 + 0 + among z (up_from 1 room) ≡ below z (places room)
single_all room z =
    let q : 1 + room ≡ places room = omega arith in
    omega (arith, rw q at (among_up z 1 room), below_next z 0, below_none z)

module _ (g : Settings) (floor : ℕ) (q : in_bounds g ≡ true) (h : floor ≤ last_moment) where
  pub single_sound : Sound (single g floor)
  single_sound = record {
    bounds = bounds_fewer g q 1 (omega arith) (in_bounds_lem g q).channels.0;
    floor = h;
    ordered = omega arith;
    high = height_allowed (leaf (key_of floor 0) open_end) tt;
    balanced = tt;
    lawful = record { channel = omega arith; some = omega arith; most = omega arith; stay = (stays_least floor open_end).1 (omega (arith, least_most floor)) };
    apart = λ k e k' e' i j c x. absurd (omega arith);
    open_ends = λ c a. record { key = key_of floor 0; inside = (refl, refl); channel = omega arith };
    all = single_all g.room;
    many = omega (arith, length_up 1 g.room);
    within = omega (arith, (in_bounds_lem g q).room.0, (in_bounds_lem g q).channels.0);
  }

  single_opening : Opening g floor 1 (single g floor)
  single_opening = record { sound = single_sound; settings = refl; level = refl; many = refl; wide = (start_of_key floor 0, refl) }

-- ---- all of them
module _ (g : Settings) (floor : ℕ) (q : in_bounds g ≡ true) where
  widen_opening : (c : ℕ) (s : State) → Opening g floor c s → c + 1 ≤ g.channels → Opening g floor (c + 1) (widen s)
  unfolding widen add
  widen_opening c s O h =
      let b : in_bounds (with_channels s.settings (s.settings.channels + 1)) ≡ true = rw O.settings (bounds_fewer g q (c + 1) (omega arith) h) in
      let r : s.settings.room ≡ g.room = ap (λ (x : Settings). x.room) O.settings in
      let n : size s.tree < s.settings.room = omega (arith, r, O.many, (in_bounds_lem g q).room.0) in
      let I = widen_inserted s O.sound b n in
      record {
        sound = widen_sound s O.sound b n;
        settings = rw O.settings;
        level = O.level;
        many = omega (arith, widen_size s O.sound b n, O.many);
        wide = I.all (λ k e. (start_of k ≡ floor) × (e ≡ open_end)) (start_of_key s.floor s.settings.channels ∙ O.level, refl) O.wide;
      }

  widened_opening : (n c : ℕ) (s : State) → Opening g floor c s → c + n ≤ g.channels → Opening g floor (c + n) (widened n s)
  widened_opening zero c s O h = let z : c + 0 ≡ c = omega arith in rw z O
  widened_opening (suc n) c s O h = let z : c + suc n ≡ c + 1 + n = omega arith in rw z (widened_opening n (c + 1) (widen s) (widen_opening c s O (omega arith)) (omega arith))

fewer_is : (n : ℕ) → 1 ≤ n → 1 + fewer n ≡ n
fewer_is zero h = absurd (omega arith)
fewer_is (suc n) h = omega arith

module _ (g : Settings) (floor : ℕ) (q : in_bounds g ≡ true) (h : floor ≤ last_moment) where
  fresh_opening : Opening g floor g.channels (fresh g floor)
  fresh_opening =
      let z = fewer_is g.channels (in_bounds_lem g q).channels.0 in
      subst (λ c. Opening g floor c (fresh g floor)) z (widened_opening g floor q (fewer g.channels) 1 (single g floor) (single_opening g floor q h) (omega (arith, z)))

  pub fresh_sound : Sound (fresh g floor)
  fresh_sound = fresh_opening.sound

  pub fresh_settings : (fresh g floor).settings ≡ g
  fresh_settings = fresh_opening.settings

  pub fresh_floor : (fresh g floor).floor ≡ floor
  fresh_floor = fresh_opening.level

  pub fresh_wide : All (λ k e. (start_of k ≡ floor) × (e ≡ open_end)) (fresh g floor).tree
  fresh_wide = fresh_opening.wide

  -- "At opening with floor F each channel has one void (F, open end)."
  pub fresh_voids : (c s e : ℕ) → Has (meaning (fresh g floor)).voids c s e ↔ ((c < g.channels) × (s ≡ floor) × (e ≡ open_end))
  fresh_voids c s e = (there, back)
    where
      t : Tree
      t = (fresh g floor).tree

      there : Has (meaning (fresh g floor)).voids c s e → (c < g.channels) × (s ≡ floor) × (e ≡ open_end)
      there x =
          let v = (has_voids c s e t).0 x in
          let w = all_in _ t fresh_wide v.key e v.inside in
          let l = all_in _ t fresh_sound.lawful v.key e v.inside in
          let n : (fresh g floor).settings.channels ≡ g.channels = ap (λ (x : Settings). x.channels) fresh_settings in
          (omega (arith, l.channel, v.channel, n), sym v.start ∙ w.0, w.1)

      back : (c < g.channels) × (s ≡ floor) × (e ≡ open_end) → Has (meaning (fresh g floor)).voids c s e
      back x =
          let n : (fresh g floor).settings.channels ≡ g.channels = ap (λ (x : Settings). x.channels) fresh_settings in
          let o = fresh_sound.open_ends c (omega (arith, n, x.0)) in
          let w = all_in _ t fresh_wide o.key open_end o.inside in
          (has_voids c s e t).1 (record { key = o.key; inside = rw x.2 o.inside; channel = o.channel; start = w.0 ∙ sym x.1 })
