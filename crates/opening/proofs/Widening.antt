-- A channel more, and then all of them: the states on the way, and what each step leaves in memory.
use mathlib.Core.Path.{◌≡◌, refl, ap, ◌∙◌}
use mathlib.Core.Logic.{inl, inr}
use mathlib.Core.Bool.{true}
use mathlib.Core.List.{List, ◌∷◌}
use Prim.Native.Nat.{ℕ, zero, suc, ◌+◌, ◌≤◌, ◌<◌}
use native.Mathlib.Numerals.{add-one}
use native.Mathlib.Omega.{arith}
use lib.ListN.{length}
use Rattle.numbers.specs.Case.{case_lt, case_eq}
use Rattle.numbers.specs.Words.{store}
use Rattle.rule.specs.Moments.{open_end}
use Rattle.rule.specs.Settings.{Settings, in_bounds}
use Rattle.rule.specs.SettingsLaws.{in_bounds_lem}
use Rattle.rule.specs.Key.{key_of}
use Rattle.shape.specs.Tree.{same, size, Balanced}
use Rattle.shape.specs.PlaceLaws.{same_self, same_other}
use Rattle.shape.specs.ChangeLaws.{weight_insert}
use Rattle.shape.specs.EvenLaws.{even_insert}
use Rattle.state.specs.State.{State, first, rest, add}
use Rattle.state.specs.Sound.{among, below}
use Rattle.state.specs.Places.{Placed}
use Rattle.state.specs.Open.{up_from, with_channels, widen, single, widened, fewer, fresh}
use Rattle.state.specs.OpenLaws.{length_up}
use Rattle.memory.specs.Header.{need}
use Rattle.memory.specs.Holds.{Past, After}
use Rattle.memory.specs.Steps.{Link, Roomy, Adds}
use Rattle.memory.proofs.Parts.{first_and_rest, below_is, below_out, past_none, past_then, part_put, opened, closed}
use Rattle.shape.specs.SizeLaws.{size_insert}
use Rattle.opening.specs.Stages.{Begun}

-- ---- the places from 1 on
below_next : (z p : ℕ) → below z (p + 1) ≡ below z p + same z p
below_next z p = elim (case_lt z p) [
  | inl y ↦ omega (arith, below_is z p y.0, below_is z (p + 1) (omega arith), same_other z p (omega arith))
  | inr y ↦ elim (case_eq z p) [
    | inl x ↦ rw x.0 (omega (arith, below_out p p (omega arith), below_is p (p + 1) (omega arith), same_self p))
    | inr x ↦ omega (arith, below_out z p y.0, below_out z (p + 1) (omega arith), same_other z p x.0)
  ]
]

among_up : (z p n : ℕ) → below z p + among z (up_from p n) ≡ below z (p + n)
among_up z p zero = let e : p + 0 ≡ p = omega arith in rw e (omega arith)
among_up z p (suc n) =
    let e : p + suc n ≡ p + 1 + n = omega arith in
    rw e (omega (arith, among_up z (p + 1) n, below_next z p))

-- ---- a state of j channels on the way to those of g
pub record Wide (g : Settings) (F j : ℕ) (s : State) : Type 0 where
  pub placed : Placed s
  pub even : Balanced s.tree
  pub many : size s.tree ≡ j
  pub channels : s.settings.channels ≡ j
  pub room : s.settings.room ≡ g.room
  pub floor : s.floor ≡ F

wide_single : (g : Settings) (floor : ℕ) → Wide g floor 1 (single g floor)
wide_single g floor =
    record {
      placed = record {
        all = λ z.
            let e : 1 + g.room ≡ g.room + 1 = omega arith in
            omega (arith, rw e at (among_up z 1 g.room), below_next z 0, below_out z 0 (omega arith));
        many = omega (arith, length_up 1 g.room);
      };
      even = tt;
      many = refl;
      channels = refl;
      room = refl;
      floor = refl;
    }

-- one channel more, as the header says it, before its void is there
abbrev more : State → State
more s = record { settings = with_channels s.settings (s.settings.channels + 1); floor = s.floor; tree = s.tree; spares = s.spares }

wide_step : (g : Settings) (floor j : ℕ) (s : State) → j ≤ g.room → Wide g floor j s → Wide g floor (j + 1) (widen s)
unfolding widen add
wide_step g floor j s fit w =
    let Q = first s.spares in
    let e : s.spares ≡ Q ∷ rest s.spares = first_and_rest s.spares (omega (arith, w.placed.many, w.many, w.room)) in
    let k = key_of s.floor s.settings.channels in
    record {
      placed = record {
        all = λ z. omega (arith, rw e at (w.placed.all z), weight_insert (λ k e. 0) (same z) k open_end Q s.tree);
        many = omega (arith, w.placed.many, ap length e, size_insert k open_end Q s.tree);
      };
      even = even_insert k open_end Q s.tree w.even;
      many = omega (arith, w.many, size_insert k open_end Q s.tree);
      channels = omega (arith, w.channels);
      room = w.room;
      floor = w.floor;
    }

wide_many : (g : Settings) (floor n j : ℕ) (s : State) → j + n ≤ g.room + 1 → Wide g floor j s → Wide g floor (j + n) (widened n s)
wide_many g floor zero j s fit w = let e : j + 0 ≡ j = omega arith in rw e w
wide_many g floor (suc n) j s fit w =
    let e : j + suc n ≡ j + 1 + n = omega arith in
    rw e (wide_many g floor n (j + 1) (widen s) (omega arith) (wide_step g floor j s (omega arith) w))

-- the last step may be taken for the first
widened_last : (n : ℕ) (s : State) → widened (suc n) s ≡ widen (widened n s)
widened_last zero s = refl
widened_last (suc n) s = widened_last n (widen s)

fewer_is : (c : ℕ) → 1 ≤ c → 1 + fewer c ≡ c
fewer_is zero h = absurd (omega arith)
fewer_is (suc c) h = omega arith

fewer_next : (c : ℕ) → 1 ≤ c → fewer (c + 1) ≡ suc (fewer c)
fewer_next zero h = absurd (omega arith)
fewer_next (suc c) h = rw (add-one (suc c))

-- with c of its channels, the places of a link are accounted for
pub wide : (g : Settings) (floor c : ℕ) → 1 ≤ c → c ≤ g.room + 1 → Wide g floor c (widened (fewer c) (single g floor))
wide g floor c h fit = rw (fewer_is c h) at (wide_many g floor (fewer c) 1 (single g floor) (omega (arith, fewer_is c h)) (wide_single g floor))

pub room_widened : (n : ℕ) (s : State) → (widened n s).settings.room ≡ s.settings.room
unfolding widen add
room_widened zero s = refl
room_widened (suc n) s = room_widened n (widen s)

-- ---- what holds of a link that is begun
module _ (g : Settings) (channels floor : ℕ) (m0 : List ℕ) (B : Begun g channels floor m0) where
  pub limits : (1 ≤ channels) × (channels ≤ 64) × (channels ≤ g.room) × (floor < open_end) × (224 ≤ length m0)
  limits = let b = in_bounds_lem g B.bounds in omega (arith, B.many, B.early, b.channels.0, b.channels.1, b.room.0, B.holds.long)

  pub begins : After m0 m0 (widened (fewer 1) (single g floor))
  begins = record { holds = B.holds; past = past_none _ m0 }

  pub ends : (c : ℕ) (m : List ℕ) → c ≤ channels → channels ≤ c → After m0 m (widened (fewer c) (single g floor)) → After m0 m (fresh g floor)
  ends c m h i a = let e : c ≡ g.channels = omega (arith, B.many) in rw e at a

  -- at a channel c of them
  module _ (c : ℕ) (some : 1 ≤ c) (less : c < channels) (m : List ℕ) (A : After m0 m (widened (fewer c) (single g floor))) where
    abbrev s : State
    s = widened (fewer c) (single g floor)

    W : Wide g floor c s
    W = wide g floor c some (omega (arith, limits))

    module _ (m1 : List ℕ) (e1 : m1 ≡ store m 1 (c + 1)) where
      numbered : After m m1 (more s)
      numbered =
          let P = part_put m m _ _ s.tree s.spares (opened m s (record { placed = W.placed; even = W.even; holds = A.holds })) 1 (c + 1) (omega arith) (omega (arith, limits)) in
          let n : c + 1 ≡ s.settings.channels + 1 = omega (arith, W.channels) in
          closed m m1 (more s) A.holds.lines (rw (e1, ← n) P)

      link : Link m1 (more s)
      link = record { placed = record { all = W.placed.all; many = W.placed.many }; even = W.even; holds = numbered.holds }

      pub roomy : Roomy m1
      roomy = (more s, link, omega (arith, W.many, W.room, limits))

      pub widens : (m2 : List ℕ) (key : ℕ) → key ≡ key_of floor c → Adds key open_end m1 m2 → After m0 m2 (widened (fewer (c + 1)) (single g floor))
      unfolding widen add
      widens m2 key ek f =
          let k : key ≡ key_of s.floor s.settings.channels = ek ∙ (rw (W.floor, W.channels)) in
          let a : After m1 m2 (widen s) = rw k at (f (more s) link) in
          rw (fewer_next c some, widened_last (fewer c) (single g floor))
          (record { holds = a.holds; past = past_then A.past (past_then numbered.past a.past) })

-- ---- one channel, and then all of them
pub both : (g : Settings) (floor : ℕ) (m m1 m2 : List ℕ) → After m m1 (single g floor) → After m1 m2 (fresh g floor) → After m m2 (fresh g floor)
both g floor m m1 m2 a b =
    let e = room_widened (fewer g.channels) (single g floor) in
    let p : Past (need g.room) m1 m2 = rw e at b.past in
    record { holds = b.holds; past = rw e (past_then a.past p) }

-- ---- of an accepted opening, the places are accounted for, and the tree is balanced
pub wide_fresh : (g : Settings) (floor : ℕ) → in_bounds g ≡ true → Wide g floor g.channels (fresh g floor)
wide_fresh g floor h =
    let b = in_bounds_lem g h in
    wide g floor g.channels b.channels.0 (omega (arith, b.room.0))

pub placed_fresh : (g : Settings) (floor : ℕ) → in_bounds g ≡ true → Placed (fresh g floor)
placed_fresh g floor h = (wide_fresh g floor h).placed
