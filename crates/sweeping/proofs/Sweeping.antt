-- A sweep of a whole link, way out by way out: refused by its code, or cleared and the floor set.
use mathlib.Core.Path.{◌≡◌, refl, sym, ap, subst, ◌∙◌}
use mathlib.Core.List.{List, ◌++◌}
use Prim.Native.Nat.{ℕ, zero, suc, ◌+◌, ◌≤◌}
use native.Mathlib.Omega.{arith}
use Rattle.numbers.specs.Words.{word}
use Rattle.rule.specs.Settings.{Settings, longest}
use Rattle.rule.specs.SettingsLaws.{in_bounds_lem}
use Rattle.rule.specs.Moments.{last_moment, open_end}
use Rattle.rule.specs.Kept.{least, least_most}
use Rattle.rule.specs.Order.{sweep}
use Rattle.rule.specs.Codes.{sweep_code}
use Rattle.std.specs.Prelude.{Result, Err}
use Rattle.rule.specs.Answer.{seven, numbers_of, answer_of}
use Rattle.rule.specs.Refusal.{number_of, refused_some}
use Rattle.rule.specs.declared.answer.Answer.{Answer}
use Rattle.rule.specs.declared.answer.Refused.{Refused}
use Rattle.rule.specs.declared.refusal.Refusal.{Refusal}
use Rattle.shape.specs.Tree.{In, low, size, Balanced}
use Rattle.shape.specs.PlaceLaws.{size_weight}
use Rattle.shape.specs.TreeLaws.{all_in, low_ends}
use Rattle.shape.specs.Clear.{clear, freed}
use Rattle.state.specs.State.{State, with_tree, with_floor}
use Rattle.state.specs.Sound.{Sound}
use Rattle.state.specs.Act.{left_of, to_drop, cleared, Outcome, refusal, sweep_as, act}
use Rattle.state.specs.Places.{Placed}
use Rattle.state.specs.ClearLaws.{left_some}
use Rattle.state.proofs.SweepLaws.{placed_left}
use Rattle.memory.specs.Holds.{Holds, Whole, After}
use Rattle.memory.specs.Steps.{Link, Some, Refloors}
use Rattle.memory.proofs.Whole.{whole_link, floor_is, after_none, after_then}
use Rattle.clearing.specs.Clears.{Lasting, Lasts, Clears}
use Rattle.sweeping.specs.Swept.{Sweeps}

pub short_leap : (m : List ℕ) → Whole m → (x : ℕ) → x ≡ word m 3 → x ≤ longest
short_leap m w x e = omega (arith, w.2.heads 3 (omega arith), (in_bounds_lem w.0.settings w.1.bounds).leap)

sweep_early : (code : ℕ) (s : State) (moment : ℕ) → (code ≡ 0 → ⊥) → sweep_as code s moment ≡ refusal s code
sweep_early zero s moment n = absurd (n refl)
sweep_early (suc c) s moment n = refl

-- what is left of a link, cleared
kept_link : {m : List ℕ} (b : ℕ) (s : State) → Link m s → (k e : ℕ) → In k e s.tree → b ≤ e
    → Placed (with_tree s (left_of s.tree (clear b s.tree)) (freed b s.tree ++ s.spares)) × Balanced (left_of s.tree (clear b s.tree))
kept_link b s L k e i h =
    let u = left_some b s.tree k e L.even i h in
    rw u.1 (placed_left s b u.0 u.2 L.placed, u.2.even.0)

-- how many went
dropped_many : {m : List ℕ} (moment : ℕ) (s : State) → Link m s → (k e : ℕ) → In k e s.tree → least moment ≤ e
    → to_drop moment s.tree + size (cleared s (least moment)).tree ≡ size s.tree
unfolding cleared
dropped_many moment s L k e i h =
    let u = left_some (least moment) s.tree k e L.even i h in
    rw u.1 (omega (arith, u.2.lost (λ k e. 1), size_weight u.0, size_weight s.tree))

-- an outcome in memory
sweeps : (moment : ℕ) (a : Answer) (m m' : List ℕ) (s : State) (o : Outcome) → act s (sweep moment) ≡ o
    → numbers_of a ≡ seven o.reply o.count → After m m' o.after → Sweeps moment a m m' s
sweeps moment a m m' s o q ea A = record { answer = rw q ea; after = rw q A }

module _ (m : List ℕ) (moment floor leap code : ℕ) (ef : floor ≡ word m 4) (el : leap ≡ word m 3)
    (ec : (g : Settings) → g.leap ≡ leap → code ≡ sweep_code g floor moment) where
  code_is : (s : State) → Holds m s → sweep_code s.settings s.floor moment ≡ code
  code_is s H =
      let i : floor ≡ s.floor = ef ∙ floor_is H in
      sym (rw i at (ec s.settings (sym (el ∙ H.heads 3 (omega arith)))))

  pub refused_early : (why : Refusal) → code ≡ number_of why → (r : Result Answer Refused) → r ≡ Err (record { why = why; count = 0 })
      → (s : State) → Sound s → Holds m s → Sweeps moment (answer_of r) m m s
  refused_early why e r q s W H =
      rw q (sweeps moment _ m m s (refusal s code) (rw (code_is s H) (sweep_early code s moment (λ z. omega (arith, e, refused_some why)))) (rw e) (after_none H))

  module _ (z : code ≡ 0) (late : moment ≤ last_moment) (bound : ℕ) (eb : bound ≡ least moment) where
    -- each channel keeps a void with the open end
    lasting : (s : State) → Sound s → Holds m s → Lasting bound m s
    lasting s W H =
        let x = low_ends s.tree in
        let o = W.open_ends _ (all_in _ s.tree W.lawful x.key (low s.tree) x.inside).channel in
        record { link = whole_link W H; key = o.key; end = open_end; inside = o.inside; late = omega (arith, eb, least_most moment, late) }

    pub clearable : Whole m → Lasts bound m
    clearable w = (w.0, lasting w.0 w.1 w.2)

    module _ (n : ℕ) (m1 : List ℕ) (C : Clears bound n m m1) where
      cleared_link : (s : State) → Sound s → Holds m s → Link m1 (cleared s bound)
      unfolding cleared
      cleared_link s W H =
          let L = lasting s W H in
          let K = kept_link bound s L.link L.key L.end L.inside L.late in
          record { placed = K.0; even = K.1; holds = (C s L).1.holds }

      pub some : Whole m → Some m1
      some w = (cleared w.0 bound, cleared_link w.0 w.1 w.2)

      pub done : (m2 : List ℕ) → Refloors moment m1 m2 → (s : State) → Sound s → Holds m s
          → Sweeps moment (record { code = 0; channel = 0; line = 0; start = 0; finish = 0; count = 0; dropped = n }) m m2 s
      done m2 f s W H =
          let L = lasting s W H in
          let D = C s L in
          let A : After m m2 (with_floor (cleared s bound) moment) = after_then refl D.1 (f (cleared s bound) (cleared_link s W H)) in
          let e : n ≡ to_drop moment s.tree = omega (arith, D.0, dropped_many moment s L.link L.key L.end L.inside (subst (λ b. b ≤ L.end) eb L.late), ap (λ b. size (cleared s b).tree) eb) in
          sweeps moment _ m m2 s (sweep_as 0 s moment) (rw (code_is s H ∙ z)) (rw e) (rw eb at A)
