-- Delays that rise, as an iterator gives them: those that are left rise exactly if all of them do.
use mathlib.Core.Path.{◌≡◌, ◌∙◌}
use mathlib.Core.Bool.{true, false}
use mathlib.Core.List.{List, [], ◌∷◌}
use Prim.Native.Nat.{ℕ, suc}
use Rattle.std.specs.Prelude.{Option, Some, None}
use Rattle.std.specs.Iterator.{AlwaysYields}
use Rattle.rule.specs.Settings.{longest, between, rising}
use Rattle.rule.specs.SettingsLaws.{rising_next, rising_not}

module _ {S : Type 0} (steps : S → Option ℕ → S → Type 0) where
  -- the delays xs rise exactly if those that s has left do, from the least that may come next on
  abbrev pub Left : (xs : List ℕ) → (least : ℕ) → S → Type 0
  Left xs least s = (last : ℕ) × (ys : List ℕ) × (least ≡ suc last) × AlwaysYields steps (λ x. x) s ys × (rising 0 xs ≡ rising last ys)

  module _ (xs : List ℕ) (least : ℕ) (s t : S) where
    pub none_left : Left xs least s → steps s None t → rising 0 xs ≡ true
    none_left (last, [], n, _, e) h = e
    none_left (last, y ∷ ys, n, a, e) h = absurd (a.0 t h)

    module _ (d : ℕ) (h : steps s (Some d) t) where
      pub rise_not : Left xs least s → between least longest d ≡ false → rising 0 xs ≡ false
      rise_not (last, [], n, a, e) u = absurd (a d t h)
      rise_not (last, y ∷ ys, n, a, e) u = e ∙ rw (← (a.1 d t h).0) (rising_not last d ys (rw n at u))

      pub rise_next : (next : ℕ) → next ≡ suc d → Left xs least s → between least longest d ≡ true → Left xs next t
      rise_next next q (last, [], n, a, e) u = absurd (a d t h)
      rise_next next q (last, y ∷ ys, n, a, e) u = (d, ys, q, (a.1 d t h).1, e ∙ rw (← (a.1 d t h).0) (rising_next last d ys (rw n at u)))
