-- From what the reader and the opening promise to what the call promises, case by case.
use mathlib.Core.Path.{◌≡◌, refl, sym, ap, ◌∙◌}
use mathlib.Core.Bool.{Bool, true, false}
use Rattle.std.specs.Prelude.{Result, Ok, Err}
use mathlib.Core.List.{List}
use Prim.Native.Nat.{ℕ, ◌+◌, ◌*◌, ◌≤◌, ◌<◌}
use native.Mathlib.Omega.{arith}
use lib.Dec.{ltb}
use lib.ListN.{length, take}
use Rattle.rule.specs.Settings.{Settings, settings, in_bounds}
use Rattle.rule.specs.SettingsLaws.{in_bounds_lem}
use Rattle.rule.specs.declared.moments.Moment.{Moment}
use Rattle.order.specs.declared.Record.{Record}
use Rattle.order.specs.declared.Record.TheVariants.{Opening as Read, Booking, Sweep}
use Rattle.order.specs.declared.Unread.{Unread}
use Rattle.order.specs.Records.{Reading, unread, opening, order, Opening, delays_at, reading, opening_only}
use Rattle.order.specs.Read.{meant, Narrow, ReadsOpening}
use Rattle.order.specs.Delays.{delays_length}
use Rattle.opening.specs.Opening.{opening_code, Opens as Codes}
use Rattle.calls.specs.declared.open.Opened.{Opened}
use Rattle.calls.specs.Opens.{settings_of, OpensRead, Opens}

-- what an opening record says
abbrev said : (channels lines leap floor : ℕ) → List ℕ → Opening
said c l p f s = record { channels = c; delays = delays_at 14 l s; leap = p; floor = f }

-- for opening, what is no opening is as good as unread
only_opening : (room : ℕ) (y : Reading) (o : Opened) (m m' : List ℕ) → OpensRead room (opening_only y) o m m' → OpensRead room y o m m'
only_opening room (unread x) o m m' h = h
only_opening room (opening n p) o m m' h = h
only_opening room (order n p) o m m' h = h

module _ (s : List ℕ) (r : Result Record Unread) (x : ReadsOpening s r) (c l p : ℕ) (f : Moment) (u : ℕ) (q : r ≡ Ok (Read c l p f u)) where
  is_opening : opening_only (reading s) ≡ opening u (said c l p f.ticks s)
  is_opening = sym x.is ∙ ap (meant s) q

  narrow : Narrow (Ok (Read c l p f u))
  narrow = rw q at x.narrow

  pub long : 14 + 4 * l ≤ length s
  long = omega (arith, narrow.3, rw is_opening at x.inside)

  module _ (room : ℕ) (m : List ℕ) where
    -- too many lines
    pub too_many : 16 < l → Opens room s (record { code = 1; used = 0 }) m m
    too_many h = only_opening room (reading s) _ m m (rw is_opening (rw (one (in_bounds (settings_of room (said c l p f.ticks s))) refl) (refl, refl)))
      where
        one : (b : Bool) → in_bounds (settings_of room (said c l p f.ticks s)) ≡ b → opening_code (settings_of room (said c l p f.ticks s)) (length m) ≡ 1
        one true e = absurd (omega (arith, (in_bounds_lem (settings_of room (said c l p f.ticks s)) e).lines, delays_length 14 l s))
        one false e = rw e

    -- the opening's own answer
    module _ (m' ds : List ℕ) (code : ℕ) (d : take l ds ≡ delays_at 14 l s) (o : Codes (settings room c p (take l ds)) f.ticks m m' code) where
      same_code : opening_code (settings_of room (said c l p f.ticks s)) (length m) ≡ code
      same_code = rw (← d) (sym o.answer)

      pub accepted : code ≡ 0 → Opens room s (record { code = 0; used = u }) m m'
      accepted z = only_opening room (reading s) _ m m' (rw (is_opening, same_code, z) (refl, rw (← d) (o.accepted z)))

      codes : (g : Settings) (n : ℕ) → (opening_code g n ≡ 0 → ⊥) → opening_code g n ≡ 1
      codes g n h = go (in_bounds g) refl (ltb n (Rattle.memory.specs.Header.need g.room)) refl
        where
          go : (a : Bool) → in_bounds g ≡ a → (b : Bool) → ltb n (Rattle.memory.specs.Header.need g.room) ≡ b → opening_code g n ≡ 1
          go false e b e' = rw e
          go true e true e' = rw (e, e')
          go true e false e' = absurd (h (rw (e, e')))

      pub turned_down : (code ≡ 0 → ⊥) → Opens room s (record { code = 1; used = 0 }) m m'
      turned_down h =
          let one : code ≡ 1 = o.answer ∙ codes (settings room c p (take l ds)) (length m) (λ e. h (o.answer ∙ e)) in
          only_opening room (reading s) _ m m' (rw (is_opening, same_code, one) (refl, o.refused one))

-- any other record: it is no opening
pub no_opening : (s : List ℕ) (r : Result Record Unread) → ReadsOpening s r → (room : ℕ) (m : List ℕ) → ((c l p : ℕ) (f : Moment) (u : ℕ) → r ≡ Ok (Read c l p f u) → ⊥) → Opens room s (record { code = 11; used = 0 }) m m
no_opening s (Ok (Read c l p f u)) x room m n = absurd (n c l p f u refl)
no_opening s (Ok (Booking a b l u)) x room m n = only_opening room (reading s) _ m m (rw (sym x.is) (refl, refl))
no_opening s (Ok (Sweep a u)) x room m n = only_opening room (reading s) _ m m (rw (sym x.is) (refl, refl))
no_opening s (Err e) x room m n = only_opening room (reading s) _ m m (rw (sym x.is) (refl, refl))
