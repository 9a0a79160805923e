-- The table of bounds, row by row: the one test holds exactly if each row does.
use Rattle.std.specs.Prelude.{◌≡◌, refl, List, [], ◌∷◌, Bool, true, false, ℕ, zero, suc, ◌≤◌, length, get_or}
use Rattle.std.proofs.Common.{inl, inr, arith}
use Rattle.std.proofs.lemmas.Bool.{false≢true}
use Rattle.numbers.specs.Case.{pick, case_le}
use Rattle.rule.specs.Settings.{Settings, most_channels, most_room, most_lines, longest, between, rising, in_bounds}

pub between_yes : (low high x : ℕ) → between low high x ≡ true → (low ≤ x) × (x ≤ high)
between_yes low high x = elim (case_le low x) [
  | inl y ↦ rw y.1 (elim (case_le x high) [ inl z ↦ λ q. (y.0, z.0) | inr z ↦ rw z.1 (λ q. absurd (false≢true q)) ])
  | inr y ↦ rw y.1 (λ q. absurd (false≢true q))
]

pub yes_between : (low high x : ℕ) → low ≤ x → x ≤ high → between low high x ≡ true
yes_between low high x h i = elim (case_le low x) [
  | inl y ↦ rw y.1 (elim (case_le x high) [ inl z ↦ z.1 | inr z ↦ absurd (omega arith) ])
  | inr y ↦ absurd (omega arith)
]

pub record Bounds (g : Settings) : Type 0 where
  pub channels : (1 ≤ g.channels) × (g.channels ≤ most_channels)
  pub lines : length g.delays ≤ most_lines
  pub delays : rising 0 g.delays ≡ true
  pub leap : (1 ≤ g.leap) × (g.leap ≤ longest)
  pub room : (g.channels ≤ g.room) × (g.room ≤ most_room)

pick_yes : (a b : Bool) → pick a b false ≡ true → (a ≡ true) × (b ≡ true)
pick_yes true b q = (refl, q)
pick_yes false b q = absurd (false≢true q)

yes_pick : (a b : Bool) → a ≡ true → b ≡ true → pick a b false ≡ true
yes_pick a b p q = rw (p, q)

pub in_bounds_lem : (g : Settings) → in_bounds g ≡ true → Bounds g
in_bounds_lem g q =
    let a = pick_yes _ _ q in
    let b = pick_yes _ _ a.1 in
    let c = pick_yes _ _ b.1 in
    let d = pick_yes _ _ c.1 in
    let e = pick_yes _ _ d.1 in
    record {
      channels = between_yes 1 most_channels g.channels a.0;
      lines = (between_yes 0 most_lines (length g.delays) b.0).1;
      delays = c.0;
      leap = between_yes 1 longest g.leap d.0;
      room = between_yes g.channels most_room g.room e.0;
    }

pub bounds_in : (g : Settings) → Bounds g → in_bounds g ≡ true
bounds_in g b =
    yes_pick _ _ (yes_between 1 most_channels g.channels b.channels.0 b.channels.1)
    (yes_pick _ _ (yes_between 0 most_lines (length g.delays) (omega arith) b.lines)
    (yes_pick _ _ b.delays
    (yes_pick _ _ (yes_between 1 longest g.leap b.leap.0 b.leap.1)
    (yes_pick _ _ (yes_between g.channels most_room g.room b.room.0 b.room.1) refl))))

-- the delays of a rising list are each at most the longest
pub rising_at : (d : ℕ) (ds : List ℕ) → rising d ds ≡ true → (i : ℕ) → get_or ds i 0 ≤ longest
rising_at d [] q i = omega arith
rising_at d (y ∷ ys) q zero = (between_yes (suc d) longest y (pick_yes (between (suc d) longest y) (rising y ys) q).0).1
rising_at d (y ∷ ys) q (suc i) = rising_at y ys (pick_yes (between (suc d) longest y) (rising y ys) q).1 i

-- a delay x after the delay d: where it may not come, the list does not rise; where it may, the rest decides
pub rising_not : (d x : ℕ) (xs : List ℕ) → between (suc d) longest x ≡ false → rising d (x ∷ xs) ≡ false
rising_not d x xs q = rw q

pub rising_next : (d x : ℕ) (xs : List ℕ) → between (suc d) longest x ≡ true → rising d (x ∷ xs) ≡ rising x xs
rising_next d x xs q = rw q
