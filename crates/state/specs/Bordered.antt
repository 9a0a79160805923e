-- What every order keeps: each tick is held by a booking or by a void, and bookings border the voids.
-- H says how many bookings hold a tick: those of a history, or, for any whole link, one wherever no void is.
use Rattle.std.specs.Prelude.{◌≡◌, ◌⊎◌, ℕ, suc, ◌+◌, ◌-◌, ◌≤◌, ◌<◌}
use Rattle.rule.specs.Moments.{open_end, last_moment}
use Rattle.rule.specs.Key.{start_of, channel_of}
use Rattle.shape.specs.Tree.{Tree, Balanced, Ord, All}
use Rattle.state.specs.Sound.{most_key}
use Rattle.state.specs.Cover.{cover}

-- a void on one of C channels, within [F₀, open end], with an end at G or later: a booking or the open end ends it, and
-- a booking or F₀ stands before it
pub record Bordered (F₀ G C : ℕ) (H : ℕ → ℕ → ℕ) (k e : ℕ) : Type 0 where
  pub some : start_of k < e
  pub since : F₀ ≤ start_of k
  pub most : e ≤ open_end
  pub stay : G ≤ e
  pub channel : channel_of k < C
  pub stops : (e ≡ open_end) ⊎ (1 ≤ H (channel_of k) e)
  pub starts : (start_of k ≡ F₀) ⊎ (1 ≤ H (channel_of k) (start_of k - 1))

-- no tick is held twice; from F₀ and from the one before F on each is held; the last one by no booking
pub record Kept (F₀ F G C : ℕ) (H : ℕ → ℕ → ℕ) (t : Tree) : Type 0 where
  pub ordered : Ord 0 most_key t
  pub balanced : Balanced t
  pub once : (c s : ℕ) → c < C → H c s + cover t c s ≤ 1
  pub full : (c s : ℕ) → c < C → F₀ ≤ s → F ≤ suc s → s < open_end → 1 ≤ H c s + cover t c s
  pub last : (c : ℕ) → c < C → H c last_moment ≡ 0
  pub edges : All (λ k e. Bordered F₀ G C H k e) t
