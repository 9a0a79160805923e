-- What a split of a void asks of the state, and gets in a sound link unless code 8 is given (SoundLaws, split_room).
use Rattle.std.specs.Prelude.{◌≡◌, ◌≢◌, true, false, ℕ, ◌≤◌, ◌<◌, length}
use Rattle.rule.specs.Kept.{kept}
use Rattle.rule.specs.Key.{key_of, start_of, channel_of}
use Rattle.shape.specs.Tree.{size, All}
use Rattle.state.specs.State.{State}
use Rattle.state.specs.Sound.{most_key}

-- what a split asks of the state: a spare place; room for two pieces; never the last void to drop; and a new key
pub record Room (s : State) (k e r f : ℕ) : Type 0 where
  pub spare : 1 ≤ length s.spares
  pub less : kept s.floor (start_of k) r ≡ true → kept s.floor f e ≡ true → size s.tree < s.settings.room
  pub another : kept s.floor (start_of k) r ≡ false → kept s.floor f e ≡ false → 2 ≤ size s.tree
  pub key : kept s.floor f e ≡ true → key_of f (channel_of k) < most_key
  pub clear : kept s.floor f e ≡ true → All (λ j g. j ≢ key_of f (channel_of k)) s.tree
