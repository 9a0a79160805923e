-- The voids that a tree holds, in the rule's words: a leaf's key is its void's start and channel.
use Rattle.std.specs.Prelude.{◌≡◌, ℕ}
use Rattle.rule.specs.Key.{start_of, channel_of}
use Rattle.shape.specs.Tree.{Tree, In}

-- a leaf of t is the void of channel c from s up to e
pub record VoidsIn (t : Tree) (c s e : ℕ) : Type 0 where
  pub key : ℕ
  pub inside : In key e t
  pub channel : channel_of key ≡ c
  pub start : start_of key ≡ s
