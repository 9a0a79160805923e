-- The way of the keys from a given one on, followed beside the search: what its steps ask and promise.
use Rattle.std.specs.Prelude.{◌≡◌, List, ℕ, suc, ◌≤◌, ◌<◌, get_or, set}
use Rattle.shape.specs.Tree.{Tree, Ord}
use Rattle.node.specs.Layout.{node_at}
use Rattle.node.specs.Rep.{Stands}
use Rattle.tracing.specs.Ways.{Leads, Serves}
use Rattle.search.specs.declared.Trail.{Trail}
use Rattle.search.specs.Search.{Descendable}

-- above every key
abbrev pub first_after : ℕ
first_after = 18446744073709551615

-- some tree stands at the seat noted last, and its ways down fit the list
abbrev pub Followable : (m ws : List ℕ) → Trail → Type 0
Followable m ws t = Descendable m t.place ws t.ahead.deep

-- the seats noted go down from the root as every key from b on and below `after` leads, and the keys below the last of them are lower
-- than `after`
pub record Trailing (m : List ℕ) (root b : ℕ) (ws : List ℕ) (t : Trail) : Type 0 where
  pub here : Tree
  pub from : ℕ
  pub stands : Stands m (get_or ws t.ahead.deep 0) here
  pub ordered : Ord from t.ahead.after here
  pub first : get_or ws 0 0 ≡ root
  pub leads : (k : ℕ) → b ≤ k → k < t.ahead.after → (i : ℕ) → i < t.ahead.deep → Leads m k (get_or ws i 0) (get_or ws (suc i) 0)

-- t is at the root
pub record Begun (root place : ℕ) (t : Trail) (ws ws' : List ℕ) : Type 0 where
  pub trail : t ≡ record { place = place; ahead = record { deep = 0; after = first_after } }
  pub noted : ws' ≡ set ws 0 root

-- u is a step on from t, if that is not at a leaf
pub record Follows (m : List ℕ) (b : ℕ) (t u : Trail) (ws ws' : List ℕ) : Type 0 where
  pub able : Followable m ws' u
  pub lower : (t.place ≡ 0 → ⊥) → (node_at m (get_or ws' u.ahead.deep 0)).height < (node_at m (get_or ws t.ahead.deep 0)).height
  pub trails : (root : ℕ) → Trailing m root b ws t → Trailing m root b ws' u

-- u is where the way from t ends
pub record FollowsOn (m : List ℕ) (b : ℕ) (t u : Trail) (ws ws' : List ℕ) : Type 0 where
  pub able : Followable m ws' u
  pub ends : u.place ≡ 0
  pub trails : (root : ℕ) → Trailing m root b ws t → Trailing m root b ws' u

-- if the tree at the root is in order, the first d + 1 seats are the way of every key from b on and below `after`
abbrev pub Ahead : (m : List ℕ) → (root b d after : ℕ) → (ws : List ℕ) → Type 0
Ahead m root b d after ws =
    (t : Tree) (a c : ℕ) → Stands m root t → Ord a c t → c ≤ first_after → Serves m root b after d ws
