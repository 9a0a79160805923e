-- A void taken apart, from program point to program point.
use mathlib.Core.Path.{◌≡◌, refl, sym, ◌∙◌}
use mathlib.Core.Bool.{Bool, true, false}
use mathlib.Core.List.{List}
use Prim.Native.Nat.{ℕ, ◌≤◌, ◌<◌}
use native.Mathlib.Omega.{arith}
use Rattle.numbers.specs.Words.{word}
use Rattle.rule.specs.Kept.{kept}
use Rattle.rule.specs.Key.{key_of, start_of, channel_of}
use Rattle.shape.specs.Tree.{size}
use Rattle.shape.specs.TreeLaws.{size_some}
use Rattle.shape.specs.EvenLaws.{even_set, even_insert}
use Rattle.state.specs.State.{State, first, shorten, add, drop}
use Rattle.state.specs.Act.{split}
use Rattle.state.specs.Sound.{most_key}
use Rattle.state.specs.PlaceLaws.{placed_shorten, placed_add}
use Rattle.memory.specs.Holds.{Holds, After}
use Rattle.memory.specs.Steps.{Link, Roomy, Several, Shortens, Adds, Drops}
use Rattle.shape.specs.SizeLaws.{size_set, size_insert}
use Rattle.memory.proofs.Whole.{whole_link, floor_is, after_none, after_then}
use Rattle.node.specs.Layout.{root_seat}
use Rattle.tracing.specs.Ways.{Way}
use Rattle.tracing.proofs.Alike.{alike_set, way_alike}
use Rattle.shape.specs.Arrange.{set_end}
use Rattle.taking.specs.Take.{Splitting, Ahead, Puts}

-- what a test of a piece says of the state
pub piece : {m : List ℕ} {s : State} → Holds m s → (x : ℕ) → x ≡ word m 4 → (y a z : ℕ) → y ≡ a → (b v : Bool) → b ≡ kept x y z → b ≡ v → kept s.floor a z ≡ v
piece {m} {s} H x e y a z ey b v q g =
    let i : x ≡ s.floor = e ∙ floor_is H in
    sym (rw (i, ey) at q) ∙ g

-- ---- the void taken apart
module _ (m : List ℕ) (k e r f : ℕ) (s : State) (S : Splitting s k e r f) (H : Holds m s) where
  abbrev K : ℕ
  K = key_of f (channel_of k)

  link : Link m s
  link = whole_link S.sound H

  -- the key of the piece behind, as the code makes it
  abbrev pub Next : ℕ → Type 0
  Next n = (c : ℕ) × (c ≡ channel_of k) × (n ≡ key_of f c)

  next_is : (n : ℕ) → Next n → n ≡ K
  next_is n g = g.2 ∙ (rw g.1)

  -- the piece in front is kept
  module _ (m1 : List ℕ) (g : Shortens k r m m1) where
    short : Link m1 (shorten s k r)
    unfolding shorten
    short =
        record {
          placed = placed_shorten s 0 most_key S.sound.ordered S.sound.balanced link.placed k e r S.inside;
          even = even_set k r s.tree S.sound.balanced;
          holds = (g s link).holds;
        }

    pub roomy_front : kept s.floor (start_of k) r ≡ true → kept s.floor f e ≡ true → Roomy m1
    unfolding shorten
    roomy_front y z = (shorten s k r, short, omega (arith, S.room.less y z, size_set k r s.tree))

    -- the way ahead is a way still: only an end has changed
    pub ahead_front : (d after : ℕ) (ws : List ℕ) → Ahead f d after ws m → (n : ℕ) → Next n → n < after → Way m1 root_seat n d ws
    unfolding shorten
    ahead_front d after ws A n i l =
        way_alike m m1 root_seat n d ws (A n (omega (arith, next_is n i)) l) s.tree (set_end k r s.tree) H.stands (g s link).holds.stands (alike_set k r s.tree)

    pub split_front : kept s.floor (start_of k) r ≡ true → kept s.floor f e ≡ false → After m m1 (split s k e r f)
    unfolding split
    split_front y z = rw (y, z) (g s link)

    pub split_both : kept s.floor (start_of k) r ≡ true → kept s.floor f e ≡ true → (n : ℕ) → Next n → (m2 : List ℕ) → Adds n e m1 m2 → After m m2 (split s k e r f)
    unfolding split shorten add
    split_both y z n i m2 h = rw (y, z) (after_then refl (g s link) (rw (next_is n i) at (h (shorten s k r) short)))

  -- it is not: the state before the void goes, after the piece behind has come
  pub record Going (m1 : List ℕ) : Type 0 where
    pub was : State
    pub after : After m m1 was
    pub linked : Link m1 was
    pub two : 2 ≤ size was.tree
    pub same : was.settings ≡ (drop was k).settings
    pub is : drop was k ≡ split s k e r f

  module _ (y : kept s.floor (start_of k) r ≡ false) where
    pub going_more : kept s.floor f e ≡ true → (n : ℕ) → Next n → (m1 : List ℕ) → Adds n e m m1 → Going m1
    unfolding split add drop
    going_more z n i m1 h =
        let A : After m m1 (add s K e) = rw (next_is n i) at (h s link) in
        record {
          was = add s K e;
          after = A;
          linked = record {
            placed = placed_add s 0 most_key S.sound.ordered S.sound.balanced link.placed K e (omega arith) (S.room.key z) (S.room.clear z) S.room.spare;
            even = even_insert K e (first s.spares) s.tree S.sound.balanced;
            holds = A.holds;
          };
          two = omega (arith, size_insert K e (first s.spares) s.tree, size_some s.tree);
          same = refl;
          is = rw (y, z);
        }

    pub going_none : kept s.floor f e ≡ false → Going m
    unfolding split drop
    going_none z = record { was = s; after = after_none H; linked = link; two = S.room.another y z; same = refl; is = rw (y, z) }

    pub going : (b : Bool) → kept s.floor f e ≡ b → (n : ℕ) → Next n → (m1 : List ℕ) → Puts b n e m m1 → Going m1
    going true z n i m1 h = going_more z n i m1 h
    going false z n i m1 h = rw h (going_none z)

  pub several : (m1 : List ℕ) → Going m1 → Several m1
  several m1 G = (G.was, G.linked, G.two)

  pub split_gone : (m1 : List ℕ) → Going m1 → (m2 : List ℕ) → Drops k m1 m2 → After m m2 (split s k e r f)
  split_gone m1 G m2 h = rw (← G.is) (after_then G.same G.after (h G.was G.linked))
