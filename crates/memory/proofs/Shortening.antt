-- The steps that leave every place where it is: another end, another floor. And what any step finds in a link.
use mathlib.Core.Path.{◌≡◌}
use mathlib.Core.List.{List}
use Prim.Native.Nat.{ℕ, ◌^◌, ◌≤◌, ◌<◌}
use native.Mathlib.Omega.{arith}
use Rattle.numbers.specs.Words.{word, store}
use Rattle.shape.specs.Tree.{same, size, uses}
use Rattle.shape.specs.HeightLaws.{height_few}
use Rattle.shape.specs.ChangeLaws.{weight_set}
use Rattle.tracing.specs.Alone.{Sole, Alone}
use Rattle.tracing.specs.Ways.{Partway}
use Rattle.rising.specs.Changes.{ending, Becomes}
use Rattle.node.specs.Layout.{root_seat}
use Rattle.node.proofs.Frames.{kept_less}
use Rattle.tracing.proofs.Paths.{path_partway}
use Rattle.state.specs.Sound.{most_key}
use Rattle.state.specs.State.{State, places, shorten, with_floor}
use Rattle.memory.specs.Holds.{After}
use Rattle.memory.specs.Steps.{Link, Noting}
use Rattle.memory.proofs.Parts.{below_most, part_put, part_tree, opened, closed}
use Rattle.shape.specs.SizeLaws.{size_set}

module _ (m : List ℕ) (s : State) (L : Link m s) where
  -- no link has more voids than this
  pub few : size s.tree ≤ 8192
  few = omega (arith, L.placed.many, L.holds.small)

  -- the words of the room and of the voids kept
  pub room_is : word m 0 ≡ s.settings.room
  room_is = L.holds.heads 0 (omega arith)

  pub kept_is : word m 6 ≡ size s.tree
  kept_is = L.holds.heads 6 (omega arith)

  pub sole : Sole m root_seat s.tree
  sole =
      record {
        stands = L.holds.stands;
        once = λ z. omega (arith, L.placed.all z, below_most z (places s.settings.room));
        even = L.even;
        low = height_few s.tree L.even (omega (arith, few));
      }

  pub alone : Alone m root_seat
  alone = (s.tree, sole)

  pub shortened : (m' : List ℕ) (k e : ℕ) → Becomes (ending k e) root_seat m m' → After m m' (shorten s k e)
  unfolding shorten
  shortened m' k e f =
      let u = f s.tree sole in
      let n = places s.settings.room in
      let P = part_tree m m n _ s.tree s.spares (opened m s L) (λ y. uses y s.tree) m' _ (kept_less u.kept (λ z i. omega (arith, i))) u.stands
      (λ z. omega (arith, L.placed.all z)) (λ z. omega (arith, L.placed.all z, weight_set 0 (same z) k e s.tree)) in
      closed m m' (shorten s k e) L.holds.lines (rw (size_set k e s.tree) P)

  -- the way noted is the beginning of the key's
  pub partway : (ws : List ℕ) (d k : ℕ) → Noting m s ws d k → Partway m root_seat k d ws
  partway ws d k N =
      let P = N.pointed in
      let r = P.reaches in
      path_partway m root_seat d ws r.down r.sub k N.end r.stands r.inside P.long s.tree 0 most_key sole N.ordered

  pub refloored : (m' : List ℕ) (moment : ℕ) → moment < 2 ^ 64 → m' ≡ store m 4 moment → After m m' (with_floor s moment)
  refloored m' moment l e =
      closed m m' (with_floor s moment) L.holds.lines (rw e (part_put m m _ _ s.tree s.spares (opened m s L) 4 moment (omega arith) l))
