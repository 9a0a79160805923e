-- One void less, from program point to program point.
use mathlib.Core.Path.{◌≡◌, refl, ap}
use mathlib.Core.List.{List, ◌∷◌}
use Prim.Native.Nat.{ℕ, zero, suc, ◌+◌, ◌*◌, ◌-◌, ◌≤◌, ◌<◌}
use native.Mathlib.Omega.{arith}
use lib.ListN.{length, set}
use Rattle.numbers.specs.Words.{word, store}
use Rattle.shape.specs.Tree.{Tree, same, uses, size}
use Rattle.shape.specs.PlaceLaws.{same_self}
use Rattle.shape.specs.Arrange.{remove}
use Rattle.shape.specs.ChangeLaws.{weight_remove}
use Rattle.shape.specs.SizeLaws.{size_remove, tall_node}
use Rattle.node.specs.Layout.{root_seat, Within, node_at}
use Rattle.node.proofs.Frames.{kept_less}
use Rattle.node.proofs.Reps.{tall}
use Rattle.tracing.specs.Alone.{Alone}
use Rattle.tree.specs.OnWays.{Removes}
use Rattle.state.specs.State.{State, places, drop}
use Rattle.state.specs.Sound.{among, below}
use Rattle.memory.specs.Header.{header}
use Rattle.memory.specs.Holds.{Gives, After}
use Rattle.memory.specs.Steps.{Link, Removal}
use Rattle.memory.specs.Part.{Part}
use Rattle.memory.proofs.Parts.{below_in, below_most, part_first, part_put, part_tree, give_in, part_give, opened, closed}
use Rattle.memory.proofs.Shortening.{sole, alone}

-- ---- what a removal asks of a link
module _ (m : List ℕ) (s : State) (L : Link m s) where
  pub remove_pre : 2 ≤ size s.tree → (1 ≤ (node_at m root_seat).height) × Alone m root_seat
  remove_pre some = (omega (arith, tall (sole m s L).stands, tall_node s.tree some), alone m s L)

  pub removal : (k q : ℕ) (m1 : List ℕ) → 2 ≤ size s.tree → Removes root_seat k q m m1 → Removal q m s k m1
  removal k q m1 some f =
      let r = f s.tree (sole m s L) in
      record { link = L; two = some; free = r.0; cut = r.1 }

-- ---- one void less
module _ (m : List ℕ) (s : State) (k q : ℕ) (m1 : List ℕ) (R : Removal q m s k m1) where
  abbrev n : ℕ
  n = places s.settings.room

  abbrev L : Link m s
  L = R.link

  abbrev T : Tree
  T = remove k s.tree

  apart : (z : ℕ) → same z 0 + uses z T + (same z q + among z s.spares) ≡ below z n
  apart z = rw R.free (omega (arith, L.placed.all z, weight_remove 0 (same z) k s.tree (tall_node s.tree R.two)))

  part_1 : Part m m1 n (header s) T s.spares
  part_1 =
      part_tree m m n (header s) s.tree s.spares (opened m s L) (λ y. uses y s.tree) m1 T (kept_less R.cut.kept (λ z i. omega (arith, i))) R.cut.stands
      (λ z. omega (arith, L.placed.all z)) (λ z. omega (arith, apart z))

  words : (word m1 6 ≡ size s.tree) × (word m1 0 ≡ s.settings.room)
  words = (part_1.heads 6 (omega arith), part_1.heads 0 (omega arith))

  place_in : (1 ≤ q) × (q < n)
  place_in = go q (apart q)
    where
      go : (p : ℕ) → same p 0 + uses p T + (same p q + among p s.spares) ≡ below p n → (1 ≤ q) × (q < n)
      go p h = (some, below_in q n (omega (arith, apart q, same_self q)))
        where
          some : 1 ≤ q
          some = at q refl
            where
              at : (y : ℕ) → y ≡ q → 1 ≤ q
              at zero e = absurd (omega (arith, apart 0, same_self 0, below_most 0 n, ap (same 0) e))
              at (suc y) e = omega arith

  module _ (kept room : ℕ) (ek : kept ≡ word m1 6) (er : room ≡ word m1 0) where
    pub counts : (kept ≤ room + 1) × (room ≤ 8192) × (2 ≤ kept)
    counts = omega (arith, L.placed.many, L.holds.small, words, R.two)

    abbrev K : ℕ
    K = room + 1 - kept

    spare_is : K ≡ length s.spares
    spare_is = omega (arith, L.placed.many, words)

    pub give : (Within m1 (8 * q)) × (Within m1 (8 * q + 4)) × (word m1 7 < 65536)
    give =
        let i = give_in m m1 n (header s) T s.spares part_1 q place_in.0 place_in.1 in
        (i.0, i.1, omega (arith, part_1.heads 7 (omega arith), part_first m m1 n (header s) T s.spares part_1))

    module _ (m2 : List ℕ) (g : Gives q K m1 m2) where
      part_2 : Part m m2 n (set (header s) 7 q) T (q ∷ s.spares)
      part_2 =
          part_give m m1 n (header s) T s.spares part_1 q place_in.0 place_in.1 m2 K spare_is refl
          (omega (arith, apart q, below_most q n, same_self q)) g

      pub dropped : (m3 : List ℕ) → m3 ≡ store m2 6 (kept - 1) → After m m3 (drop s k)
      unfolding drop
      dropped m3 e3 =
          let P = part_put m m2 n _ T (q ∷ s.spares) part_2 6 (kept - 1) (omega arith) (omega (arith, counts)) in
          let sz : kept - 1 ≡ size T = omega (arith, size_remove k s.tree R.two, words) in
          closed m m3 (drop s k) L.holds.lines (rw (e3, ← sz, ← R.free) P)
