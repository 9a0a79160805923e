-- One void more, from program point to program point.
use mathlib.Core.Path.{◌≡◌, refl, ap, ◌∙◌}
use mathlib.Core.List.{List, ◌∷◌}
use Prim.Native.Nat.{ℕ, ◌+◌, ◌*◌, ◌≤◌}
use native.Mathlib.Omega.{arith}
use lib.ListN.{get_or, set}
use Rattle.numbers.specs.Words.{word, store}
use Rattle.shape.specs.Tree.{Tree, same, uses, size}
use Rattle.shape.specs.HeightLaws.{height_few}
use Rattle.shape.specs.Arrange.{insert}
use Rattle.shape.specs.ChangeLaws.{weight_insert}
use Rattle.shape.specs.SizeLaws.{size_insert}
use Rattle.node.specs.declared.Node.{Node}
use Rattle.node.specs.Layout.{root_seat, Within, node_at}
use Rattle.node.proofs.Frames.{kept_less}
use Rattle.tracing.specs.Ways.{Way}
use Rattle.tracing.proofs.Alike.{alike_self, way_alike}
use Rattle.rising.specs.Changes.{adding, Begun, Changed, Becomes}
use Rattle.tree.specs.OnWays.{Insertable}
use Rattle.state.specs.State.{State, first, rest, places, add}
use Rattle.state.specs.Sound.{among, below}
use Rattle.memory.specs.Header.{header}
use Rattle.memory.specs.Holds.{Spares, After}
use Rattle.memory.specs.Steps.{Link, Led}
use Rattle.memory.specs.Part.{Part}
use Rattle.memory.proofs.Parts.{first_and_rest, below_most, part_seats, part_drop, part_first, part_put, part_tree, opened, closed}
use Rattle.memory.proofs.Shortening.{few, room_is, kept_is}

-- ---- a place off the list
module _ (m0 m : List ℕ) (n : ℕ) (h : List ℕ) (t : Tree) (q : ℕ) (ps : List ℕ) (P : Part m0 m n h t (q ∷ ps)) (e : get_or h 7 0 ≡ q) where
  first_is : word m 7 ≡ q
  first_is = P.heads 7 (omega arith) ∙ e

  pub first_in : Within m (8 * word m 7)
  first_in = rw first_is (part_seats m0 m n h t q ps P).0

  pub taken : (m1 : List ℕ) (r : ℕ) → r ≡ word m 7 → m1 ≡ store m 7 (node_at m (8 * r)).place → (r ≡ q) × Part m0 m1 n (set h 7 (first ps)) t ps
  unfolding Spares
  taken m1 r er em =
      let rq = er ∙ first_is in
      let nx : (node_at m (8 * r)).place ≡ first ps = ap (λ (x : Node). x.place) (ap (λ (y : ℕ). node_at m (8 * y)) rq ∙ P.spare.0) in
      let Q = part_drop m0 m n h t q ps P in
      (rq, rw (em, nx) (part_put m0 m n h t ps Q 7 (first ps) (omega arith) (omega (arith, part_first m0 m n h t ps Q))))

-- there is room, by the words of the header
pub roomy_led : (ws : List ℕ) (d k : ℕ) (m : List ℕ) → Led ws d k m → word m 6 ≤ word m 0
roomy_led ws d k m r = omega (arith, r.2, room_is m r.0 r.1, kept_is m r.0 r.1)

-- ---- one void more
module _ (m : List ℕ) (s : State) (L : Link m s) (fit : word m 6 ≤ word m 0) where
  abbrev n : ℕ
  n = places s.settings.room

  abbrev Q : ℕ
  Q = first s.spares

  abbrev Z : List ℕ
  Z = rest s.spares

  split : s.spares ≡ Q ∷ Z
  split = first_and_rest s.spares (omega (arith, L.placed.many, room_is m s L, kept_is m s L))

  part_0 : Part m m n (header s) s.tree (Q ∷ Z)
  part_0 = rw split at (opened m s L)

  apart : (z : ℕ) → same z 0 + uses z s.tree + (same z Q + among z Z) ≡ below z n
  apart z = rw split at (L.placed.all z)

  pub spare_in : Within m (8 * word m 7)
  spare_in = first_in m m n (header s) s.tree Q Z part_0 refl

  module _ (m1 : List ℕ) (q : ℕ) (eq : q ≡ word m 7) (em : m1 ≡ store m 7 (node_at m (8 * q)).place) (k e : ℕ) where
    step_1 : (q ≡ Q) × Part m m1 n (set (header s) 7 (first Z)) s.tree Z
    step_1 = taken m m n (header s) s.tree Q Z part_0 refl m1 q eq em

    begun : Begun (adding k e q) m1 root_seat s.tree
    begun =
        rw step_1.0
        (record {
          stands = step_1.1.stands;
          once = λ z. omega (arith, apart z, below_most z n);
          even = L.even;
          low = height_few s.tree L.even (omega (arith, few m s L));
        })

    pub insertable : Insertable m1 root_seat k e q
    insertable =
        let i = part_seats m m n (header s) s.tree Q Z part_0 in
        let l = step_1.1.past.len in
        record { ready = (s.tree, begun); left = rw step_1.0 (omega (arith, i, l)); right = rw step_1.0 (omega (arith, i, l)) }

    -- a way that was noted before the place was taken
    pub still_leads : (ws : List ℕ) (d : ℕ) → Way m root_seat k d ws → Way m1 root_seat k d ws
    still_leads ws d W = way_alike m m1 root_seat k d ws W s.tree s.tree L.holds.stands step_1.1.stands (alike_self s.tree)

    module _ (m2 : List ℕ) (g : Becomes (adding k e q) root_seat m1 m2) where
      abbrev T : Tree
      T = insert k e Q s.tree

      grown : Changed (adding k e Q) root_seat s.tree m1 m2
      grown = rw step_1.0 at (g s.tree begun)

      step_2 : Part m m2 n (set (header s) 7 (first Z)) T Z
      step_2 =
          part_tree m m1 n _ s.tree Z step_1.1 (λ y. uses y s.tree + same y Q) m2 T (kept_less grown.kept (λ z i. omega (arith, i))) grown.stands
          (λ z. omega (arith, apart z)) (λ z. omega (arith, apart z, weight_insert (λ j v. 0) (same z) k e Q s.tree))

      module _ (kept : ℕ) (ek : kept ≡ word m2 6) where
        kept_now : kept ≡ size s.tree
        kept_now = ek ∙ step_2.heads 6 (omega arith)

        pub kept_low : kept ≤ 8192
        kept_low = omega (arith, kept_now, few m s L)

        pub added : (m3 : List ℕ) → m3 ≡ store m2 6 (kept + 1) → After m m3 (add s k e)
        unfolding add
        added m3 e3 =
            let P = part_put m m2 n _ T Z step_2 6 (kept + 1) (omega arith) (omega (arith, kept_low)) in
            let sz : kept + 1 ≡ size T = omega (arith, kept_now, size_insert k e Q s.tree) in
            closed m m3 (add s k e) L.holds.lines (rw (e3, ← sz) P)
