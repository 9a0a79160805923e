-- The survey, a step at a time: what each of its answers says of the trees that it could have taken.
use mathlib.Core.Path.{◌≡◌, refl, sym, ap, subst, ◌∙◌}
use mathlib.Core.Bool.{Bool, true, false}
use mathlib.Core.List.{List}
use Prim.Native.Nat.{ℕ, ◌+◌, ◌*◌, ◌-◌, ◌/◌, ◌<◌, ◌≤◌}
use native.Mathlib.Decide.{dec_lt}
use native.Mathlib.Omega.{arith}
use Rattle.shape.specs.Tree.{Tree, leaf, node, size, uses}
use Rattle.shape.specs.TreeLaws.{size_some}
use Rattle.shape.specs.PlaceLaws.{same_is, uses_place}
use Rattle.node.specs.declared.Node.{Node}
use Rattle.node.specs.Layout.{Within, node_at, over_node}
use Rattle.node.specs.Rep.{node_of, Rep, Stands}
use Rattle.node.proofs.Reps.{height_of, within, left_stands, right_stands, one_tree}
use Rattle.node.proofs.Seats.{reads}
use Rattle.std.specs.Bool.{then_some}
use Rattle.std.specs.Prelude.{Option, None, Some, is_some, IfSome}
use Rattle.settled.specs.Says.{Says}
use Rattle.inspect.specs.Inspect.{Joined, Leaf}
use Rattle.inspect.proofs.Inspecting.{leaf_single, over_joined}
use Rattle.survey.specs.Survey.{Seated, next, run, Good, Taken, Surveyed}
use Rattle.settled.proofs.Saying.{says_yes, says_no}

-- ---- a survey of a seat
module _ (m : List ℕ) (n c f : ℕ) (x : List ℕ) (seat limit a b : ℕ) where
  -- no tree is taken
  pub nothing : (y : List ℕ) (w : ℕ) → w ≤ b → ((t : Tree) → Taken m n c f x seat limit a b t → ⊥) → Surveyed m n c f x y seat limit a b w None
  nothing y w h g = record { yes = tt; no = g; work = h }

  pub spent : b ≡ 0 → (t : Tree) → Taken m n c f x seat limit a b t → ⊥
  spent z t w = omega (arith, w.few, size_some t)

  -- the node there is k
  module _ (k : Node) (ek : k ≡ node_at m seat) where
    seen : (t : Tree) → Taken m n c f x seat limit a b t → k ≡ node_of t
    seen t w = reads m seat k ek w.stands

    pub high : limit ≤ k.height → (t : Tree) → Taken m n c f x seat limit a b t → ⊥
    high h t w = omega (arith, ap height_of (seen t w), w.low)

    -- a leaf
    pub not_leaf : (y : List ℕ) (q : Bool) → k.height ≡ 0 → Leaf c f a x y k q → q ≡ false → (t : Tree) → Taken m n c f x seat limit a b t → ⊥
    unfolding Good
    not_leaf y q z l e (leaf j g) w =
        let h = seen (leaf j g) w in
        says_no _ q l.says e (leaf_single k j g h, rw h w.good)
    not_leaf y q z l e (node i u v) w = omega (arith, ap height_of (seen (node i u v) w))

    pub leaf_yes : (y : List ℕ) (q : Bool) → (b ≡ 0 → ⊥) → Within m seat → k.height < limit → Leaf c f a x y k q → q ≡ true
        → Surveyed m n c f x y seat limit a b (b - 1) (Some (k.lo + 1))
    unfolding Good Rep next run
    leaf_yes y q h u v l e =
        let s = says_yes _ q l.says e in
        record {
          yes = (
            leaf k.lo k.top,
            record {
              stands = record { rep = (u, sym ek ∙ s.0) };
              inside = λ z g. absurd (omega arith);
              low = omega (arith, ap height_of s.0);
              few = omega arith;
              good = s.1;
            },
            record { next = refl; run = l.run e; left = omega arith },
          );
          no = tt;
          work = omega arith;
        }

    -- the whole answer at a node of height 0
    pub leaf_says : (y : List ℕ) (q : Bool) (s : Option ℕ) → (b ≡ 0 → ⊥) → Within m seat → k.height ≡ 0 → k.height < limit → Leaf c f a x y k q → is_some s ≡ q → IfSome s (λ d. d ≡ k.lo + 1)
        → Surveyed m n c f x y seat limit a b (b - 1) s
    leaf_says y q None h u z v l e d = nothing y (b - 1) (omega arith) (not_leaf y q z l (sym e))
    leaf_says y q (Some d) h u z v l e g = rw g (leaf_yes y q h u v l (sym e))

    -- a node, whose place is one of the n
    pub seated : (k.height ≡ 0 → ⊥) → (t : Tree) → Taken m n c f x seat limit a b t → Seated n k.place
    seated nz (leaf i e) w = absurd (nz (ap height_of (seen (leaf i e) w)))
    seated nz (node q l r) w =
        let e = ap (λ (v : Node). v.place) (seen (node q l r) w) in
        record { some = omega (arith, (within (left_stands w.stands)).1); whole = omega arith; less = omega (arith, w.inside q (uses_place q l r)) }

    -- and whose left child stands at the seat i
    module _ (i : ℕ) (ei : i ≡ k.place) (nz : k.height ≡ 0 → ⊥) (some : b ≡ 0 → ⊥) where
      child_l : (q : ℕ) (l r : Tree) → Taken m n c f x seat limit a b (node q l r) → Taken m n c f x i k.height a (b - 1) l
      unfolding Good
      child_l q l r w =
          let e = seen (node q l r) w in
          record {
            stands = rw (ei, ap (λ (v : Node). v.place) e) (left_stands w.stands);
            inside = λ z h. w.inside z (omega arith);
            low = omega (arith, ap height_of e);
            few = omega (arith, w.few, size_some r);
            good = w.good.0;
          }

      pub left_no : (u : List ℕ) (g : ℕ) → Surveyed m n c f x u i k.height a (b - 1) g None → Surveyed m n c f x u seat limit a b g None
      left_no u g s = nothing u g (omega (arith, s.work)) go
        where
          go : (t : Tree) → Taken m n c f x seat limit a b t → ⊥
          go (leaf o e) w = nz (ap height_of (seen (leaf o e) w))
          go (node q l r) w = s.no l (child_l q l r w)

      -- where the survey has seen it, up to the key s; the right child stands at the seat j
      module _ (y : List ℕ) (g s : ℕ) (left : Surveyed m n c f x y i k.height a (b - 1) g (Some s)) (j : ℕ) (ej : j ≡ k.place + 4) where
        child_r : (q : ℕ) (l r : Tree) → Taken m n c f x seat limit a b (node q l r) → Taken m n c f y j k.height s g r
        unfolding Good
        child_r q l r w =
            let e = seen (node q l r) w in
            let d = left.yes in
            let h = one_tree d.1.stands (child_l q l r w).stands in
            record {
              stands = rw (ej, ap (λ (v : Node). v.place) e) (right_stands w.stands);
              inside = λ z h. w.inside z (omega arith);
              low = omega (arith, ap height_of e);
              few = omega (arith, w.few, d.2.left, ap size h);
              good = rw (d.2.next, d.2.run, h) w.good.1;
            }

        pub right_no : (z : List ℕ) (h : ℕ) → Surveyed m n c f y z j k.height s g h None → Surveyed m n c f x z seat limit a b h None
        right_no z h u = nothing z h (omega (arith, left.work, u.work)) go
          where
            go : (t : Tree) → Taken m n c f x seat limit a b t → ⊥
            go (leaf o e) w = nz (ap height_of (seen (leaf o e) w))
            go (node q l r) w = u.no r (child_r q l r w)

        -- and the survey has seen that one too, up to the key u
        module _ (z : List ℕ) (h u : ℕ) (right : Surveyed m n c f y z j k.height s g h (Some u)) (v w : Node) (ev : v ≡ node_at m i) (ew : w ≡ node_at m j) where
          pub not_joined : (Joined k v w → ⊥) → Surveyed m n c f x z seat limit a b h None
          unfolding Good
          not_joined not = nothing z h (omega (arith, left.work, right.work)) go
            where
              go : (t : Tree) → Taken m n c f x seat limit a b t → ⊥
              go (leaf o e) d = nz (ap height_of (seen (leaf o e) d))
              go (node q l r) d =
                  let sv = reads m i v ev (child_l q l r d).stands in
                  let sw = reads m j w ew (child_r q l r d).stands in
                  not (rw (sv, sw) (over_joined k (node_of l) (node_of r) (8 * q) (seen (node q l r) d) d.good.2))

          left_at : v ≡ node_of left.yes.0
          left_at = reads m i v ev left.yes.1.stands

          right_at : w ≡ node_of right.yes.0
          right_at = reads m j w ew right.yes.1.stands

          -- what the test of the two asks, and what it gives
          pub lower : (v.height < k.height) × (w.height < k.height)
          lower = omega (arith, ap height_of left_at, ap height_of right_at, left.yes.1.low, right.yes.1.low)

          pub node_yes : Seated n k.place → Within m seat → k.height < limit → Joined k v w → Surveyed m n c f x z seat limit a b h (Some u)
          unfolding Good Rep next run
          node_yes inside wi low joined =
              let d = left.yes in
              let g = right.yes in
              let sv = left_at in
              let sw = right_at in
              let q = k.place / 8 in
              let at : k.place ≡ 8 * q = omega (arith, inside.whole) in
              let over : node_at m seat ≡ node_of (node q d.0 g.0) = sym ek ∙ (joined.over ∙ (ap (over_node v w) at ∙ (rw (sv, sw)))) in
              let fl : Stands m (8 * q) d.0 = subst (λ z. Stands m z d.0) (ei ∙ at) d.1.stands in
              let fr : Stands m (8 * q + 4) g.0 = subst (λ z. Stands m z g.0) (ej ∙ ap (λ z. z + 4) at) g.1.stands in
              record {
                yes = (
                  node q d.0 g.0,
                  record {
                    stands = record { rep = (wi, over, fl.rep, fr.rep) };
                    inside = λ p e. elim (dec_lt 0 (uses p d.0)) [
                      | yes o ↦ d.1.inside p o
                      | no o ↦ elim (dec_lt 0 (uses p g.0)) [ yes o' ↦ g.1.inside p o' | no o' ↦ omega (arith, inside.less, same_is p q (omega arith)) ]
                    ];
                    low = omega (arith, ap height_of (ek ∙ over));
                    few = omega (arith, d.2.left, g.1.few);
                    good = (d.1.good, rw (← d.2.next, ← d.2.run) g.1.good, record { left = omega (arith, ap height_of sv, ap height_of sw, joined.near.left); right = omega (arith, ap height_of sv, ap height_of sw, joined.near.right) });
                  },
                  record { next = g.2.next; run = g.2.run ∙ (rw d.2.run); left = omega (arith, d.2.left, g.2.left) },
                );
                no = tt;
                work = omega (arith, left.work, right.work);
              }

          pub node_says : Seated n k.place → Within m seat → k.height < limit → (q : Bool) → Says (Joined k v w) q → Surveyed m n c f x z seat limit a b h (then_some q u)
          node_says inside wi low true joined = node_yes inside wi low joined
          node_says inside wi low false not = not_joined not
