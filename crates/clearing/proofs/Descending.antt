-- What each step of clearing asks, and what it comes to, for whatever tree stands there: the laws of Cleaning.antt by the node that the code reads.
use mathlib.Core.Path.{◌≡◌, sym, ap, subst, ◌∙◌}
use mathlib.Core.Bool.{true, false}
use mathlib.Core.List.{List, ◌++◌}
use Prim.Native.Nat.{ℕ, ◌+◌, ◌*◌, ◌/◌, ◌≤◌, ◌<◌}
use native.Mathlib.Omega.{arith}
use lib.ListN.{length}
use Rattle.numbers.specs.Words.{word}
use Rattle.shape.specs.Tree.{Tree, leaf, node, height, low}
use Rattle.shape.specs.Clear.{freed}
use Rattle.node.specs.declared.Node.{Node}
use Rattle.node.specs.Layout.{half_word, Within, node_at, Copied}
use Rattle.node.specs.Rep.{node_of}
use Rattle.node.proofs.Reps.{seen, within, tall}
use Rattle.node.proofs.Seats.{small_place}
use Rattle.turning.specs.Turns.{Both}
use Rattle.joining.specs.Joins.{Joins}
use Rattle.memory.specs.Holds.{Gives}
use Rattle.clearing.specs.Clears.{Left, Site, Cleaned, Clearable, Cleans}
use Rattle.clearing.proofs.Cleaning.{untouched, leaf_gone, site_left, site_right, seat_in, few_2, node_pre, left_side_gone, right_side_gone, both_left, joined}

module _ (b : ℕ) (m : List ℕ) (s k : ℕ) where
  pub here : Clearable m s k → Within m s
  here c = within c.4.stands

  module _ (n0 : Node) (en : n0 ≡ node_at m s) where
    reads : {n : ℕ} {h : List ℕ} {t : Tree} {ps : List ℕ} → Site n h m s t ps → n0 ≡ node_of t
    reads S = en ∙ seen S.stands

    low_is : {n : ℕ} {h : List ℕ} {t : Tree} {ps : List ℕ} → Site n h m s t ps → n0.low ≡ low t
    low_is S = ap (λ (x : Node). x.low) (reads S)

    high_is : {n : ℕ} {h : List ℕ} {t : Tree} {ps : List ℕ} → Site n h m s t ps → n0.height ≡ height t
    high_is S = ap (λ (x : Node). x.height) (reads S)

    place_is : {n : ℕ} {h : List ℕ} {x : ℕ} {l r : Tree} {ps : List ℕ} → Site n h m s (node x l r) ps → 8 * x ≡ n0.place
    place_is S = sym (ap (λ (x : Node). x.place) (reads S))

    label_is : {n : ℕ} {h : List ℕ} {x : ℕ} {l r : Tree} {ps : List ℕ} → Site n h m s (node x l r) ps → n0.place / 8 ≡ x
    label_is S = omega (arith, place_is S)

    -- ---- a tree that stays
    pub stayed : b ≤ n0.low → Cleans b s k (record { gone = false; spare = k }) m m
    stayed l n h t ps S e = untouched b n h m s ps t S (omega (arith, l, low_is S)) k e

    -- ---- a leaf that goes
    pub leaf_went : n0.low < b → n0.height ≡ 0 → Cleans b s k (record { gone = true; spare = k }) m m
    leaf_went l z n h (leaf j e) ps S ek = leaf_gone b n h m s ps j e S (omega (arith, l, low_is S)) k ek
    leaf_went l z n h (node x c d) ps S ek = absurd (omega (arith, z, high_is S))

    pub place_low : Clearable m s k → n0.place < half_word
    place_low c = omega (arith, small_place m s n0 en c.4.stands)

    -- ---- a node, its children at u and v
    module _ (inner : n0.height ≡ 0 → ⊥) (u v : ℕ) (eu : u ≡ n0.place) (ev : v ≡ n0.place + 4) where
      u_is : {n : ℕ} {h : List ℕ} {x : ℕ} {l r : Tree} {ps : List ℕ} → Site n h m s (node x l r) ps → 8 * x ≡ u
      u_is S = place_is S ∙ sym eu

      v_is : {n : ℕ} {h : List ℕ} {x : ℕ} {l r : Tree} {ps : List ℕ} → Site n h m s (node x l r) ps → 8 * x + 4 ≡ v
      v_is S = ap (λ (y : ℕ). y + 4) (place_is S) ∙ sym ev

      pub down_left : Clearable m s k → Clearable m u k × ((node_at m u).height < (node_at m s).height)
      down_left (n, h, leaf j e, ps, S, ek) = absurd (inner (high_is S))
      down_left (n, h, node x l r, ps, S, ek) =
          let T = site_left b n h m s ps x l r S in
          subst (λ q. Clearable m q k × ((node_at m q).height < (node_at m s).height)) (u_is S) ((n, h, l, ps, T, ek), omega (arith, tall T.stands, tall S.stands))

      module _ (X : Left) (m1 : List ℕ) (cl : Cleans b u k X m m1) where
        at_left : (n : ℕ) (h : List ℕ) (x : ℕ) (l r : Tree) (ps : List ℕ) → Site n h m s (node x l r) ps → k ≡ length ps → Cleaned b n h m (8 * x) l ps X m1
        at_left n h x l r ps S ek =
            let T = site_left b n h m s ps x l r S in
            rw (← u_is S) at (cl n h l ps (rw (u_is S) at T) ek)

        pub down_right : Clearable m s k → Clearable m1 v X.spare × ((node_at m1 v).height < (node_at m s).height)
        down_right (n, h, leaf j e, ps, S, ek) = absurd (inner (high_is S))
        down_right (n, h, node x l r, ps, S, ek) =
            let L = at_left n h x l r ps S ek in
            let T = site_right b n h m s ps x l r S X m1 L in
            subst (λ q. Clearable m1 q X.spare × ((node_at m1 q).height < (node_at m s).height)) (v_is S) ((n, h, r, _, T, L.many), omega (arith, tall T.stands, tall S.stands))

        module _ (Y : Left) (m2 : List ℕ) (cr : Cleans b v X.spare Y m1 m2) where
          at_right : (n : ℕ) (h : List ℕ) (x : ℕ) (l r : Tree) (ps : List ℕ) (S : Site n h m s (node x l r) ps) (ek : k ≡ length ps) → Cleaned b n h m1 (8 * x + 4) r (freed b l ++ ps) Y m2
          at_right n h x l r ps S ek =
              let L = at_left n h x l r ps S ek in
              let T = site_right b n h m s ps x l r S X m1 L in
              rw (← v_is S) at (cr n h r _ (rw (v_is S) at T) L.many)

          pub many_low : Clearable m s k → Y.spare < 65536
          many_low (n, h, leaf j e, ps, S, ek) = absurd (inner (high_is S))
          many_low (n, h, node x l r, ps, S, ek) =
              let R = at_right n h x l r ps S ek in
              omega (arith, R.many, few_2 b n h m s ps x l r S X m1 (at_left n h x l r ps S ek) Y m2 R)

          -- the seats are inside still
          pub seats_in : Clearable m s k → Within m2 s × Within m2 u × Within m2 v
          seats_in (n, h, leaf j e, ps, S, ek) = absurd (inner (high_is S))
          seats_in (n, h, node x l r, ps, S, ek) =
              let L = at_left n h x l r ps S ek in
              let R = at_right n h x l r ps S ek in
              let e = R.ground.past.len ∙ L.ground.past.len in
              let f = within (site_left b n h m s ps x l r S).stands in
              let g = within (site_right b n h m s ps x l r S X m1 L).stands in (
                seat_in b n h m s ps x l r S X m1 L Y m2 R,
                rw (← u_is S) (omega (arith, e, f)),
                rw (← v_is S) (omega (arith, R.ground.past.len, g)),
              )

          module _ (late : n0.low < b) where
            late_is : {n : ℕ} {h : List ℕ} {t : Tree} {ps : List ℕ} → Site n h m s t ps → low t < b
            late_is S = omega (arith, late, low_is S)

            pub give_ask : (f : ℕ) (m3 : List ℕ) → Copied f s m2 m3 → Clearable m s k → Within m3 (8 * (n0.place / 8)) × Within m3 (8 * (n0.place / 8) + 4) × (word m3 7 < 65536)
            give_ask f m3 o (n, h, leaf j e, ps, S, ek) = absurd (inner (high_is S))
            give_ask f m3 o (n, h, node x l r, ps, S, ek) =
                let L = at_left n h x l r ps S ek in
                let R = at_right n h x l r ps S ek in
                rw (label_is S) (node_pre b n h m s ps x l r S X m1 L Y m2 R (late_is S) f m3 o)

            pub left_went : X.gone ≡ true → (m3 : List ℕ) → Copied v s m2 m3 → (m4 : List ℕ) → Gives (n0.place / 8) Y.spare m3 m4
                → Cleans b s k (record { gone = Y.gone; spare = Y.spare + 1 }) m m4
            left_went g m3 o m4 gv n h (leaf j e) ps S ek = absurd (inner (high_is S))
            left_went g m3 o m4 gv n h (node x l r) ps S ek =
                let L = at_left n h x l r ps S ek in
                let R = at_right n h x l r ps S ek in
                left_side_gone b n h m s ps x l r S X m1 L Y m2 R (late_is S) g m3 (rw (← v_is S) at o) Y.spare R.many m4 (rw (label_is S) at gv)

            pub right_went : X.gone ≡ false → Y.gone ≡ true → (m3 : List ℕ) → Copied u s m2 m3 → (m4 : List ℕ) → Gives (n0.place / 8) Y.spare m3 m4
                → Cleans b s k (record { gone = false; spare = Y.spare + 1 }) m m4
            right_went f g m3 o m4 gv n h (leaf j e) ps S ek = absurd (inner (high_is S))
            right_went f g m3 o m4 gv n h (node x l r) ps S ek =
                let L = at_left n h x l r ps S ek in
                let R = at_right n h x l r ps S ek in
                right_side_gone b n h m s ps x l r S X m1 L Y m2 R (late_is S) f g m3 (rw (← u_is S) at o) Y.spare R.many m4 (rw (label_is S) at gv)

            module _ (f : X.gone ≡ false) (g : Y.gone ≡ false) where
              pub join_ask : Clearable m s k → Both m2 s n0.place
              join_ask (n, h, leaf j e, ps, S, ek) = absurd (inner (high_is S))
              join_ask (n, h, node x l r, ps, S, ek) =
                  let L = at_left n h x l r ps S ek in
                  let R = at_right n h x l r ps S ek in
                  (x, sym (place_is S), _, _, both_left b n h m s ps x l r S X m1 L Y m2 R (late_is S) f g)

              pub joined_up : (m3 : List ℕ) → Joins s n0.place m2 m3 → Cleans b s k (record { gone = false; spare = Y.spare }) m m3
              joined_up m3 J n h (leaf j e) ps S ek = absurd (inner (high_is S))
              joined_up m3 J n h (node x l r) ps S ek =
                  let L = at_left n h x l r ps S ek in
                  let R = at_right n h x l r ps S ek in
                  joined b n h m s ps x l r S X m1 L Y m2 R (late_is S) f g Y.spare m3 R.many (J x (sym (place_is S)) _ _ (both_left b n h m s ps x l r S X m1 L Y m2 R (late_is S) f g))
