-- One step up the way, for every change: at a node w, from which the key leads to the seat x, the tree at x has changed, and the node itself
-- and its other child are as they were. So the change is carried up by a balance, or by summing up where no height has changed.
use mathlib.Core.Path.{◌≡◌, refl, sym, ap, ◌∙◌}
use mathlib.Core.Logic.{◌≢◌}
use mathlib.Core.Bool.{Bool, true, false}
use mathlib.Core.List.{List}
use Prim.Native.Nat.{ℕ, ◌+◌, ◌*◌, ◌/◌, ◌≤◌, max}
use native.Mathlib.Omega.{arith}
use lib.Dec.{ltb}
use Rattle.shape.specs.Tree.{Tree, leaf, node, height, lo, same, uses}
use Rattle.shape.specs.Side.{near, far}
use Rattle.shape.specs.SideLaws.{height_sides}
use Rattle.shape.specs.PlaceLaws.{same_self, same_other, same_none}
use Rattle.shape.specs.EvenLaws.{kids}
use Rattle.node.specs.declared.Node.{Node}
use Rattle.node.specs.Layout.{node_at, summed_node, over_node, Kept, Over, Summed, home}
use Rattle.node.specs.Rep.{Stands}
use Rattle.node.proofs.Frames.{kept_none, kept_then, node_kept, within_kept}
use Rattle.node.proofs.Reps.{seen, tall, within, stands_frame, left_stands, right_stands}
use Rattle.node.proofs.Seats.{far_of, near_seat, far_seat, near_half, far_half, near_is, far_is, near_far, Children, children}
use Rattle.turning.specs.Turns.{Two, Both, Balances}
use Rattle.turning.proofs.Sides.{uses_sides, seat_free, two_on, two_over}
use Rattle.tracing.specs.Ways.{Leads}
use Rattle.rising.specs.Changes.{Change, key_of, after, fresh, Begun, Ready, Changed, Becomes}
use Rattle.rising.specs.Rises.{gone, Turned}
use Rattle.rising.proofs.Afters.{after_uses, after_height, after_side, after_flat}

module _ (c : Change) (m0 : List ℕ) (w x : ℕ) (L : Leads m0 (key_of c) w x) where
  abbrev pub n : Node
  n = node_at m0 w

  -- the side that the key leads to, and the other child's seat
  abbrev pub s : Bool
  s = ltb (key_of c) (node_at m0 (n.place + 4)).lo

  abbrev pub y : ℕ
  y = far_of s n.place

  module _ (v : ℕ) (l r : Tree) (B : Begun c m0 w (node v l r)) where
    pub kid : Children m0 w n refl s x y v l r
    kid = children m0 w n refl s x y v l r L.to refl B.stands

    pub x_is : x ≡ near_seat s v
    x_is = L.to ∙ near_is s v kid.at

    pub y_is : y ≡ far_seat s v
    y_is = far_is s v kid.at

    pub x_half : x / 8 ≡ v
    x_half = ap (λ (z : ℕ). z / 8) x_is ∙ near_half s v

    y_half : y / 8 ≡ v
    y_half = ap (λ (z : ℕ). z / 8) y_is ∙ far_half s v

    -- by the number that the code has of it
    pub place_at : home x ≡ 8 * v
    place_at = omega (arith, x_half)

    pub leads : s ≡ ltb (key_of c) (lo r)
    leads = ap (ltb (key_of c)) kid.split

    pub begun_near : Begun c m0 x (near s l r)
    begun_near =
        record {
          stands = kid.near_at;
          once = λ z. rw x_half (omega (arith, B.once z, uses_sides z s l r));
          even = (kids s v l r B.even).first;
          low = omega (arith, B.low, height_sides s l r);
        }

    -- the tree at x has changed
    module _ (m : List ℕ) (g : Becomes c x m0 m) (i : 1 ≤ gone c → 1 ≤ height (near s l r)) where
      abbrev A : Tree
      A = after c (near s l r)

      abbrev F : Tree
      F = far s l r

      G : Changed c x (near s l r) m0 m
      G = g (near s l r) begun_near

      -- a seat at a place of F, and at none of the near tree, was not written
      off_place : (z p : ℕ) → z / 8 ≡ p → uses p (near s l r) + fresh c p ≡ 0 → z ≢ x → same z x + uses (z / 8) (near s l r) + fresh c (z / 8) ≡ 0
      off_place z p e h d = rw e (omega (arith, h, same_other z x d))

      at_v : uses v (near s l r) + uses v F + fresh c v + same v (w / 8) ≡ 0
      at_v = omega (arith, B.once v, same_self v, uses_sides v s l r)

      pub node_same : node_at m w ≡ node_at m0 w
      node_same =
          let o = B.once (w / 8) in
          node_kept _ m0 m G.kept w (within B.stands).3
          (off_place w (w / 8) refl (omega (arith, o, same_self (w / 8), uses_sides (w / 8) s l r)) (λ e. same_none v (w / 8) (omega (arith, at_v)) (sym x_half ∙ ap (λ (z : ℕ). z / 8) (sym e))))

      pub far_same : node_at m y ≡ node_at m0 y
      far_same = node_kept _ m0 m G.kept y (within kid.far_at).3 (off_place y v y_half (omega (arith, at_v)) (λ e. near_far s v (sym x_is ∙ (sym e ∙ y_is))))

      far_at : Stands m y F
      far_at =
          stands_frame G.kept (off_place y v y_half (omega (arith, at_v)) (λ e. near_far s v (sym x_is ∙ (sym e ∙ y_is))))
          (λ z u. off_place z (z / 8) refl (omega (arith, B.once (z / 8), uses_sides (z / 8) s l r)) (λ e. absurd (omega (arith, at_v, ap (λ (q : ℕ). uses (q / 8) F) e, ap (λ (q : ℕ). uses q F) x_half))))
          kid.far_at

      pub two : Two m w v (near s A F) (far s A F)
      two =
          two_on s (rw x_is at G.stands) (rw y_is at far_at) (within_kept _ m0 m G.kept w (within B.stands))
          (λ z. omega (arith, B.once z, uses_sides z s l r, after_uses c z (near s l r) i))
          (omega (arith, B.low, after_height c (near s l r), height_sides s l r))

      pub both_at : Both m w (home x)
      both_at = (v, place_at, near s A F, far s A F, two)

      changed : (m2 : List ℕ) (k : ℕ → ℕ) → Stands m2 w (after c (node v l r)) → Kept k m m2 → ((z : ℕ) → same z w + (same (z / 8) v + uses (z / 8) A + uses (z / 8) F) ≡ 0 → k z ≡ 0) → Changed c w (node v l r) m0 m2
      changed m2 k st kept h =
          record {
            stands = st;
            kept = kept_then G.kept kept (λ z e. (
              omega (arith, e, uses_sides (z / 8) s l r, seat_free z x v x_half (omega (arith, e))),
              h z (omega (arith, e, uses_sides (z / 8) s l r, after_uses c (z / 8) (near s l r) i)),
            ));
          }

      -- by a balance
      pub carried : Turned c → (m2 : List ℕ) → Balances w (home x) m m2 → Changed c w (node v l r) m0 m2
      carried t m2 bal =
          let b = bal v place_at _ _ two in
          changed m2 _ (rw (after_side c v l r s leads t i) b.stands) b.kept (λ z e. omega (arith, e, uses_sides (z / 8) s A F))

      -- by summing up, where the tree at x is as high as it was
      module _ (h : (node_at m x).height ≡ (node_at m0 x).height) where
        level : height A ≡ height (near s l r)
        level = sym (tall G.stands) ∙ (h ∙ tall kid.near_at)

        high : (node_at m w).height ≡ max (node_at m (8 * v)).height (node_at m (8 * v + 4)).height + 1
        high = omega (arith, ap (λ (z : Node). z.height) node_same, tall B.stands, tall two.first, tall two.second, level, height_sides s A F, height_sides s l r)

        over_summed : (m2 : List ℕ) → Summed w (8 * v) m m2 → Over w (8 * v) m m2
        over_summed m2 o = record { at = o.at ∙ again; kept = o.kept }
          where
            place_is : (node_at m w).place ≡ 8 * v
            place_is = ap (λ (z : Node). z.place) node_same ∙ kid.at

            again : summed_node (node_at m w) (node_at m (8 * v)) (node_at m (8 * v + 4)) ≡ over_node (node_at m (8 * v)) (node_at m (8 * v + 4)) (8 * v)
            again = rw (← high, place_is) refl

        pub summed_up : (m2 : List ℕ) → Summed w (8 * v) m m2 → Changed c w (node v l r) m0 m2
        summed_up m2 o =
            changed m2 _ (rw (after_flat c v l r s leads B.even level i) (two_over two m2 (over_summed m2 o))) o.kept (λ z e. omega (arith, e))

      -- the node at x is as it was: then nothing changes here either
      pub still_summed : node_at m x ≡ node_at m0 x → Summed w (8 * v) m m
      still_summed e = record { at = node_same ∙ (sums ∙ again); kept = kept_none _ m }
        where
          sums : node_at m0 w ≡ summed_node (node_at m0 w) (node_at m0 (8 * v)) (node_at m0 (8 * v + 4))
          sums = rw (seen B.stands, seen (left_stands B.stands), seen (right_stands B.stands)) refl

          both : (b : Bool) → node_at m (near_seat b v) ≡ node_at m0 (near_seat b v) → node_at m (far_seat b v) ≡ node_at m0 (far_seat b v)
              → (node_at m (8 * v) ≡ node_at m0 (8 * v)) × (node_at m (8 * v + 4) ≡ node_at m0 (8 * v + 4))
          both true p q = (p, q)
          both false p q = (q, p)

          again : summed_node (node_at m0 w) (node_at m0 (8 * v)) (node_at m0 (8 * v + 4)) ≡ summed_node (node_at m w) (node_at m (8 * v)) (node_at m (8 * v + 4))
          again = let b = both s (rw x_is at e) (rw y_is at far_same) in rw (node_same, b.0, b.1) refl

-- ---- of whatever tree stands at w: it is no leaf
module _ (c : Change) (m0 : List ℕ) (w x : ℕ) (L : Leads m0 (key_of c) w x) where
  pub ready_down : Ready c m0 w → Ready c m0 x
  ready_down b = go b.0 b.1
    where
      go : (tr : Tree) → Begun c m0 w tr → Ready c m0 x
      go (leaf j f) B = absurd (L.inner (tall B.stands))
      go (node v l r) B = (_, begun_near c m0 w x L v l r B)

  module _ (m : List ℕ) (g : Becomes c x m0 m) (inner : 1 ≤ gone c → (node_at m0 x).height ≡ 0 → ⊥) where
    kid_high : (v : ℕ) (l r : Tree) (B : Begun c m0 w (node v l r)) → 1 ≤ gone c → 1 ≤ height (near (s c m0 w x L) l r)
    kid_high v l r B h = omega (arith, inner h, tall (begun_near c m0 w x L v l r B).stands)

    -- what the step asks, and that the node at w is as it was
    pub record Step : Type 0 where
      pub both : Both m w (home x)
      pub node : node_at m w ≡ node_at m0 w

    pub step_at : Ready c m0 w → Step
    step_at b = go b.0 b.1
      where
        go : (tr : Tree) → Begun c m0 w tr → Step
        go (leaf j f) B = absurd (L.inner (tall B.stands))
        go (node v l r) B =
            record { both = both_at c m0 w x L v l r B m g (kid_high v l r B); node = node_same c m0 w x L v l r B m g (kid_high v l r B) }

    pub carries : Turned c → (m2 : List ℕ) → Balances w (home x) m m2 → Becomes c w m0 m2
    carries t m2 o (leaf j f) B = absurd (L.inner (tall B.stands))
    carries t m2 o (node v l r) B = carried c m0 w x L v l r B m g (kid_high v l r B) t m2 o

    pub sums_up : (node_at m x).height ≡ (node_at m0 x).height → (m2 : List ℕ) → Summed w (home x) m m2 → Becomes c w m0 m2
    sums_up h m2 o (leaf j f) B = absurd (L.inner (tall B.stands))
    sums_up h m2 o (node v l r) B = summed_up c m0 w x L v l r B m g (kid_high v l r B) h m2 (rw (place_at c m0 w x L v l r B) at o)

    pub stays : node_at m x ≡ node_at m0 x → Ready c m0 w → Summed w (home x) m m
    stays e b = go b.0 b.1
      where
        go : (tr : Tree) → Begun c m0 w tr → Summed w (home x) m m
        go (leaf j f) B = absurd (L.inner (tall B.stands))
        go (node v l r) B = rw (place_at c m0 w x L v l r B) (still_summed c m0 w x L v l r B m g (kid_high v l r B) e)
