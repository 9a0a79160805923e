-- Clearing, from program point to program point: a tree that stays, a leaf that goes, and a node over what is left of its two sides.
use mathlib.Core.Path.{◌≡◌, refl, sym, ap, ◌∙◌, subst}
use mathlib.Core.Bool.{true, false, false≢true}
use mathlib.Core.List.{List, [], ◌∷◌, ◌++◌, append_assoc}
use Prim.Native.Nat.{ℕ, ◌+◌, ◌*◌, ◌/◌, ◌%◌, ◌≤◌, ◌<◌}
use native.Mathlib.Omega.{arith}
use lib.ListN.{length, length-append}
use Rattle.numbers.specs.Words.{word}
use Rattle.shape.specs.Tree.{Tree, leaf, node, height, low, same, uses}
use Rattle.shape.specs.PlaceLaws.{same_self, same_other}
use Rattle.shape.specs.TreeLaws.{size_some}
use Rattle.shape.specs.Clear.{join, Rest, gone, rest, meet, clear, unused, freed}
use Rattle.shape.specs.JoinLaws.{clear_none, freed_none, clear_sides, freed_sides, clear_leaf, freed_leaf}
use Rattle.node.specs.Layout.{Within, node_at, Copied}
use Rattle.node.specs.Rep.{Stands}
use Rattle.node.proofs.Seats.{near_half}
use Rattle.node.proofs.Reps.{within, left_stands, right_stands, stands_nodes, copied_stands}
use Rattle.node.proofs.Frames.{node_kept}
use Rattle.turning.specs.Turns.{Two, Arranged}
use Rattle.turning.proofs.Sides.{seat_free}
use Rattle.state.specs.Sound.{among, below}
use Rattle.state.specs.ClearLaws.{weight_of, EvenOf, count_of, Cleared, among_append, clear_ok}
use Rattle.memory.specs.Holds.{Gives}
use Rattle.memory.proofs.Parts.{below_in, below_most, below_out, past_then}
use Rattle.clearing.specs.Clears.{Left, Ground, Site, LeftAt, Cleaned}
use Rattle.clearing.proofs.Grounds.{ground_here, ground_kept, give_pre, nodes_given, ground_given}

-- how often a place is used in what is left
abbrev pub uses_of : ℕ → Rest → ℕ
uses_of z q = weight_of (λ k e. 0) (same z) q

-- what is left stays where no node of it is written
left_stays : (m m' : List ℕ) (s : ℕ) (x : Left) (q : Rest) → length m' ≡ length m → node_at m' s ≡ node_at m s
    → ((z : ℕ) → z % 4 ≡ 0 → 1 ≤ uses_of (z / 8) q → node_at m' z ≡ node_at m z) → LeftAt m s x q → LeftAt m' s x q
left_stays m m' s x gone e n f l = l
left_stays m m' s x (rest u) e n f l = (l.0, stands_nodes e n f l.1)

-- and is the same at a seat to which it was copied
left_copied : (m m' : List ℕ) (f s : ℕ) (x : Left) (q : Rest) → Within m s → uses_of (s / 8) q ≡ 0 → Copied f s m m' → LeftAt m f x q → LeftAt m' s x q
left_copied m m' f s x gone w o c l = l
left_copied m m' f s x (rest u) w o c l = (l.0, copied_stands c w o l.1)

-- whether something is left is what the code says
pub is_gone : (m : List ℕ) (s : ℕ) (x : Left) (q : Rest) → LeftAt m s x q → x.gone ≡ true → q ≡ gone
is_gone m s x gone l e = refl
is_gone m s x (rest u) l e = absurd (false≢true (sym l.0 ∙ e))

pub is_left : (m : List ℕ) (s : ℕ) (x : Left) (q : Rest) → LeftAt m s x q → x.gone ≡ false → (u : Tree) × (q ≡ rest u) × Stands m s u
is_left m s x gone l e = absurd (false≢true (sym e ∙ l))
is_left m s x (rest u) l e = (u, refl, l.1)

count_some : (q : Rest) → 1 ≤ count_of q
count_some gone = omega arith
count_some (rest u) = size_some u

module _ (b n : ℕ) (h m : List ℕ) (s : ℕ) (ps : List ℕ) where
  -- ---- a tree that stays
  pub untouched : (t : Tree) → Site n h m s t ps → b ≤ low t → (k : ℕ) → k ≡ length ps → Cleaned b n h m s t ps (record { gone = false; spare = k }) m
  untouched t S l k e = record {
    ground = rw (freed_none b t l) S.ground;
    left = rw (clear_none b t l) (refl, S.stands);
    many = rw (freed_none b t l) e;
    nodes = λ z v u. refl;
  }

  -- ---- a leaf that goes: its seat is given back with the place above it
  pub leaf_gone : (j e : ℕ) → Site n h m s (leaf j e) ps → e < b → (k : ℕ) → k ≡ length ps → Cleaned b n h m s (leaf j e) ps (record { gone = true; spare = k }) m
  leaf_gone j e S l k ek = record {
    ground = rw (freed_leaf b j e) S.ground;
    left = rw (clear_leaf b j e l) refl;
    many = rw (freed_leaf b j e) ek;
    nodes = λ z v u. refl;
  }

  -- ---- a node
  module _ (x : ℕ) (l r : Tree) (S : Site n h m s (node x l r) ps) where
    L-ok : Cleared b l (clear b l) (freed b l)
    L-ok = clear_ok b l S.even.0

    R-ok : Cleared b r (clear b r) (freed b r)
    R-ok = clear_ok b r S.even.1

    half : (8 * x) / 8 ≡ x
    half = near_half true x

    half_1 : (8 * x + 4) / 8 ≡ x
    half_1 = near_half false x

    pub site_left : Site n h m (8 * x) l ps
    site_left = record {
      ground = S.ground;
      stands = left_stands S.stands;
      even = S.even.0;
      low = omega (arith, S.low);
      once = λ z. rw half (omega (arith, S.once z));
      few = omega (arith, S.few);
    }

    module _ (X : Left) (m1 : List ℕ) (L : Cleaned b n h m (8 * x) l ps X m1) where
      abbrev ps1 : List ℕ
      ps1 = freed b l ++ ps

      -- a seat that is at another place than x, and at none of the left side
      off_left : (z : ℕ) → same (z / 8) x + uses (z / 8) l ≡ 0 → same z (8 * x) + uses (z / 8) l ≡ 0
      off_left z u = omega (arith, u, seat_free z (8 * x) x half (omega (arith, u)))

      pub site_right : Site n h m1 (8 * x + 4) r ps1
      site_right = record {
        ground = ground_here m m1 n h ps1 L.ground;
        stands = stands_nodes L.ground.past.len
            (L.nodes (8 * x + 4) (omega arith) (rw half_1 (omega (arith, S.once x, same_self x, below_most x n, same_other (8 * x + 4) (8 * x) (λ e. omega arith)))))
            (λ z v u. L.nodes z v (off_left z (omega (arith, S.once (z / 8), below_most (z / 8) n))))
            (right_stands S.stands);
        even = S.even.1;
        low = omega (arith, S.low);
        once = λ z. rw half_1 (omega (arith, S.once z, L-ok.places z, among_append z (freed b l) ps));
        few = omega (arith, S.few, L-ok.many, length-append (freed b l) ps);
      }

      module _ (Y : Left) (m2 : List ℕ) (R : Cleaned b n h m1 (8 * x + 4) r ps1 Y m2) where
        abbrev ps2 : List ℕ
        ps2 = freed b r ++ ps1

        ground_2 : Ground m m2 n h ps2
        ground_2 = record {
          some = R.ground.some;
          small = R.ground.small;
          long = R.ground.long;
          heads = R.ground.heads;
          next = R.ground.next;
          spare = R.ground.spare;
          past = past_then L.ground.past R.ground.past;
        }

        off_right : (z : ℕ) → same (z / 8) x + uses (z / 8) r ≡ 0 → same z (8 * x + 4) + uses (z / 8) r ≡ 0
        off_right z u = omega (arith, u, seat_free z (8 * x + 4) x half_1 (omega (arith, u)))

        nodes_2 : (z : ℕ) → z % 4 ≡ 0 → same z s + uses (z / 8) (node x l r) ≡ 0 → node_at m2 z ≡ node_at m z
        nodes_2 z v u = R.nodes z v (off_right z (omega (arith, u))) ∙ L.nodes z v (off_left z (omega (arith, u)))

        -- the places that are used now, and how often
        each_2 : (z : ℕ) → same z (s / 8) + same z x + uses_of z (clear b l) + uses_of z (clear b r) + among z ps2 ≤ below z n
        each_2 z = omega (arith, S.once z, L-ok.places z, R-ok.places z, among_append z (freed b r) ps1, among_append z (freed b l) ps)

        pub left_2 : LeftAt m2 (8 * x) X (clear b l)
        left_2 =
            left_stays m1 m2 (8 * x) X (clear b l) R.ground.past.len
            (R.nodes (8 * x) (omega arith) (rw half (omega (arith, S.once x, same_self x, below_most x n, same_other (8 * x) (8 * x + 4) (λ e. omega arith)))))
            (λ z v u. R.nodes z v (off_right z (omega (arith, S.once (z / 8), below_most (z / 8) n, L-ok.places (z / 8), u)))) L.left

        pub few_2 : length ps2 < 65536
        few_2 = omega (arith, S.few, L-ok.many, R-ok.many, length-append (freed b r) ps1, length-append (freed b l) ps, count_some (clear b l), count_some (clear b r))

        order : (us : List ℕ) → (us ++ (freed b r ++ freed b l)) ++ ps ≡ us ++ ps2
        order us = append_assoc us (freed b r ++ freed b l) ps ∙ ap (λ vs. us ++ vs) (append_assoc (freed b r) (freed b l) ps)

        pub seat_in : Within m2 s
        seat_in = let w = within S.stands in omega (arith, w, ground_2.past.len)

        module _ (late : low (node x l r) < b) where
          freed_is : freed b (node x l r) ++ ps ≡ unused x (clear b l) (clear b r) ++ ps2
          freed_is = ap (λ vs. vs ++ ps) (freed_sides b x l r late) ∙ order (unused x (clear b l) (clear b r))

          -- ---- a side is gone: what is left goes to s, and the node's place comes free
          x_some : 1 ≤ x
          x_some = let w = within (left_stands S.stands) in omega (arith, w.1)

          x_in : x < n
          x_in = below_in x n (omega (arith, each_2 x, same_self x))

          x_free : among x ps2 ≡ 0
          x_free = omega (arith, each_2 x, same_self x, below_most x n)

          x_each : (z : ℕ) → among z ps2 ≤ below z n
          x_each z = omega (arith, each_2 z)

          -- the seat s is the link's, and at no spare place
          s_in : s / 8 < n
          s_in = below_in (s / 8) n (omega (arith, each_2 (s / 8), same_self (s / 8)))

          module _ (f : ℕ) (m3 : List ℕ) (o : Copied f s m2 m3) where
            ground_3 : Ground m m3 n h ps2
            ground_3 =
                ground_kept m m2 n h ps2 ground_2 _ m3 o.kept
                (λ z u. same_other z s (λ e. omega (arith, u, each_2 (s / 8), same_self (s / 8), below_most (s / 8) n, ap (λ (y : ℕ). among (y / 8) ps2) e)))
                (λ z u. same_other z s (λ e. omega (arith, u, s_in)))

            pub node_pre : Within m3 (8 * x) × Within m3 (8 * x + 4) × (word m3 7 < 65536)
            node_pre = give_pre m m3 n h ps2 ground_3 x x_some x_in x_free x_each

            -- what is left is q, of Z, and stood at f
            node_gone : (q : Rest) → meet x (clear b l) (clear b r) ≡ q → unused x (clear b l) (clear b r) ≡ x ∷ []
                → ((z : ℕ) → uses_of z q ≤ uses_of z (clear b l) + uses_of z (clear b r))
                → (Z : Left) → LeftAt m2 f Z q → (k : ℕ) → k ≡ length ps2 → Z.spare ≡ k + 1
                → (m4 : List ℕ) → Gives x k m3 m4 → Cleaned b n h m s (node x l r) ps Z m4
            node_gone q eq eu less Z lz k ek es m4 g =
                let G = ground_given m m3 n h ps2 ground_3 x x_some x_in x_free x_each m4 k ek g in
                let N = nodes_given m m3 n h ps2 ground_3 x x_some x_in x_free x_each m4 k ek g in
                let e : freed b (node x l r) ++ ps ≡ x ∷ ps2 = freed_is ∙ ap (λ vs. vs ++ ps2) eu in
                let c : LeftAt m3 s Z q = left_copied m2 m3 f s Z q seat_in (omega (arith, each_2 (s / 8), same_self (s / 8), below_most (s / 8) n, less (s / 8))) o lz in
                let away : same (s / 8) x ≡ 0 = omega (arith, each_2 (s / 8), same_self (s / 8), below_most (s / 8) n) in
                record {
                  ground = rw e G;
                  left = rw (clear_sides b x l r late, eq)
                      (left_stays m3 m4 s Z q (omega (arith, G.past.len, ground_3.past.len)) (N s (within S.stands).3 away) (λ z v u. N z v (omega (arith, each_2 (z / 8), below_most (z / 8) n, less (z / 8), u))) c);
                  many = rw e (omega (arith, es, ek));
                  nodes = λ z v u. N z v (omega (arith, u)) ∙ (node_kept _ m2 m3 o.kept z v (omega (arith, u)) ∙ nodes_2 z v u);
                }

          pub left_side_gone : X.gone ≡ true → (m3 : List ℕ) → Copied (8 * x + 4) s m2 m3 → (k : ℕ) → k ≡ length ps2 → (m4 : List ℕ) → Gives x k m3 m4
              → Cleaned b n h m s (node x l r) ps (record { gone = Y.gone; spare = k + 1 }) m4
          left_side_gone g m3 o k ek m4 gv =
              let e = is_gone m2 (8 * x) X (clear b l) left_2 g in
              node_gone (8 * x + 4) m3 o (clear b r) (rw e) (rw e) (λ z. omega arith) (record { gone = Y.gone; spare = k + 1 }) (same_left (clear b r) R.left) k ek refl m4 gv
            where
              same_left : (q : Rest) → LeftAt m2 (8 * x + 4) Y q → LeftAt m2 (8 * x + 4) (record { gone = Y.gone; spare = k + 1 }) q
              same_left gone l = l
              same_left (rest u) l = l

          pub right_side_gone : X.gone ≡ false → Y.gone ≡ true → (m3 : List ℕ) → Copied (8 * x) s m2 m3 → (k : ℕ) → k ≡ length ps2 → (m4 : List ℕ) → Gives x k m3 m4
              → Cleaned b n h m s (node x l r) ps (record { gone = false; spare = k + 1 }) m4
          right_side_gone f g m3 o k ek m4 gv =
              let u = is_left m2 (8 * x) X (clear b l) left_2 f in
              let e = is_gone m2 (8 * x + 4) Y (clear b r) R.left g in
              node_gone (8 * x) m3 o (rest u.0) (ap (λ v. meet x v (clear b r)) u.1 ∙ ap (meet x (rest u.0)) e) (ap (λ v. unused x v (clear b r)) u.1 ∙ ap (unused x (rest u.0)) e)
              (λ z. omega (arith, ap (uses_of z) u.1)) (record { gone = false; spare = k + 1 }) (refl, u.2) k ek refl m4 gv

          -- ---- both are left, and joined by the node
          module _ (f : X.gone ≡ false) (g : Y.gone ≡ false) where
            abbrev A : (u : Tree) × (clear b l ≡ rest u) × Stands m2 (8 * x) u
            A = is_left m2 (8 * x) X (clear b l) left_2 f

            abbrev B : (u : Tree) × (clear b r ≡ rest u) × Stands m2 (8 * x + 4) u
            B = is_left m2 (8 * x + 4) Y (clear b r) R.left g

            each_3 : (z : ℕ) → same z (s / 8) + same z x + uses z A.0 + uses z B.0 + among z ps2 ≤ below z n
            each_3 z = omega (arith, each_2 z, ap (uses_of z) A.1, ap (uses_of z) B.1)

            low_a : height A.0 ≤ height l
            low_a = (subst (EvenOf (height l)) A.1 L-ok.even).1

            low_b : height B.0 ≤ height r
            low_b = (subst (EvenOf (height r)) B.1 R-ok.even).1

            pub both_left : Two m2 s x A.0 B.0
            both_left = record {
              first = A.2;
              second = B.2;
              room = seat_in;
              once = λ z. omega (arith, each_3 z, below_most z n);
              low = omega (arith, S.low, low_a, low_b);
            }

            pub joined : (k : ℕ) (m3 : List ℕ) → k ≡ length ps2 → Arranged s (node x A.0 B.0) (join x A.0 B.0) m2 m3
                → Cleaned b n h m s (node x l r) ps (record { gone = false; spare = k }) m3
            joined k m3 ek J =
                let e : freed b (node x l r) ++ ps ≡ ps2 = freed_is ∙ ap (λ v. unused x v (clear b r) ++ ps2) A.1 ∙ ap (λ v. unused x (rest A.0) v ++ ps2) B.1 in
                let c : clear b (node x l r) ≡ rest (join x A.0 B.0) = clear_sides b x l r late ∙ ap (λ v. meet x v (clear b r)) A.1 ∙ ap (meet x (rest A.0)) B.1 in
                record {
                  ground = rw e (ground_kept m m2 n h ps2 ground_2 _ m3 J.kept away (λ z u. past z u));
                  left = rw c (refl, J.stands);
                  many = rw e ek;
                  nodes = λ z v u. node_kept _ m2 m3 J.kept z v (omega (arith, u, L-ok.places (z / 8), R-ok.places (z / 8), ap (uses_of (z / 8)) A.1, ap (uses_of (z / 8)) B.1)) ∙ nodes_2 z v u;
                }
              where
                -- no spare place was written, and nothing past the link
                away : (z : ℕ) → 1 ≤ among (z / 8) ps2 → same z s + uses (z / 8) (node x A.0 B.0) ≡ 0
                away z u =
                    omega (
                      arith,
                      u,
                      each_3 (z / 8),
                      below_most (z / 8) n,
                      same_other z s (λ e. omega (arith, u, each_3 (s / 8), same_self (s / 8), below_most (s / 8) n, ap (λ (y : ℕ). among (y / 8) ps2) e)),
                    )

                past : (z : ℕ) → 8 * n ≤ z → same z s + uses (z / 8) (node x A.0 B.0) ≡ 0
                past z u = omega (arith, u, each_3 (z / 8), below_out (z / 8) n (omega (arith, u)), same_other z s (λ e. omega (arith, u, s_in)))
