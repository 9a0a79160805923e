-- The laws of a link in the middle of a step: what a word of the header, a change of the tree and a spare place more or less
-- leave of it; how a step begins and how it ends.
use mathlib.Core.Path.{◌≡◌, refl, sym, subst, ap, ◌∙◌}
use mathlib.Core.Logic.{inl, inr}
use mathlib.Core.Bool.{true, false}
use mathlib.Core.List.{List, [], ◌∷◌}
use Prim.Native.Nat.{ℕ, zero, suc, ◌+◌, ◌*◌, ◌/◌, ◌%◌, ◌^◌, ◌≤◌, ◌<◌}
use native.Mathlib.Decide.{ℕ_discrete, dec_lt}
use native.Mathlib.Omega.{arith}
use lib.ListN.{length, get_or, set, length-set}
use lib.Seq.{get_or-set_same, get_or-set_other}
use Rattle.numbers.specs.Case.{case_lt}
use Rattle.numbers.specs.Words.{word, store}
use Rattle.numbers.proofs.WordLaws.{word_other, word_same, byte_other, length_store}
use Rattle.shape.specs.Tree.{Tree, same, uses}
use Rattle.shape.specs.PlaceLaws.{same_self, same_other, same_none}
use Rattle.node.specs.declared.Node.{Node}
use Rattle.node.specs.Layout.{header_words, root_seat, bytes_for, Within, base, node_at, seat_of, leaf_node, Kept, Saved}
use Rattle.node.specs.Rep.{Stands}
use Rattle.node.proofs.Seats.{near_half}
use Rattle.turning.proofs.Sides.{seat_free}
use Rattle.node.proofs.Frames.{word_kept, node_kept, kept_then}
use Rattle.node.proofs.Reps.{within, stands_nodes, stands_frame, stands_apart}
use Rattle.state.specs.State.{State, first, rest, places}
use Rattle.state.specs.Sound.{among, below}
use Rattle.memory.specs.Header.{padded, header, Heads}
use Rattle.memory.specs.Holds.{spare_node, Spares, Gives, Past, After}
use Rattle.memory.specs.Steps.{Link}
use Rattle.memory.specs.Part.{Part}

-- ---- where a place is spare, there is a first one
pub first_and_rest : (ps : List ℕ) → 1 ≤ length ps → ps ≡ first ps ∷ rest ps
first_and_rest [] h = absurd (omega arith)
first_and_rest (p ∷ ps) h = refl

-- ---- places below n
pub below_is : (z n : ℕ) → z < n → below z n ≡ 1
unfolding below
below_is z n h = elim (case_lt z n) [ inl y ↦ rw y.1 | inr y ↦ absurd (omega arith) ]

pub below_out : (z n : ℕ) → n ≤ z → below z n ≡ 0
unfolding below
below_out z n h = elim (case_lt z n) [ inl y ↦ absurd (omega arith) | inr y ↦ rw y.1 ]

pub below_most : (z n : ℕ) → below z n ≤ 1
below_most z n = elim (case_lt z n) [ inl y ↦ omega (arith, below_is z n y.0) | inr y ↦ omega (arith, below_out z n y.0) ]

pub below_in : (z n : ℕ) → 1 ≤ below z n → z < n
below_in z n h = elim (case_lt z n) [ inl y ↦ y.0 | inr y ↦ absurd (omega (arith, below_out z n y.0)) ]

-- ---- a word of the header is in no node
pub node_store : (m : List ℕ) (i v z : ℕ) → i < 28 → 4 ≤ z → node_at (store m i v) z ≡ node_at m z
unfolding node_at
node_store m i v z h o =
    let e : (j : ℕ) → base z ≤ j → word (store m i v) j ≡ word m j = λ j l. word_other m i v j (omega arith) in
    rw (e (base z) (omega arith), e (base z + 1) (omega arith), e (base z + 2) (omega arith), e (base z + 3) (omega arith))

pub stands_store : (t : Tree) (m : List ℕ) (s i v : ℕ) → i < 28 → Stands m s t → Stands (store m i v) s t
stands_store t m s i v h r = stands_nodes (length_store m i v) (node_store m i v s h (within r).1) (λ z b u. node_store m i v z h (some z u)) r
  where
    -- the place 0 is no node's
    some : (z : ℕ) → 1 ≤ uses (z / 8) t → 4 ≤ z
    some z u = elim (dec_lt z 8) [
      | yes l ↦ let e : z / 8 ≡ 0 = omega arith in absurd (omega (arith, rw e at u, stands_apart t m s r))
      | no l ↦ omega arith
    ]

-- the header with one word put
pub heads_put : (m h : List ℕ) (i v : ℕ) → 224 ≤ length m → length h ≡ header_words → i < 28 → v < 2 ^ 64 → Heads m h → Heads (store m i v) (set h i v)
heads_put m h i v long wide li lv f j l = elim (ℕ_discrete j i) [
  | yes e ↦ rw e (word_same m i v (omega arith) lv ∙ sym (get_or-set_same h i v 0 (omega arith)))
  | no d ↦ word_other m i v j d ∙ f j l ∙ sym (get_or-set_other h i j v 0 d)
]

-- spare places that stay
pub spares_frame : (ps m m' : List ℕ) → ((z : ℕ) → z % 4 ≡ 0 → 1 ≤ among (z / 8) ps → node_at m' z ≡ node_at m z) → Spares m ps → Spares m' ps
unfolding Spares
spares_frame [] m m' f s = tt
spares_frame (p ∷ ps) m m' f s =
    let l : (8 * p) / 8 ≡ p = omega arith in
    let r : (8 * p + 4) / 8 ≡ p = omega arith in (
      f (8 * p) (omega arith) (rw l (omega (arith, same_self p))) ∙ s.0,
      f (8 * p + 4) (omega arith) (rw r (omega (arith, same_self p))) ∙ s.1,
      spares_frame ps m m' (λ z b h. f z b (omega arith)) s.2,
    )

-- a spare place's left node, read at the seat that the code worked out
pub spare_read : (m : List ℕ) (p : ℕ) {u : ℕ} {n : Node} → u ≡ 8 * p → n ≡ node_at m u → n.place ≡ (node_at m (8 * p)).place
spare_read m p e r = ap (λ (y : Node). y.place) (rw e at r)

-- a place given, seat by seat: first the word of the header, then its two nodes
pub gives : (m m1 m2 m3 : List ℕ) (p k : ℕ) {next u v : ℕ} {n : Node} → m1 ≡ store m 7 p → next ≡ word m 7 → u ≡ 8 * p → v ≡ 8 * p + 4
    → Saved u (spare_node k next) m1 m2 → n ≡ leaf_node 0 0 → Saved v n m2 m3 → Gives p k m m3
gives m m1 m2 m3 p k em en eu ev f el g =
    let F : Saved (8 * p) (spare_node k (word m 7)) (store m 7 p) m2 = rw (em, en, eu) at f in
    let G : Saved (8 * p + 4) (leaf_node 0 0) m2 m3 = rw (el, ev) at g in
    record {
      left = node_kept _ m2 m3 G.kept (8 * p) (omega arith) (same_other (8 * p) (8 * p + 4) (λ e. omega arith)) ∙ F.at;
      right = G.at;
      kept = kept_then F.kept G.kept (λ z h. (seat_free z (8 * p) p (near_half true p) h, seat_free z (8 * p + 4) p (near_half false p) h));
    }

-- ---- past the n places
pub past_none : (n : ℕ) (m : List ℕ) → Past n m m
past_none n m = record { len = refl; byte = λ b h. refl }

pub past_then : {n : ℕ} {m m' m'' : List ℕ} → Past n m m' → Past n m' m'' → Past n m m''
past_then f g = record { len = g.len ∙ f.len; byte = λ b h. g.byte b h ∙ f.byte b h }

pub past_store : (m : List ℕ) (i v n : ℕ) → i < 28 → 1 ≤ n → Past (bytes_for n) m (store m i v)
past_store m i v n h o = record { len = length_store m i v; byte = λ b l. byte_other m i v b (inr (omega arith)) }

pub past_kept : (k : ℕ → ℕ) (m m' : List ℕ) (n : ℕ) → Kept k m m' → ((z : ℕ) → 8 * n ≤ z → k z ≡ 0) → Past (bytes_for n) m m'
past_kept k m m' n f h = record { len = f.len; byte = λ b l. f.byte b (inr (h (seat_of b) (omega arith))) }

-- a seat at a place where nothing was written, and not the root's
off_seat : (u : ℕ → ℕ) (z : ℕ) → same (z / 8) 0 + u (z / 8) ≡ 0 → same z 4 + u (z / 8) ≡ 0
off_seat u z h = omega (arith, h, same_other z 4 (λ e. same_none (z / 8) 0 (omega (arith, h)) (omega arith)))

module _ (m0 m : List ℕ) (n : ℕ) (h : List ℕ) (t : Tree) where
  -- a spare place is one of the link's, and not the root's; its seats are inside
  pub part_in : (p : ℕ) (ps : List ℕ) → Part m0 m n h t (p ∷ ps) → (1 ≤ p) × (p < n)
  part_in zero ps P = absurd (omega (arith, P.once 0, same_self 0, below_most 0 n))
  part_in (suc p) ps P = (omega arith, below_in (suc p) n (omega (arith, P.once (suc p), same_self (suc p))))

  pub part_seats : (p : ℕ) (ps : List ℕ) → Part m0 m n h t (p ∷ ps) → Within m (8 * p) × Within m (8 * p + 4)
  part_seats p ps P = let i = part_in p ps P in (omega (arith, P.small, P.long), omega (arith, P.small, P.long))

  pub part_drop : (p : ℕ) (ps : List ℕ) → Part m0 m n h t (p ∷ ps) → Part m0 m n h t ps
  unfolding Spares
  part_drop p ps P =
      record { small = P.small; long = P.long; wide = P.wide; heads = P.heads; stands = P.stands; spare = P.spare.2; once = λ z. omega (arith, P.once z); past = P.past }

  pub part_first : (ps : List ℕ) → Part m0 m n h t ps → first ps < 8192
  part_first [] P = omega arith
  part_first (p ∷ ps) P = omega (arith, part_in p ps P, P.small)

  module _ (ps : List ℕ) (P : Part m0 m n h t ps) where
    -- the root's place is the link's
    pub part_some : 1 ≤ n
    part_some = below_in 0 n (omega (arith, P.once 0, same_self 0))

    -- a word of the header
    pub part_put : (i v : ℕ) → i < 28 → v < 2 ^ 64 → Part m0 (store m i v) n (set h i v) t ps
    part_put i v li lv =
        record {
          small = P.small;
          long = omega (arith, P.long, length_store m i v);
          wide = length-set h i v ∙ P.wide;
          heads = heads_put m h i v (omega (arith, P.long, part_some)) P.wide li lv P.heads;
          stands = stands_store t m root_seat i v li P.stands;
          spare = spares_frame ps m (store m i v) (λ z b u. node_store m i v z li (some z u)) P.spare;
          once = P.once;
          past = past_then P.past (past_store m i v n li part_some);
        }
      where
        some : (z : ℕ) → 1 ≤ among (z / 8) ps → 4 ≤ z
        some z u = elim (dec_lt z 8) [
          | yes l ↦ let e : z / 8 ≡ 0 = omega arith in absurd (omega (arith, rw e at u, P.once 0, same_self 0, below_most 0 n))
          | no l ↦ omega arith
        ]

    -- another tree, for which only the root's seat and places of the link that are not spare were written
    pub part_tree : (u : ℕ → ℕ) (m' : List ℕ) (t' : Tree) → Kept (λ z. same z root_seat + u (z / 8)) m m' → Stands m' root_seat t'
        → ((z : ℕ) → same z 0 + u z + among z ps ≤ below z n) → ((z : ℕ) → same z 0 + uses z t' + among z ps ≤ below z n) → Part m0 m' n h t' ps
    part_tree u m' t' f r g o =
        record {
          small = P.small;
          long = omega (arith, P.long, f.len);
          wide = P.wide;
          heads = λ j l. word_kept _ m m' f j l ∙ P.heads j l;
          stands = r;
          spare = spares_frame ps m m' (λ z b a. node_kept _ m m' f z b (off_seat u z (omega (arith, g (z / 8), below_most (z / 8) n)))) P.spare;
          once = o;
          past = past_then P.past (past_kept _ m m' n f (λ z l. off_seat u z (omega (arith, g (z / 8), below_out (z / 8) n (omega arith)))));
        }

    -- one spare place more
    module _ (p : ℕ) (lo : 1 ≤ p) (hi : p < n) where
      pub give_in : Within m (8 * p) × Within m (8 * p + 4)
      give_in = (omega (arith, P.small, P.long), omega (arith, P.small, P.long))

      pub part_give : (m' : List ℕ) (k : ℕ) → k ≡ length ps → get_or h 7 0 ≡ first ps → uses p t + among p ps ≡ 0 → Gives p k m m' → Part m0 m' n (set h 7 p) t (p ∷ ps)
      unfolding Spares
      part_give m' k ek e7 free g =
          let M = store m 7 p in
          let Q = part_put 7 p (omega arith) (omega (arith, P.small)) in
          let w : word m 7 ≡ first ps = P.heads 7 (omega arith) ∙ e7 in
          let off : (z : ℕ) → 1 ≤ uses z t + among z ps → same z p ≡ 0 = λ z u. same_other z p (λ e. omega (arith, ap (λ (y : ℕ). uses y t + among y ps) e)) in
          let root : same (4 / 8) p ≡ 0 = same_other 0 p (omega arith) in
          record {
            small = P.small;
            long = omega (arith, Q.long, g.kept.len);
            wide = Q.wide;
            heads = λ j l. word_kept _ M m' g.kept j l ∙ Q.heads j l;
            stands = stands_frame g.kept root (λ z u. off (z / 8) (omega arith)) Q.stands;
            spare = (rw (ek, w) at g.left, g.right, spares_frame ps M m' (λ z b u. node_kept _ M m' g.kept z b (off (z / 8) (omega arith))) Q.spare);
            once = λ z. elim (ℕ_discrete z p) [
              | yes e ↦ let At : ℕ → Type 0 = λ y. same y 0 + uses y t + (same y p + among y ps) ≤ below y n in subst At (sym e) (omega (arith, free, same_self p, below_is p n hi, same_other p 0 (omega arith)))
              | no d ↦ omega (arith, P.once z, same_other z p d)
            ];
            past = past_then Q.past (past_kept _ M m' n g.kept (λ z l. same_other (z / 8) p (omega arith)));
          }

-- ---- the delays, padded
-- the delays are the first of the words that they are padded to
pub padded_at : (n : ℕ) (xs : List ℕ) (i : ℕ) → i < n → get_or (padded n xs) i 0 ≡ get_or xs i 0
padded_at zero xs i h = absurd (omega arith)
padded_at (suc n) [] zero h = refl
padded_at (suc n) [] (suc i) h = padded_at n [] i (omega arith)
padded_at (suc n) (x ∷ xs) zero h = refl
padded_at (suc n) (x ∷ xs) (suc i) h = padded_at n xs i (omega arith)

pub length_padded : (n : ℕ) (xs : List ℕ) → length (padded n xs) ≡ n
length_padded zero xs = refl
length_padded (suc n) [] = ap suc (length_padded n [])
length_padded (suc n) (x ∷ xs) = ap suc (length_padded n xs)

-- ---- how a step begins, and how it ends
pub opened : (m : List ℕ) (s : State) → Link m s → Part m m (places s.settings.room) (header s) s.tree s.spares
opened m s L =
    record {
      small = L.holds.small;
      long = L.holds.long;
      wide = omega (arith, length_padded 20 s.settings.delays);
      heads = L.holds.heads;
      stands = L.holds.stands;
      spare = L.holds.spare;
      once = λ z. omega (arith, L.placed.all z);
      past = past_none _ m;
    }

pub closed : (m0 m : List ℕ) (s : State) → length s.settings.delays ≤ 16 → Part m0 m (places s.settings.room) (header s) s.tree s.spares → After m0 m s
closed m0 m s lines P =
    record {
      holds = record { small = P.small; lines = lines; long = P.long; heads = P.heads; stands = P.stands; spare = P.spare };
      past = P.past;
    }
