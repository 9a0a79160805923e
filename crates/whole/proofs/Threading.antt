-- The list of spare places, a place at a time, and as a list: marks tell its places apart.
use mathlib.Core.Path.{◌≡◌, refl, sym, ap, ◌∙◌}
use mathlib.Core.Bool.{Bool, false}
use mathlib.Core.List.{List, [], ◌∷◌}
use Prim.Native.Nat.{ℕ, zero, suc, ◌+◌, ◌*◌, ◌-◌, ◌<◌, ◌≤◌}
use native.Mathlib.Decide.{dec_lt}
use native.Mathlib.Omega.{arith}
use lib.Dec.{eqb-suc-zero}
use lib.ListN.{length}
use Rattle.std.specs.Prelude.{nat_eq}
use Rattle.settled.proofs.Saying.{says_map}
use Rattle.numbers.specs.Words.{word}
use Rattle.shape.specs.Tree.{same}
use Rattle.shape.specs.PlaceLaws.{same_self, same_is, same_most}
use Rattle.node.specs.declared.Node.{Node}
use Rattle.node.specs.Layout.{node_at, leaf_node}
use Rattle.node.proofs.Reps.{height_of}
use Rattle.node.proofs.Nodes.{fields}
use Rattle.state.specs.State.{first}
use Rattle.state.specs.Sound.{among}
use Rattle.memory.specs.Holds.{spare_mark, spare_node, Spares}
use Rattle.settled.specs.Says.{Says}
use Rattle.whole.specs.Parts.{Threads, Spared}

-- ---- the two nodes of a place, word by word
pub spare_is : (v : Node) (k : ℕ) → v.height ≡ spare_mark → v.low ≡ k → v.lo ≡ 0 → v.top ≡ 0 → v ≡ spare_node k v.place
spare_is v k h l a b = fields v ∙ (rw (h, l, a, b))

pub blank_is : (v : Node) → v.height ≡ 0 → v.lo ≡ 0 → v.top ≡ 0 → v.low ≡ 0 → v.place ≡ 0 → v ≡ leaf_node 0 0
blank_is v h a b c d = fields v ∙ (rw (h, a, b, c, d))

-- ---- a place at a time
pub none_is : (m : List ℕ) (n k at : ℕ) → k ≤ 0 → Threads m n k at → at ≡ 0
unfolding Threads
none_is m n zero at h s = s
none_is m n (suc k) at h s = absurd (omega arith)

pub is_none : (m : List ℕ) (n k at : ℕ) → k ≤ 0 → at ≡ 0 → Threads m n k at
unfolding Threads
is_none m n zero at h e = e
is_none m n (suc k) at h e = absurd (omega arith)

record Head (m : List ℕ) (n k at : ℕ) : Type 0 where
  some : 1 ≤ at
  inside : at < n
  is : node_at m (8 * at) ≡ spare_node (k - 1) (node_at m (8 * at)).place
  beside : node_at m (8 * at + 4) ≡ leaf_node 0 0
  rest : Threads m n (k - 1) (node_at m (8 * at)).place

head : (m : List ℕ) (n k at : ℕ) → 0 < k → Threads m n k at → Head m n k at
unfolding Threads
head m n zero at h s = absurd (omega arith)
head m n (suc k) at h s =
    let e : suc k - 1 ≡ k = omega arith in
    record { some = s.0; inside = s.1; is = rw e s.2; beside = s.3; rest = rw e s.4 }

more : (m : List ℕ) (n k at : ℕ) → 0 < k → Head m n k at → Threads m n k at
unfolding Threads
more m n zero at h s = absurd (omega arith)
more m n (suc k) at h s =
    let e : suc k - 1 ≡ k = omega arith in
    (s.some, s.inside, rw e at s.is, s.beside, rw e at s.rest)

-- the loop's way: from (k, at) it has come to (k', at')
pub record Way (m : List ℕ) (n k at k' at' : ℕ) : Type 0 where
  pub less : k' ≤ k
  pub to : Threads m n k' at' → Threads m n k at
  pub from : Threads m n k at → Threads m n k' at'

module _ (m : List ℕ) (n k at k' at' : ℕ) (w : Way m n k at k' at') (some : 0 < k') where
  pub way_out : (1 ≤ at' → n ≤ at') → Threads m n k at → ⊥
  way_out h s =
      let g = head m n k' at' some (w.from s) in
      omega (arith, h g.some, g.inside)

  -- the two nodes there, v and u, at the seats i and j
  module _ (v : Node) (i : ℕ) (ei : i ≡ 8 * at') (ev : v ≡ node_at m i) where
    is_left : v ≡ node_at m (8 * at')
    is_left = ev ∙ ap (node_at m) ei

    pub way_not : (v ≡ spare_node (k' - 1) v.place → ⊥) → Threads m n k at → ⊥
    way_not f s = f (rw is_left (head m n k' at' some (w.from s)).is)

    module _ (u : Node) (j : ℕ) (ej : j ≡ 8 * at' + 4) (eu : u ≡ node_at m j) where
      is_right : u ≡ node_at m (8 * at' + 4)
      is_right = eu ∙ ap (node_at m) ej

      pub way_beside : (u ≡ leaf_node 0 0 → ⊥) → Threads m n k at → ⊥
      way_beside f s = f (is_right ∙ (head m n k' at' some (w.from s)).beside)

      pub way_more : (at' ≡ 0 → ⊥) → at' < n → v ≡ spare_node (k' - 1) v.place → u ≡ leaf_node 0 0 → Way m n k at (k' - 1) v.place
      way_more z l q b =
          let e = is_left in
          record {
            less = omega (arith, w.less);
            to = λ s. w.to (more m n k' at' some (record { some = omega (arith, z); inside = l; is = rw e at q; beside = sym is_right ∙ b; rest = rw e at s }));
            from = λ s. rw e (head m n k' at' some (w.from s)).rest;
          }

-- at its end: the list is whole exactly if nothing comes after it
none : (x : ℕ) → Says (x ≡ 0) (nat_eq x 0)
none zero = refl
none (suc x) = let e : nat_eq (suc x) 0 ≡ false = eqb-suc-zero x in rw e (λ f. omega arith)

pub way_end : (m : List ℕ) (n k at k' at' : ℕ) → Way m n k at k' at' → k' ≤ 0 → Says (Threads m n k at) (nat_eq at' 0)
way_end m n k at k' at' w h = says_map (at' ≡ 0) (Threads m n k at) (nat_eq at' 0) (λ e. w.to (is_none m n k' at' h e)) (λ s. none_is m n k' at' h (w.from s)) (none at')

-- what the words say
pub read_spares : (m : List ℕ) (r k at : ℕ) (b : Bool) → r ≡ word m 0 → k ≡ word m 6 → at ≡ word m 7
    → Says (Threads m (r + 1) (r + 1 - k) at) b → Says (Spared m) b
read_spares m r k at b e0 e6 e7 s = rw (← e0, ← e6, ← e7) s

-- ---- the places of the list
pub spares_at : (k : ℕ) → List ℕ → (at : ℕ) → List ℕ
spares_at zero m at = []
spares_at (suc k) m at = at ∷ spares_at k m (node_at m (8 * at)).place

pub length_spares : (k : ℕ) (m : List ℕ) (at : ℕ) → length (spares_at k m at) ≡ k
unfolding spares_at
length_spares zero m at = refl
length_spares (suc k) m at = ap suc (length_spares k m (node_at m (8 * at)).place)

pub first_spare : (k : ℕ) (m : List ℕ) (n at : ℕ) → Threads m n k at → first (spares_at k m at) ≡ at
unfolding spares_at Threads
first_spare zero m n at s = sym s
first_spare (suc k) m n at s = refl

pub threads_spares : (k : ℕ) (m : List ℕ) (n at : ℕ) → Threads m n k at → Spares m (spares_at k m at)
unfolding spares_at Threads Spares
threads_spares zero m n at s = tt
threads_spares (suc k) m n at s =
    let x = (node_at m (8 * at)).place in
    (rw (length_spares k m x, first_spare k m n x s.4) s.2, s.3, threads_spares k m n x s.4)

pub spares_threads : (ps : List ℕ) (m : List ℕ) (n : ℕ) → Spares m ps → ((z : ℕ) → 1 ≤ among z ps → (1 ≤ z) × (z < n)) → Threads m n (length ps) (first ps)
unfolding Threads Spares
spares_threads [] m n s h = refl
spares_threads (p ∷ ps) m n s h =
    let e : (node_at m (8 * p)).place ≡ first ps = ap (λ (v : Node). v.place) s.0 in
    let i = h p (omega (arith, same_self p)) in
    (i.0, i.1, s.0 ∙ ap (spare_node (length ps)) (sym e), s.1, rw e (spares_threads ps m n s.2 (λ z i. h z (omega arith))))

-- ---- no place is in it twice, and none is a tree's
pub record Marked (m : List ℕ) (n k z : ℕ) : Type 0 where
  pub some : 1 ≤ z
  pub less : z < n
  pub mark : (node_at m (8 * z)).height ≡ spare_mark
  pub turn : (node_at m (8 * z)).low < k

pub marked : (k : ℕ) (m : List ℕ) (n at z : ℕ) → Threads m n k at → 1 ≤ among z (spares_at k m at) → Marked m n k z
unfolding spares_at Threads
marked zero m n at z s h = absurd (omega arith)
marked (suc k) m n at z s h = elim (dec_lt 0 (among z (spares_at k m (node_at m (8 * at)).place))) [
  | yes y ↦ let i = marked k m n (node_at m (8 * at)).place z s.4 y in record { some = i.some; less = i.less; mark = i.mark; turn = omega (arith, i.turn) }
  | no y ↦
      let q = same_is z at (omega arith) in
      let e = ap (λ (x : ℕ). node_at m (8 * x)) q ∙ s.2 in
      record { some = omega (arith, s.0); less = omega (arith, s.1); mark = ap height_of e; turn = omega (arith, ap (λ (v : Node). v.low) e) }
]

pub spare_once : (k : ℕ) (m : List ℕ) (n at z : ℕ) → Threads m n k at → among z (spares_at k m at) ≤ 1
unfolding spares_at Threads
spare_once zero m n at z s = omega arith
spare_once (suc k) m n at z s =
    let r = spare_once k m n (node_at m (8 * at)).place z s.4 in
    elim (dec_lt 0 (same z at)) [
      | no y ↦ omega arith
      | yes y ↦ elim (dec_lt 0 (among z (spares_at k m (node_at m (8 * at)).place))) [
        | no x ↦ omega (arith, same_most z at)
        | yes x ↦
            let i = marked k m n (node_at m (8 * at)).place z s.4 x in
            let e = ap (λ (v : Node). v.low) (ap (λ (x : ℕ). node_at m (8 * x)) (same_is z at y) ∙ s.2) in
            absurd (omega (arith, i.turn, e))
      ]
    ]
