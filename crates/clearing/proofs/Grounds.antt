-- The laws of the ground: what a place given back and a change of nodes leave of it.
use mathlib.Core.Path.{◌≡◌, ap, ◌∙◌}
use mathlib.Core.List.{List, [], ◌∷◌}
use Prim.Native.Nat.{ℕ, ◌+◌, ◌*◌, ◌/◌, ◌%◌, ◌≤◌, ◌<◌}
use native.Mathlib.Omega.{arith}
use lib.ListN.{length}
use Rattle.numbers.specs.Words.{word, store}
use Rattle.numbers.proofs.WordLaws.{word_other, word_same, length_store}
use Rattle.shape.specs.Tree.{same}
use Rattle.shape.specs.PlaceLaws.{same_self, same_other}
use Rattle.node.specs.Layout.{bytes_for, Within, base, node_at, Kept}
use Rattle.node.proofs.Frames.{word_kept, node_kept}
use Rattle.state.specs.State.{first}
use Rattle.state.specs.Sound.{among, below}
use Rattle.memory.specs.Holds.{Spares, Gives}
use Rattle.memory.proofs.Parts.{below_in, spares_frame, past_none, past_then, past_store, past_kept}
use Rattle.clearing.specs.Clears.{Ground}

-- the word of the first spare place is in no node
node_put : (m : List ℕ) (v z : ℕ) → node_at (store m 7 v) z ≡ node_at m z
unfolding node_at
node_put m v z =
    let e : (j : ℕ) → base z ≤ j → word (store m 7 v) j ≡ word m j = λ j l. word_other m 7 v j (omega arith) in
    rw (e (base z) (omega arith), e (base z + 1) (omega arith), e (base z + 2) (omega arith), e (base z + 3) (omega arith))

module _ (m0 m : List ℕ) (n : ℕ) (h ps : List ℕ) (G : Ground m0 m n h ps) where
  -- from here on
  pub ground_here : Ground m m n h ps
  ground_here = record { some = G.some; small = G.small; long = G.long; heads = G.heads; next = G.next; spare = G.spare; past = past_none (bytes_for n) m }

  -- seats that are the link's, and at no spare place, were written
  pub ground_kept : (k : ℕ → ℕ) (m' : List ℕ) → Kept k m m' → ((z : ℕ) → 1 ≤ among (z / 8) ps → k z ≡ 0) → ((z : ℕ) → 8 * n ≤ z → k z ≡ 0) → Ground m0 m' n h ps
  ground_kept k m' f g o = record {
    some = G.some;
    small = G.small;
    long = omega (arith, G.long, f.len);
    heads = λ j l d. word_kept k m m' f j l ∙ G.heads j l d;
    next = word_kept k m m' f 7 (omega arith) ∙ G.next;
    spare = spares_frame ps m m' (λ z v u. node_kept k m m' f z v (g z u)) G.spare;
    past = past_then G.past (past_kept k m m' n f o);
  }

  -- a place is given back
  module _ (p : ℕ) (lo : 1 ≤ p) (hi : p < n) (free : among p ps ≡ 0) (each : (z : ℕ) → among z ps ≤ below z n) where
    first_low : (qs : List ℕ) → ((z : ℕ) → among z qs ≤ below z n) → first qs < 65536
    first_low [] f = omega arith
    first_low (q ∷ qs) f = omega (arith, G.small, below_in q n (omega (arith, f q, same_self q)))

    pub give_pre : Within m (8 * p) × Within m (8 * p + 4) × (word m 7 < 65536)
    give_pre = (omega (arith, G.small, G.long), omega (arith, G.small, G.long), omega (arith, G.next, first_low ps each))

    module _ (m' : List ℕ) (k : ℕ) (ek : k ≡ length ps) (s : Gives p k m m') where
      pub nodes_given : (z : ℕ) → z % 4 ≡ 0 → same (z / 8) p ≡ 0 → node_at m' z ≡ node_at m z
      nodes_given z v e = node_kept _ (store m 7 p) m' s.kept z v e ∙ node_put m p z

      pub ground_given : Ground m0 m' n h (p ∷ ps)
      unfolding Spares
      ground_given = record {
        some = G.some;
        small = G.small;
        long = omega (arith, G.long, s.kept.len, length_store m 7 p);
        heads = λ j l d. word_kept _ (store m 7 p) m' s.kept j l ∙ word_other m 7 p j d ∙ G.heads j l d;
        next = word_kept _ (store m 7 p) m' s.kept 7 (omega arith) ∙ word_same m 7 p (omega (arith, G.long)) (omega (arith, G.small));
        spare = (
          rw (ek, G.next) at s.left,
          s.right,
          spares_frame ps m m' (λ z v u. nodes_given z v (same_other (z / 8) p (λ e. omega (arith, u, ap (λ y. among y ps) e)))) G.spare,
        );
        past = past_then G.past (past_then (past_store m 7 p n (omega arith) G.some) (past_kept _ (store m 7 p) m' n s.kept (λ z l. same_other (z / 8) p (omega arith))));
      }
