-- A link cleared: from what the header says to the whole tree's clearing, and back to a header.
use mathlib.Core.Path.{◌≡◌, sym, subst, ◌∙◌}
use mathlib.Core.List.{List, ◌++◌}
use Prim.Native.Nat.{ℕ, ◌+◌, ◌-◌, ◌≤◌}
use native.Mathlib.Decide.{ℕ_discrete}
use native.Mathlib.Omega.{arith}
use lib.ListN.{length, set, length-set, length-append}
use lib.Seq.{get_or-set_same, get_or-set_other}
use Rattle.numbers.specs.Words.{word, store}
use Rattle.shape.specs.Tree.{Tree, size}
use Rattle.shape.specs.TreeLaws.{size_some}
use Rattle.shape.specs.Clear.{rest, clear, freed}
use Rattle.node.specs.Layout.{root_seat}
use Rattle.node.specs.Rep.{Stands}
use Rattle.state.specs.State.{State, first, places, with_tree}
use Rattle.state.specs.Act.{cleared}
use Rattle.state.specs.ClearLaws.{Cleared, among_append, left_some}
use Rattle.memory.specs.Header.{header, Heads}
use Rattle.memory.specs.Holds.{After}
use Rattle.memory.specs.Part.{Part}
use Rattle.memory.proofs.Parts.{part_some, part_put, opened, closed}
use Rattle.memory.proofs.Shortening.{sole}
use Rattle.clearing.specs.Clears.{Left, Site, LeftAt, Cleaned, Clearable, Cleans, Lasting}

module _ (bound : ℕ) (m : List ℕ) (s : State) (L : Lasting bound m s) where
  abbrev n : ℕ
  n = places s.settings.room

  abbrev t : Tree
  t = s.tree

  P : Part m m n (header s) t s.spares
  P = opened m s L.link

  pub long : 224 ≤ length m
  long = omega (arith, P.long, part_some m m n (header s) t s.spares P)

  words : (word m 6 ≡ size t) × (word m 0 ≡ s.settings.room)
  words = (P.heads 6 (omega arith), P.heads 0 (omega arith))

  module _ (kept room : ℕ) (ek : kept ≡ word m 6) (er : room ≡ word m 0) where
    pub counts : (kept ≤ room + 1) × (room ≤ 8192) × (1 ≤ kept)
    counts = omega (arith, L.link.placed.many, L.link.holds.small, words, size_some t)

    abbrev K : ℕ
    K = room + 1 - kept

    spare_is : K ≡ length s.spares
    spare_is = omega (arith, L.link.placed.many, words)

    site : Site n (header s) m root_seat t s.spares
    site = record {
      ground = record {
        some = part_some m m n (header s) t s.spares P;
        small = P.small;
        long = P.long;
        heads = λ j l d. P.heads j l;
        next = P.heads 7 (omega arith);
        spare = P.spare;
        past = P.past;
      };
      stands = (sole m s L.link).stands;
      even = L.link.even;
      low = omega (arith, (sole m s L.link).low);
      once = λ z. omega (arith, L.link.placed.all z);
      few = omega (arith, L.link.placed.many, L.link.holds.small);
    }

    pub clearable : Clearable m root_seat K
    clearable = (n, header s, t, s.spares, site, spare_is)

    module _ (x : Left) (m1 : List ℕ) (c : Cleans bound root_seat K x m m1) where
      C : Cleaned bound n (header s) m root_seat t s.spares x m1
      C = c n (header s) t s.spares site spare_is

      U : (u : Tree) × (clear bound t ≡ rest u) × Cleared bound t (rest u) (freed bound t)
      U = left_some bound t L.key L.end L.link.even L.inside L.late

      abbrev u : Tree
      u = U.0

      abbrev ps : List ℕ
      ps = freed bound t ++ s.spares

      stands_u : Stands m1 root_seat u
      stands_u = (subst (LeftAt m1 root_seat x) U.1 C.left).1

      abbrev D : ℕ
      D = x.spare - K

      -- a place comes free for each void that goes
      fewer : (K ≤ x.spare) × (D + size u ≡ size t)
      fewer = omega (arith, C.many, spare_is, U.2.many, length-append (freed bound t) s.spares)

      pub in_range : (K ≤ x.spare) × (D ≤ kept) × (224 ≤ length m1)
      in_range = omega (arith, fewer, words, ek, C.ground.long, C.ground.some)

      heads_1 : Heads m1 (set (header s) 7 (first ps))
      heads_1 j l = elim (ℕ_discrete j 7) [
        | yes e ↦ rw e (C.ground.next ∙ sym (get_or-set_same (header s) 7 (first ps) 0 (omega (arith, P.wide))))
        | no d ↦ C.ground.heads j l d ∙ sym (get_or-set_other (header s) 7 j (first ps) 0 d)
      ]

      part_1 : Part m m1 n (set (header s) 7 (first ps)) u ps
      part_1 = record {
        small = C.ground.small;
        long = C.ground.long;
        wide = length-set (header s) 7 (first ps) ∙ P.wide;
        heads = heads_1;
        stands = stands_u;
        spare = C.ground.spare;
        once = λ z. omega (arith, P.once z, U.2.places z, among_append z (freed bound t) s.spares);
        past = C.ground.past;
      }

      pub closed_up : (m2 : List ℕ) → m2 ≡ store m1 6 (kept - D) → (D + size (cleared s bound).tree ≡ size t) × After m m2 (cleared s bound)
      unfolding cleared
      closed_up m2 e2 =
          let P2 = part_put m m1 n _ u ps part_1 6 (kept - D) (omega arith) (omega (arith, counts)) in
          let sz : kept - D ≡ size u = omega (arith, fewer, words, ek) in
          rw U.1 (fewer.1, closed m m2 (with_tree s u ps) L.link.holds.lines (rw (e2, ← sz) P2))
