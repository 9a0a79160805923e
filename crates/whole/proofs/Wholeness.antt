-- A memory is a whole link exactly if its three parts are right: the header, the tree and the spare places.
-- That each place is used once follows: rising keys and the spare marks tell the places apart, and they are as many as there are.
use mathlib.Core.Path.{◌≡◌, refl, sym, ap, ◌∙◌}
use mathlib.Core.List.{List}
use Prim.Native.Nat.{ℕ, zero, suc, ◌+◌, ◌*◌, ◌-◌, ◌≤◌, ◌<◌}
use native.Mathlib.Decide.{dec_lt}
use native.Mathlib.Omega.{arith}
use lib.ListN.{length, get_or, get_or-eq_default}
use Rattle.numbers.specs.Words.{word}
use Rattle.rule.specs.SettingsLaws.{Bounds, in_bounds_lem, bounds_in}
use Rattle.shape.specs.Tree.{Tree, leaf, node, height, size, same, uses}
use Rattle.shape.specs.TreeLaws.{size_some, height_size}
use Rattle.shape.specs.PlaceLaws.{same_self, same_is, same_other, same_most}
use Rattle.node.specs.Layout.{root_seat, node_at}
use Rattle.node.specs.Rep.{Stands}
use Rattle.node.proofs.Reps.{tall, left_stands, right_stands, stands_apart}
use Rattle.node.proofs.Once.{stands_once}
use Rattle.state.specs.State.{State, first, places}
use Rattle.state.specs.Sound.{Sound, most_key, among, below}
use Rattle.memory.specs.Header.{header, Heads}
use Rattle.memory.specs.Holds.{Holds, Whole}
use Rattle.settled.specs.Settled.{listed, Settled}
use Rattle.survey.specs.Planted.{Treed, Planted}
use Rattle.whole.specs.Parts.{spare_many, Spared}
use Rattle.memory.proofs.Parts.{below_is, below_in, below_most, padded_at}
use Rattle.whole.proofs.Counting.{covered}
use Rattle.settled.proofs.Settling.{length_listed, listed_at, listed_is}
use Rattle.whole.proofs.Threading.{spares_at, length_spares, first_spare, threads_spares, spares_threads, marked, spare_once}

-- ---- from the whole to the parts
module _ (m : List ℕ) (s : State) (S : Sound s) (H : Holds m s) where
  word_room : word m 0 ≡ s.settings.room
  word_room = H.heads 0 (omega arith)

  word_channels : word m 1 ≡ s.settings.channels
  word_channels = H.heads 1 (omega arith)

  word_lines : word m 2 ≡ length s.settings.delays
  word_lines = H.heads 2 (omega arith)

  word_leap : word m 3 ≡ s.settings.leap
  word_leap = H.heads 3 (omega arith)

  word_floor : word m 4 ≡ s.floor
  word_floor = H.heads 4 (omega arith)

  word_unused : word m 5 ≡ 0
  word_unused = H.heads 5 (omega arith)

  word_kept : word m 6 ≡ size s.tree
  word_kept = H.heads 6 (omega arith)

  word_spare : word m 7 ≡ first s.spares
  word_spare = H.heads 7 (omega arith)

  word_delay : (i : ℕ) → i < 20 → word m (8 + i) ≡ get_or s.settings.delays i 0
  word_delay i h =
      let e : 8 + i ≡ suc (suc (suc (suc (suc (suc (suc (suc i))))))) = omega arith in
      ap (word m) e ∙ H.heads (suc (suc (suc (suc (suc (suc (suc (suc i)))))))) (omega arith) ∙ padded_at 20 s.settings.delays i h

  is_settled : Settled m
  is_settled =
      let b = in_bounds_lem s.settings S.bounds in
      record {
        bounded = record {
          some_channel = omega (arith, word_channels, b.channels);
          most_channels = omega (arith, word_channels, b.channels);
          some_room = omega (arith, word_channels, word_room, b.room);
          most_room = omega (arith, word_room, b.room);
          most_lines = omega (arith, word_lines, b.lines);
          some_leap = omega (arith, word_leap, b.leap);
          most_leap = omega (arith, word_leap, b.leap);
          most_floor = omega (arith, word_floor, S.floor);
          some_void = omega (arith, word_kept, size_some s.tree);
          most_voids = omega (arith, word_kept, word_room, S.within);
        };
        long = omega (arith, word_room, H.long);
        unused = word_unused;
        delays = rw (word_lines, listed_is s.settings.delays m 8 (λ i h. word_delay i (omega (arith, b.lines)))) b.delays;
        zeros = λ j g h.
            let e : 8 + (j - 8) ≡ j = omega arith in
            ap (word m) (sym e) ∙ (word_delay (j - 8) (omega arith) ∙ get_or-eq_default s.settings.delays 0 (omega (arith, word_lines)));
      }

  is_treed : Treed m s.tree
  is_treed = record {
    stands = H.stands;
    many = sym word_kept;
    inside = λ z h. rw word_room (below_in z _ (omega (arith, S.all z)));
    ordered = S.ordered;
    high = S.high;
    balanced = S.balanced;
    lawful = rw (word_channels, word_floor) S.lawful;
    apart = S.apart;
    open_ends = rw word_channels S.open_ends;
  }

  -- no spare place is the root's
  spare_some : (z : ℕ) → 1 ≤ among z s.spares → 1 ≤ z
  spare_some zero h = absurd (omega (arith, S.all 0, same_self 0, below_most 0 (places s.settings.room)))
  spare_some (suc z) h = omega arith

  is_spared : Spared m
  is_spared =
      let e : spare_many (word m 0) (word m 6) ≡ length s.spares = omega (arith, S.many, word_room, word_kept) in
      rw (e, word_room, word_spare) (spares_threads s.spares m (places s.settings.room) H.spare (λ z h. (spare_some z h, below_in z _ (omega (arith, S.all z)))))

pub whole_settled : (m : List ℕ) → Whole m → Settled m
whole_settled m w = is_settled m w.0 w.1 w.2

pub whole_long : (m : List ℕ) → Whole m → 224 ≤ length m
whole_long m w = omega (arith, (whole_settled m w).long)

pub whole_treed : (m : List ℕ) → Whole m → Planted m
whole_treed m w = (w.0.tree, is_treed m w.0 w.1 w.2)

pub whole_spared : (m : List ℕ) → Whole m → Spared m
whole_spared m w = is_spared m w.0 w.1 w.2

-- ---- from the parts to the whole
-- at a place of a tree is a node that is lower than the tree
node_low : (m : List ℕ) (z s : ℕ) (t : Tree) → Stands m s t → 1 ≤ uses z t → (node_at m (8 * z)).height < height t
node_low m z s (leaf k e) f h = absurd (omega arith)
node_low m z s (node q a b) f h = elim (dec_lt 0 (uses z a)) [
  | yes y ↦ omega (arith, node_low m z (8 * q) a (left_stands f) y)
  | no y ↦ elim (dec_lt 0 (uses z b)) [
    | yes x ↦ omega (arith, node_low m z (8 * q + 4) b (right_stands f) x)
    | no x ↦ omega (arith, ap (λ (i : ℕ). (node_at m (8 * i)).height) (same_is z q (omega arith)), tall (left_stands f))
  ]
]

-- the state that the memory has
abbrev read : List ℕ → Tree → State
read m t = record {
  settings = record { channels = word m 1; delays = listed (word m 2) m 8; leap = word m 3; room = word m 0 };
  floor = word m 4;
  tree = t;
  spares = spares_at (spare_many (word m 0) (word m 6)) m (word m 7);
}

module _ (m : List ℕ) (t : Tree) (A : Settled m) (B : Treed m t) (C : Spared m) where
  abbrev k : ℕ
  k = spare_many (word m 0) (word m 6)

  abbrev n : ℕ
  n = places (word m 0)

  abbrev ps : List ℕ
  ps = spares_at k m (word m 7)

  -- no place is used twice, and none is the root's
  few : (z : ℕ) → same z 0 + uses z t + among z ps ≤ below z n
  few z = elim (dec_lt 0 (uses z t)) [
    | yes y ↦
        let b = below_is z n (B.inside z y) in
        let o = same_other z 0 (λ e. omega (arith, ap (λ (i : ℕ). uses i t) e, stands_apart t m root_seat B.stands)) in
        elim (dec_lt 0 (among z ps)) [
          | yes x ↦ absurd (omega (arith, node_low m z root_seat t B.stands y, (marked k m n (word m 7) z C x).mark, height_size t, B.many, A.bounded.most_voids, A.bounded.most_room))
          | no x ↦ omega (arith, stands_once m root_seat 0 most_key t B.stands B.ordered z)
        ]
    | no y ↦ elim (dec_lt 0 (among z ps)) [
      | yes x ↦
          let i = marked k m n (word m 7) z C x in
          let o = same_other z 0 (λ e. omega (arith, i.some)) in
          omega (arith, spare_once k m n (word m 7) z C, below_is z n i.less)
      | no x ↦ elim (dec_lt 0 z) [
        | yes w ↦ omega (arith, same_other z 0 (λ e. omega arith))
        | no w ↦ omega (arith, same_most z 0, below_is z n (omega arith))
      ]
    ]
  ]

  -- the spare places are those that the tree leaves
  many : length ps + size t ≡ word m 0 + 1
  many = omega (arith, length_spares k m (word m 7), B.many, A.bounded.most_voids)

  heads : Heads m (header (read m t))
  heads zero l = refl
  heads (suc zero) l = refl
  heads (suc (suc zero)) l = sym (length_listed (word m 2) m 8)
  heads (suc (suc (suc zero))) l = refl
  heads (suc (suc (suc (suc zero)))) l = refl
  heads (suc (suc (suc (suc (suc zero))))) l = A.unused
  heads (suc (suc (suc (suc (suc (suc zero)))))) l = sym B.many
  heads (suc (suc (suc (suc (suc (suc (suc zero))))))) l = sym (first_spare k m n (word m 7) C)
  heads (suc (suc (suc (suc (suc (suc (suc (suc j)))))))) l =
      let e : suc (suc (suc (suc (suc (suc (suc (suc j))))))) ≡ 8 + j = omega arith in
      ap (word m) e ∙ (delay j (omega arith) ∙ sym (padded_at 20 (listed (word m 2) m 8) j (omega arith)))
    where
      delay : (i : ℕ) → i < 20 → word m (8 + i) ≡ get_or (listed (word m 2) m 8) i 0
      delay i h = elim (dec_lt i (word m 2)) [
        | yes y ↦ sym (listed_at (word m 2) m 8 i y)
        | no y ↦ A.zeros (8 + i) (omega arith) (omega arith) ∙ sym (get_or-eq_default (listed (word m 2) m 8) 0 (omega (arith, length_listed (word m 2) m 8)))
      ]

  rows : Bounds (read m t).settings
  rows = let b = A.bounded in record {
    channels = (b.some_channel, b.most_channels);
    lines = omega (arith, length_listed (word m 2) m 8, b.most_lines);
    delays = A.delays;
    leap = (b.some_leap, b.most_leap);
    room = (b.some_room, b.most_room);
  }

  sound : Sound (read m t)
  sound = record {
    bounds = bounds_in (read m t).settings rows;
    floor = A.bounded.most_floor;
    ordered = B.ordered;
    high = B.high;
    balanced = B.balanced;
    lawful = B.lawful;
    apart = B.apart;
    open_ends = B.open_ends;
    all = covered t ps n (omega arith) few many;
    many = many;
    within = omega (arith, B.many, A.bounded.most_voids);
  }

  holds : Holds m (read m t)
  holds = record {
    small = omega (arith, A.bounded.most_room);
    lines = omega (arith, length_listed (word m 2) m 8, A.bounded.most_lines);
    long = A.long;
    heads = heads;
    stands = B.stands;
    spare = threads_spares k m n (word m 7) C;
  }

pub parts_whole : (m : List ℕ) → Settled m → Planted m → Spared m → Whole m
parts_whole m A B C = (read m B.0, sound m B.0 A B.1 C, holds m B.0 A B.1 C)
