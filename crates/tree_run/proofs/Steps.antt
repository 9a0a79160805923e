-- What each step of the run keeps: one void planted, one inserted at a new place, one exchanged for another at the place that is free then.
use mathlib.Core.Path.{◌≡◌, ap}
use mathlib.Core.Logic.{inl, inr}
use mathlib.Core.List.{List}
use Prim.Native.Nat.{ℕ, ◌+◌, ◌*◌, ◌≤◌, ◌<◌}
use native.Mathlib.Omega.{arith}
use native.Mathlib.Decide.{ℕ_discrete}
use lib.ListN.{length}
use Rattle.numbers.specs.Case.{case_le}
use Rattle.shape.specs.Tree.{Tree, leaf, node, height, same, uses}
use Rattle.shape.specs.Arrange.{insert, remove, above, set_end}
use Rattle.shape.specs.PlaceLaws.{same_self, same_other, same_most}
use Rattle.shape.specs.ChangeLaws.{weight_insert, weight_remove, weight_set, height_remove}
use Rattle.shape.specs.HeightLaws.{height_few}
use Rattle.shape.specs.EvenLaws.{even_insert, even_remove, even_set}
use Rattle.shape.specs.SizeLaws.{size_insert, size_remove, size_set, tall_node}
use Rattle.node.specs.Layout.{root_seat, Within, node_at, leaf_node, Saved}
use Rattle.node.specs.Paths.{longest_way}
use Rattle.node.specs.Rep.{Stands}
use Rattle.node.proofs.Frames.{within_kept}
use Rattle.node.proofs.Reps.{leaf_stands, left_stands, right_stands, tall, within}
use Rattle.tracing.specs.Alone.{Alone, Sole}
use Rattle.rising.specs.Changes.{adding, cutting, ending, Begun, Changed, Becomes}
use Rattle.tree.specs.OnWays.{Insertable, Removes}
use Rattle.search.specs.Search.{Searchable}
use Rattle.tree_run.specs.Grown.{Grown, Has, voids, bytes}

pub planted : (m m' : List ℕ) (k e : ℕ) → Within m root_seat → Saved root_seat (leaf_node k e) m m' → Has m' 1
planted m m' k e l s = (
  leaf k e,
  record { stands = leaf_stands l s; once = λ z. omega (arith, same_most z 0); free = λ z h. omega arith; even = tt; many = omega arith },
)

short : (m : List ℕ) (n : ℕ) → n ≤ voids → (t : Tree) → Grown m n t → height t < longest_way
short m n h t g = height_few t g.even (omega (arith, g.many))

lone : (m : List ℕ) (n : ℕ) → n ≤ voids → (t : Tree) → Grown m n t → Sole m root_seat t
lone m n h t g = record { stands = g.stands; once = λ z. omega (arith, g.once z); even = g.even; low = short m n h t g }

pub alone : (m : List ℕ) → Has m voids → Alone m root_seat
alone m x = (x.0, lone m voids (omega arith) x.0 x.1)

pub searchable : (m ws : List ℕ) → longest_way ≤ length ws → Has m voids → Searchable m root_seat ws
searchable m ws l x = (x.0, x.1.stands, short m voids (omega arith) x.0 x.1, l)

-- ---- a void more, at the place n
module _ (m : List ℕ) (n k e : ℕ) (some : 1 ≤ n) (few : n < voids) (x : Has m n) where
  begun : Begun (adding k e n) m root_seat x.0
  begun =
      record {
        stands = x.1.stands;
        once = λ z. elim (ℕ_discrete z n) [
          | yes i ↦ omega (arith, x.1.free z (omega arith), same_other z 0 (λ j. omega arith), same_most z n)
          | no i ↦ omega (arith, x.1.once z, same_other z n i)
        ];
        even = x.1.even;
        low = short m n (omega arith) x.0 x.1;
      }

  pub insertable : bytes ≤ length m → Insertable m root_seat k e n
  insertable l = record { ready = (x.0, begun); left = omega arith; right = omega arith }

  pub grown : (m' : List ℕ) → Becomes (adding k e n) root_seat m m' → Has m' (n + 1)
  grown m' b =
      let w : (z : ℕ) → uses z (insert k e n x.0) ≡ uses z x.0 + same z n = λ z. omega (arith, weight_insert (λ j v. 0) (same z) k e n x.0) in (
        insert k e n x.0,
        record {
          stands = (b x.0 begun).stands;
          once = λ z. omega (arith, w z, begun.once z);
          free = λ z y. omega (arith, w z, x.1.free z (omega arith), same_other z n (λ i. omega arith));
          even = even_insert k e n x.0 x.1.even;
          many = omega (arith, size_insert k e n x.0, x.1.many);
        },
      )

-- ---- a void for another
-- the seats at a place of a tree that stands
inside : (t : Tree) (m : List ℕ) (s z : ℕ) → Stands m s t → 1 ≤ uses z t → Within m (8 * z) × Within m (8 * z + 4)
inside (leaf k e) m s z a h = absurd (omega arith)
inside (node q l r) m s z a h = elim (ℕ_discrete z q) [
  | yes i ↦ rw i (within (left_stands a), within (right_stands a))
  | no i ↦ elim (case_le 1 (uses z l)) [
    | inl y ↦ inside l m (8 * q) z (left_stands a) y.0
    | inr y ↦ inside r m (8 * q + 4) z (right_stands a) (omega (arith, same_other z q i))
  ]
]

pub inner : (m : List ℕ) → Has m voids → 1 ≤ (node_at m root_seat).height
inner m x = omega (arith, tall x.1.stands, tall_node x.0 (omega (arith, x.1.many)))

module _ (m m' : List ℕ) (key q : ℕ) (x : Has m voids) (r : Removes root_seat key q m m') where
  abbrev t : Tree
  t = remove key x.0

  cut : (q ≡ above key x.0) × Changed (cutting key) root_seat x.0 m m'
  cut = r x.0 (lone m voids (omega arith) x.0 x.1)

  gone : (z : ℕ) → uses z t + same z q ≡ uses z x.0
  gone z = omega (arith, ap (same z) cut.0, weight_remove 0 (same z) key x.0 (tall_node x.0 (omega (arith, x.1.many))))

  room : Within m (8 * q) × Within m (8 * q + 4)
  room = inside x.0 m root_seat q x.1.stands (omega (arith, gone q, same_self q))

  module _ (k e : ℕ) where
    again : Begun (adding k e q) m' root_seat t
    again =
        record {
          stands = cut.1.stands;
          once = λ z. omega (arith, gone z, x.1.once z);
          even = even_remove key x.0 x.1.even;
          low = omega (arith, height_remove key x.0, short m voids (omega arith) x.0 x.1);
        }

    pub cut_insertable : Insertable m' root_seat k e q
    cut_insertable =
        record {
          ready = (t, again);
          left = within_kept _ m m' cut.1.kept (8 * q) room.0;
          right = within_kept _ m m' cut.1.kept (8 * q + 4) room.1;
        }

    pub cut_grown : (m'' : List ℕ) → Becomes (adding k e q) root_seat m' m'' → Has m'' voids
    cut_grown m'' b =
        let w : (z : ℕ) → uses z (insert k e q t) ≡ uses z x.0 = λ z. omega (arith, weight_insert (λ j v. 0) (same z) k e q t, gone z) in (
          insert k e q t,
          record {
            stands = (b t again).stands;
            once = λ z. omega (arith, w z, x.1.once z);
            free = λ z y. omega (arith, w z, x.1.free z y);
            even = even_insert k e q t (even_remove key x.0 x.1.even);
            many = omega (arith, size_insert k e q t, size_remove key x.0 (omega (arith, x.1.many)), x.1.many);
          },
        )

pub ended : (m m' : List ℕ) (key e : ℕ) → Has m voids → Becomes (ending key e) root_seat m m' → Has m' voids
ended m m' key e x b =
    let w : (z : ℕ) → uses z (set_end key e x.0) ≡ uses z x.0 = λ z. weight_set 0 (same z) key e x.0 in (
      set_end key e x.0,
      record {
        stands = (b x.0 (lone m voids (omega arith) x.0 x.1)).stands;
        once = λ z. omega (arith, w z, x.1.once z);
        free = λ z y. omega (arith, w z, x.1.free z y);
        even = even_set key e x.0 x.1.even;
        many = omega (arith, size_set key e x.0, x.1.many);
      },
    )
