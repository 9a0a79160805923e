-- What `split` comes to, whichever pieces are kept: the void goes, its pieces come, and places, order and balance are kept.
use Rattle.std.specs.Prelude.{◌≡◌, refl, ◌≢◌, Bool, true, false, ℕ, ◌+◌, ◌≤◌, ◌<◌}
use Rattle.std.proofs.Math.Logic.{inl, inr}
use Rattle.std.proofs.Common.{arith}
use Rattle.numbers.specs.Case.{pick}
use Rattle.rule.specs.Kept.{kept, pieces}
use Rattle.rule.specs.Key.{key_of, start_of, channel_of}
use Rattle.shape.specs.Tree.{Tree, size, Balanced, Ord, In, All}
use Rattle.shape.specs.TreeLaws.{all_map, size_some}
use Rattle.shape.specs.PlaceLaws.{size_weight}
use Rattle.shape.specs.Arrange.{insert, set_end}
use Rattle.shape.specs.InsertLaws.{insert_ok, inserted_size}
use Rattle.shape.specs.RemoveLaws.{remove_ok}
use Rattle.shape.specs.SetEndLaws.{set_end_ok}
use Rattle.state.specs.State.{State, first, with_tree, shorten, add, drop}
use Rattle.state.specs.Act.{split}
use Rattle.state.specs.Sound.{most_key}
use Rattle.state.specs.Places.{Placed}
use Rattle.state.specs.Room.{Room}
use Rattle.state.specs.Cover.{total}
use Rattle.state.specs.LeafLaws.{inserted_in}
use Rattle.state.specs.KeptLaws.{case_kept, pieces_two, pick_most}
use Rattle.state.specs.PlaceLaws.{placed_shorten, placed_add, placed_drop}

-- z is s with the void k e split: its piece in front of r, and its piece behind f
pub record Split (s : State) (k e r f : ℕ) (z : State) : Type 1 where
  pub is : z ≡ with_tree s z.tree z.spares
  pub weigh : (w : (k e : ℕ) → ℕ) → total w z.tree + w k e
      ≡ total w s.tree + pick (kept s.floor (start_of k) r) (w k r) 0 + pick (kept s.floor f e) (w (key_of f (channel_of k)) e) 0
  pub all : (P : (k e : ℕ) → Type 0) → (kept s.floor (start_of k) r ≡ true → P k r)
      → (kept s.floor f e ≡ true → P (key_of f (channel_of k)) e)
      → All (λ j g. j ≢ k → P j g) s.tree → All P z.tree
  pub ord : Ord 0 most_key z.tree
  pub even : Balanced z.tree
  pub placed : Placed s → Placed z

module _ (s : State) (k e r f : ℕ) (o : Ord 0 most_key s.tree) (h : Balanced s.tree) (i : In k e s.tree) (lt : start_of k < f)
    (R : Room s k e r f) where
  abbrev t : Tree
  t = s.tree

  abbrev q : ℕ
  q = first s.spares

  abbrev K : ℕ
  K = key_of f (channel_of k)

  new : k ≢ K
  new = λ y. omega arith

  -- both pieces are kept
  both : kept s.floor (start_of k) r ≡ true → kept s.floor f e ≡ true → Split s k e r f (add (shorten s k r) K e)
  unfolding shorten add
  both y z =
      let U = set_end_ok 0 most_key k e r t o h i in
      let n = U.all (λ j g. j ≢ K) new (all_map (λ j g v w. v) t (R.clear z)) in
      let N = insert_ok 0 most_key q K e (set_end k r t) U.ord U.even (omega arith) (R.key z) n in
      record {
        is = refl;
        weigh = λ w. rw (y, z) (omega (arith, U.weigh w (λ q. 0), N.weigh w (λ q. 0)));
        all = λ P a b c. N.all P (b z) (U.all P (a y) c);
        ord = N.ord;
        even = N.even;
        placed = λ A. placed_add (shorten s k r) 0 most_key U.ord U.even (placed_shorten s 0 most_key o h A k e r i) K e (omega arith) (R.key z) n R.spare;
      }

  -- the piece in front only
  front : kept s.floor (start_of k) r ≡ true → kept s.floor f e ≡ false → Split s k e r f (shorten s k r)
  unfolding shorten
  front y z =
      let U = set_end_ok 0 most_key k e r t o h i in
      record {
        is = refl;
        weigh = λ w. rw (y, z) (omega (arith, U.weigh w (λ q. 0)));
        all = λ P a b c. U.all P (a y) c;
        ord = U.ord;
        even = U.even;
        placed = λ A. placed_shorten s 0 most_key o h A k e r i;
      }

  -- the piece behind only
  behind : kept s.floor (start_of k) r ≡ false → kept s.floor f e ≡ true → Split s k e r f (drop (add s K e) k)
  unfolding add drop
  behind y z =
      let N = insert_ok 0 most_key q K e t o h (omega arith) (R.key z) (R.clear z) in
      let u = insert K e q t in
      let j = inserted_in 0 most_key q K e t u N k e i in
      let two : 2 ≤ size u = omega (arith, inserted_size 0 most_key q K e t u N, size_some t) in
      let M = remove_ok 0 most_key k e u N.ord N.even j two in
      record {
        is = refl;
        weigh = λ w. rw (y, z) (omega (arith, N.weigh w (λ q. 0), M.weigh w (λ q. 0)));
        all = λ P a b c. M.all P (N.all (λ j g. j ≢ k → P j g) (λ n. b z) c);
        ord = M.ord;
        even = M.even;
        placed = λ A. placed_drop (add s K e) 0 most_key N.ord N.even (placed_add s 0 most_key o h A K e (omega arith) (R.key z) (R.clear z) R.spare) k e j two;
      }

  -- neither
  neither : kept s.floor (start_of k) r ≡ false → kept s.floor f e ≡ false → Split s k e r f (drop s k)
  unfolding drop
  neither y z =
      let M = remove_ok 0 most_key k e t o h i (R.another y z) in
      record {
        is = refl;
        weigh = λ w. rw (y, z) (omega (arith, M.weigh w (λ q. 0)));
        all = λ P a b c. M.all P c;
        ord = M.ord;
        even = M.even;
        placed = λ A. placed_drop s 0 most_key o h A k e i (R.another y z);
      }

  pub split_ok : Split s k e r f (split s k e r f)
  unfolding split
  split_ok = elim (case_kept s.floor (start_of k) r) [
    | inl y ↦ rw y.1 (elim (case_kept s.floor f e) [ inl z ↦ rw z.1 (both y.1 z.1) | inr z ↦ rw z.1 (front y.1 z.1) ])
    | inr y ↦ rw y.1 (elim (case_kept s.floor f e) [ inl z ↦ rw z.1 (behind y.1 z.1) | inr z ↦ rw z.1 (neither y.1 z.1) ])
  ]

-- as many more voids as pieces kept, and one less
pub split_size : (s : State) (k e r f : ℕ) (z : State) → Split s k e r f z → size z.tree + 1 ≡ size s.tree + pieces s.floor (start_of k) e r f
split_size s k e r f z S = omega (arith, S.weigh (λ k e. 1), size_weight s.tree, size_weight z.tree)

-- so no more than the room
pub split_within : (s : State) (k e r f : ℕ) (z : State) → Split s k e r f z → Room s k e r f → size s.tree ≤ s.settings.room → size z.tree ≤ s.settings.room
split_within s k e r f z S R h = elim (case_kept s.floor (start_of k) r) [
  | inl a ↦ elim (case_kept s.floor f e) [
    | inl b ↦ omega (arith, split_size s k e r f z S, pieces_two s.floor (start_of k) e r f a.1 b.1, R.less a.1 b.1)
    | inr b ↦ omega (arith, split_size s k e r f z S, one (kept s.floor (start_of k) r), zero_if (kept s.floor f e) b.1)
  ]
  | inr a ↦ omega (arith, split_size s k e r f z S, zero_if (kept s.floor (start_of k) r) a.1, one (kept s.floor f e))
]
  where
    one : (b : Bool) → pick b 1 0 ≤ 1
    one b = pick_most b 1

    zero_if : (b : Bool) → b ≡ false → ◌≡◌ {A = ℕ} (pick b 1 0) 0
    zero_if b q = rw q
