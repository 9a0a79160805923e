-- The three steps keep the places: of those below `places room`, 0 is the root's, and each other one is used once, as a node's or as a spare one.
use Rattle.std.specs.Prelude.{◌≡◌, ◌≢◌, List, [], ◌∷◌, ℕ, ◌+◌, ◌≤◌, ◌<◌, length}
use Rattle.std.proofs.Common.{arith}
use Rattle.shape.specs.Tree.{size, Balanced, Ord, In, All, same}
use Rattle.shape.specs.InsertLaws.{insert_ok, inserted_size}
use Rattle.shape.specs.RemoveLaws.{remove_ok, removed_size}
use Rattle.shape.specs.SetEndLaws.{set_end_ok}
use Rattle.shape.specs.Arrange.{insert, remove}
use Rattle.state.specs.State.{State, first, rest, shorten, add, drop}
use Rattle.state.specs.Sound.{among}
use Rattle.state.specs.Places.{Placed}

-- a spare place taken
among_one : (z : ℕ) (ps : List ℕ) → 1 ≤ length ps → among z ps ≡ same z (first ps) + among z (rest ps)
among_one z [] h = absurd (omega arith)
among_one z (p ∷ ps) h = omega arith

length_one : (ps : List ℕ) → 1 ≤ length ps → length ps ≡ length (rest ps) + 1
length_one [] h = absurd (omega arith)
length_one (p ∷ ps) h = omega arith

-- while no more voids are kept than the room has, a place is spare
pub one_spare : (s : State) → Placed s → size s.tree ≤ s.settings.room → 1 ≤ length s.spares
one_spare s P h = omega (arith, P.many)

module _ (s : State) (a b : ℕ) (o : Ord a b s.tree) (h : Balanced s.tree) (P : Placed s) where
  pub placed_shorten : (k e f : ℕ) → In k e s.tree → Placed (shorten s k f)
  unfolding shorten
  placed_shorten k e f i =
      let U = set_end_ok a b k e f s.tree o h i in
      record { all = λ z. omega (arith, P.all z, U.weigh (λ k e. 0) (same z)); many = omega (arith, P.many, U.many) }

  pub placed_add : (k e : ℕ) → a ≤ k → k < b → All (λ j f. j ≢ k) s.tree → 1 ≤ length s.spares → Placed (add s k e)
  unfolding add
  placed_add k e u v n one =
      let q = first s.spares in
      let I = insert_ok a b q k e s.tree o h u v n in
      record {
        all = λ z. omega (arith, P.all z, I.weigh (λ k e. 0) (same z), among_one z s.spares one);
        many = omega (arith, P.many, inserted_size a b q k e s.tree (insert k e q s.tree) I, length_one s.spares one);
      }

  pub placed_drop : (k e : ℕ) → In k e s.tree → 2 ≤ size s.tree → Placed (drop s k)
  unfolding drop
  placed_drop k e i two =
      let R = remove_ok a b k e s.tree o h i two in
      record {
        all = λ z. omega (arith, P.all z, R.weigh (λ k e. 0) (same z));
        many = omega (arith, P.many, removed_size a b k e s.tree (remove k s.tree) R);
      }
