-- How many voids a step leaves.
use Rattle.std.specs.Prelude.{◌≡◌, ℕ, ◌+◌, ◌≤◌}
use Rattle.std.proofs.Common.{arith}
use Rattle.shape.specs.Tree.{Tree, leaf, node, height, size}
use Rattle.shape.specs.TreeLaws.{size_some}
use Rattle.shape.specs.PlaceLaws.{size_weight}
use Rattle.shape.specs.Arrange.{insert, remove, set_end}
use Rattle.shape.specs.ChangeLaws.{weight_insert, weight_remove, weight_set}

pub size_insert : (k e q : ℕ) (t : Tree) → size (insert k e q t) ≡ size t + 1
size_insert k e q t = omega (arith, size_weight t, size_weight (insert k e q t), weight_insert (λ k e. 1) (λ q. 0) k e q t)

pub size_set : (k f : ℕ) (t : Tree) → size (set_end k f t) ≡ size t
size_set k f t = omega (arith, size_weight t, size_weight (set_end k f t), weight_set 1 (λ q. 0) k f t)

-- two leaves have a node above them
pub tall_node : (t : Tree) → 2 ≤ size t → 1 ≤ height t
tall_node (leaf k e) h = absurd (omega arith)
tall_node (node p l r) h = omega arith

pub size_remove : (k : ℕ) (t : Tree) → 2 ≤ size t → size (remove k t) + 1 ≡ size t
size_remove k t h = omega (arith, size_weight t, size_weight (remove k t), weight_remove 1 (λ q. 0) k t (tall_node t h))

-- of any tree
pub size_less : (k : ℕ) (t : Tree) → size (remove k t) ≤ size t
unfolding remove
size_less k (leaf j e) = omega arith
size_less k (node p l r) = let h : 2 ≤ size (node p l r) = omega (arith, size_some l, size_some r) in omega (arith, size_remove k (node p l r) h)
