-- The search and its visits, literally as 01 counts them (The tree and its visits): A + B + C.
-- Written as lists of nodes, apart from the search that the proofs and the code use, so that their equality says something.
use Rattle.std.specs.Prelude.{List, [], ◌∷◌, Bool, ℕ, ◌+◌, leb, length}
use Rattle.numbers.specs.Case.{pick}
use Rattle.rule.specs.Fit.{fits}
use Rattle.rule.specs.Key.{start_of}
use Rattle.shape.specs.Tree.{Tree, leaf, node, lo, top}

-- where a search ends: at no leaf, or at a leaf
pub data Out : Type 0 where
  none : Out
  some : (key end : ℕ) → Out

pub record Result : Type 0 where
  pub out : Out
  pub visits : ℕ

-- A: "the nodes from root to a leaf, the root and leaf included, going right exactly if the node's earliest right start
-- is at or before r": that of the right child y is start_of (lo y)
abbrev pub path : (r : ℕ) → Tree → List Tree
path r (leaf k e) = leaf k e ∷ []
path r (node p x y) = node p x y ∷ pick (leb (start_of (lo y)) r) (path r y) (path r x)

-- B: "one left child for each right turn", from the root down
abbrev pub passed : (r : ℕ) → Tree → List Tree
passed r (leaf k e) = []
passed r (node p x y) = pick (leb (start_of (lo y)) r) (x ∷ passed r y) (passed r x)

-- the leaf reached: where the path ends
abbrev pub reached : (r : ℕ) → Tree → Tree
reached r (leaf k e) = leaf k e
reached r (node p x y) = pick (leb (start_of (lo y)) r) (reached r y) (reached r x)

-- "the leaf reached fits"
abbrev pub fitting : (r f : ℕ) → Tree → Out
fitting r f (leaf k e) = pick (fits (start_of k) e r f) (some k e) none
fitting r f (node p x y) = none

-- "It is marked if its greatest end is at least f"; "the marked node deepest in the tree" is the last one passed
pub data Deepest : Type 0 where
  unmarked : Deepest
  marked : Tree → Deepest

abbrev pub deeper : Deepest → Bool → Tree → Deepest
deeper unmarked b x = pick b (marked x) unmarked
deeper (marked y) b x = marked y

abbrev pub deepest : (f : ℕ) → List Tree → Deepest
deepest f [] = unmarked
deepest f (x ∷ xs) = deeper (deepest f xs) (leb f (top x)) x

-- C: "from the marked node deepest in the tree down to a leaf: one visit to the right child at each inner node; if that
-- child's greatest end is less than f, one more visit, to the left child, and the search goes there"
abbrev pub descended : (f : ℕ) → Tree → List Tree
descended f (leaf k e) = []
descended f (node p x y) = y ∷ pick (leb f (top y)) (descended f y) (x ∷ descended f x)

-- the leaf where that ends
abbrev pub bottom : (f : ℕ) → Tree → Out
bottom f (leaf k e) = some k e
bottom f (node p x y) = pick (leb f (top y)) (bottom f y) (bottom f x)

-- "C: zero if the leaf reached fits, or if nothing is marked"
abbrev pub descent : (f : ℕ) → Out → Deepest → Result
descent f (some k e) m = record { out = some k e; visits = 0 }
descent f none unmarked = record { out = none; visits = 0 }
descent f none (marked x) = record { out = bottom f x; visits = length (descended f x) }

-- where the search ends, and its visits A + B + C
abbrev pub published : (r f : ℕ) → Tree → Result
published r f t =
    let C = descent f (fitting r f (reached r t)) (deepest f (passed r t)) in
    record { out = C.out; visits = length (path r t) + length (passed r t) + C.visits }
