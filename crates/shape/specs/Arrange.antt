-- How the tree is arranged after a change: the turns, insert, remove and set end, each fixed by definition,
-- places included. The code in lent memory does exactly this.
use Rattle.std.specs.Prelude.{Bool, true, false, ℕ, ◌+◌, leb}
use Rattle.numbers.specs.Case.{pick}
use Rattle.shape.specs.Tree.{Tree, leaf, node, height, lo}
use Rattle.shape.specs.Side.{over, near, far}

-- ---- a node w over a tree that is too high, on the side named, and a lower one
-- the double turn: the high tree's inner child comes to the top
unfoldable pub twice : Bool → (w x : ℕ) → (outer inner low : Tree) → Tree
twice left w x a (leaf k e) b = over left w (over left x a (leaf k e)) b
twice left w x a (node y c d) b = over left y (over left x a (near left c d)) (over left w (far left c d) b)

unfoldable pub turn : Bool → (w : ℕ) → (high low : Tree) → Tree
turn left w (leaf k e) b = over left w (leaf k e) b
turn left w (node x c d) b =
    pick (leb (height (far left c d)) (height (near left c d)))
    (over left x (near left c d) (over left w (far left c d) b))
    (twice left w x (near left c d) (far left c d) b)

-- a node w over two trees, turned where one is too high
unfoldable pub balance : (w : ℕ) → (l r : Tree) → Tree
balance w l r =
    pick (leb (height r + 2) (height l)) (turn true w l r)
    (pick (leb (height l + 2) (height r)) (turn false w r l) (node w l r))

-- ---- insert: the leaf k e, under the new node q
unfoldable pub insert : (k e q : ℕ) → Tree → Tree
insert k e q (leaf j f) = pick (leb j k) (node q (leaf j f) (leaf k e)) (node q (leaf k e) (leaf j f))
insert k e q (node x l r) = pick (leb (lo r) k) (balance x l (insert k e q r)) (balance x (insert k e q l) r)

-- ---- remove: the leaf that the key leads to goes, with the node above it
-- a node x over a child, on the side named, that a removal changes, and one that stays: a child that is a leaf goes, and
-- x with it
unfoldable pub less : Bool → (x : ℕ) → (was now stays : Tree) → Tree
less left x (leaf k e) now y = y
less left x (node p a b) now y = balance x (near left now y) (far left now y)

-- (a tree of one leaf is left as it is: a link always keeps a void)
unfoldable pub remove : (k : ℕ) → Tree → Tree
remove k (leaf j e) = leaf j e
remove k (node x l r) = pick (leb (lo r) k) (less false x r (remove k r) l) (less true x l (remove k l) r)

-- the place that comes free, of the node above that leaf: x where the tree is a leaf, else y
unfoldable pub or_above : (x : ℕ) → Tree → (y : ℕ) → ℕ
or_above x (leaf k e) y = x
or_above x (node p l r) y = y

unfoldable pub above : (k : ℕ) → Tree → ℕ
above k (leaf j e) = 0
above k (node x l r) = pick (leb (lo r) k) (or_above x r (above k r)) (or_above x l (above k l))

-- ---- set end: the leaf that the key leads to has the end f
unfoldable pub set_end : (k f : ℕ) → Tree → Tree
set_end k f (leaf j e) = leaf j f
set_end k f (node x l r) = pick (leb (lo r) k) (node x l (set_end k f r)) (node x (set_end k f l) r)
