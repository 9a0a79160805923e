-- Clearing (01, Sweeping): what is left of a tree without the leaves that end before a bound, and the places that come free. One pass: a part
-- that has no such leaf stays as it is, and what is left of a node's two sides is joined by that node.
use Rattle.std.specs.Prelude.{Bool, true, false, List, [], ◌∷◌, ◌++◌, ℕ, ◌+◌, leb}
use Rattle.numbers.specs.Case.{pick}
use Rattle.shape.specs.Tree.{Tree, leaf, node, height, low}
use Rattle.shape.specs.Side.{over}
use Rattle.shape.specs.Arrange.{balance}

-- ---- w over a higher tree, on the side named, and a lower one: as far down the higher one's inner edge as their heights ask
unfoldable pub hang : Bool → (w : ℕ) → (high low : Tree) → Tree
hang left w (leaf k e) b = over left w (leaf k e) b
hang true w (node x c d) b = pick (leb (height (node x c d)) (height b + 1)) (node w (node x c d) b) (balance x c (hang true w d b))
hang false w (node x c d) b = pick (leb (height (node x c d)) (height b + 1)) (node w b (node x c d)) (balance x (hang false w c b) d)

-- a node w over two trees of any heights
unfoldable pub join : (w : ℕ) → (l r : Tree) → Tree
join w l r = pick (leb (height r) (height l)) (hang true w l r) (hang false w r l)

-- ---- what is left of a tree: nothing, or a tree
pub data Rest : Type 0 where
  gone : Rest
  rest : Tree → Rest

-- of a node x, by what is left of its sides
abbrev pub meet : (x : ℕ) → Rest → Rest → Rest
meet x gone b = b
meet x (rest a) gone = rest a
meet x (rest a) (rest b) = rest (join x a b)

unfoldable pub clear : (bound : ℕ) → Tree → Rest
clear b (leaf k e) = pick (leb b e) (rest (leaf k e)) gone
clear b (node x l r) = pick (leb b (low (node x l r))) (rest (node x l r)) (meet x (clear b l) (clear b r))

-- ---- the places that come free, the last one first: left before right, then the node itself unless it joins
abbrev pub unused : (x : ℕ) → Rest → Rest → List ℕ
unused x gone b = x ∷ []
unused x (rest a) gone = x ∷ []
unused x (rest a) (rest b) = []

unfoldable pub freed : (bound : ℕ) → Tree → List ℕ
freed b (leaf k e) = []
freed b (node x l r) = pick (leb b (low (node x l r))) [] (unused x (clear b l) (clear b r) ++ (freed b r ++ freed b l))
