-- Left and right as a parameter: true for the left. One law then serves both.
use Rattle.std.specs.Prelude.{Bool, true, false, ℕ}
use Rattle.shape.specs.Tree.{Tree, node}

-- a node over two trees, the first of which is on the side named
abbrev pub over : Bool → ℕ → (near far : Tree) → Tree
over true p x y = node p x y
over false p x y = node p y x

-- of a node's children, the one on the side named, and the other
abbrev pub near {ℓ} : {A : Type ℓ} → Bool → (left right : A) → A
near true x y = x
near false x y = y

abbrev pub far {ℓ} : {A : Type ℓ} → Bool → (left right : A) → A
far true x y = y
far false x y = x
