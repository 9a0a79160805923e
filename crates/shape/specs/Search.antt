-- The search as its proof has it: the right child is searched first, and the left child's mark is used only if that
-- gave none. `published` (Visits) is this search (FindLaws).
use Rattle.std.specs.Prelude.{Bool, ℕ, ◌+◌, leb}
use Rattle.numbers.specs.Case.{pick}
use Rattle.rule.specs.Key.{start_of}
use Rattle.shape.specs.Tree.{Tree, leaf, node, lo, top}
use Rattle.shape.specs.Visits.{Out, none, some, Result, fitting}

-- a leaf, and the visits on the way to it
pub record Hit : Type 0 where
  pub key : ℕ
  pub end : ℕ
  pub count : ℕ

abbrev pub more : ℕ → Hit → Hit
more n h = record { key = h.key; end = h.end; count = n + h.count }

-- the leaf with the greatest key that ends at f or later, where there is one
abbrev pub last : (f : ℕ) → Tree → Hit
last f (leaf k e) = record { key = k; end = e; count = 0 }
last f (node p l r) = pick (leb f (top r)) (more 1 (last f r)) (more 2 (last f l))

-- what the right child's result and the left child's mark come to, after a right turn
abbrev pub after : (mark : Bool) → Hit → Out → (visits : ℕ) → Result
after b h (some k e) n = record { out = some k e; visits = n + 2 }
after b h none n = pick b (record { out = some h.key h.end; visits = n + 2 + h.count }) (record { out = none; visits = n + 2 })

abbrev pub find : (r f : ℕ) → Tree → Result
find r f (leaf k e) = record { out = fitting r f (leaf k e); visits = 1 }
find r f (node p x y) =
    pick (leb (start_of (lo y)) r)
    (after (leb f (top x)) (last f x) (find r f y).out (find r f y).visits)
    (record { out = (find r f x).out; visits = (find r f x).visits + 1 })
