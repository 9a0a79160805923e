-- What the search's contracts say, in the words of the tree's definitions (crates/shape/specs/Visits.antt).
-- Each speaks of whatever tree stands at the seat; none says how the code goes.
use Rattle.std.specs.Prelude.{◌≡◌, refl, Option, Some, None, IfSome, List, ℕ, suc, ◌+◌, ◌-◌, ◌%◌, ◌≤◌, ◌<◌, length, get_or}
use Rattle.std.proofs.Common.{sym, ap, ◌∙◌}
use Rattle.shape.specs.Tree.{Tree, leaf, height}
use Rattle.shape.specs.Visits.{Out, none, some, Result, path, passed, reached, Deepest, unmarked, marked, deepest, descended, bottom}
use Rattle.node.specs.Layout.{node_at}
use Rattle.node.specs.Rep.{Stands}
use Rattle.node.specs.Paths.{longest_way, Child, Down, Reaches}
use Rattle.search.specs.declared.Descent.{Descent}
use Rattle.search.specs.declared.Lowered.{Lowered}
use Rattle.search.specs.declared.Way.{Way}
use Rattle.search.specs.declared.Leaf.{Leaf}
use Rattle.search.specs.declared.Found.{Found}

-- some tree stands at s, and its ways down fit the list
abbrev pub Searchable : List ℕ → ℕ → (way : List ℕ) → Type 0
Searchable m s ws = (t : Tree) × Stands m s t × (height t < longest_way) × (longest_way ≤ length ws)

-- some tree stands at the seat noted d steps down, and has the place q; and its ways down fit the rest of the list
pub record Descendable (m : List ℕ) (q : ℕ) (ws : List ℕ) (d : ℕ) : Type 0 where
  pub tree : Tree
  pub stands : Stands m (get_or ws d 0) tree
  pub place : q ≡ (node_at m (get_or ws d 0)).place
  pub low : height tree + d < longest_way
  pub long : longest_way ≤ length ws

-- d is where C's way down from t ends, at a leaf, with its visits
pub record Descended (m : List ℕ) (f : ℕ) (t : Tree) (d : Descent) : Type 0 where
  pub stands : Stands m d.seat (leaf (node_at m d.seat).lo (node_at m d.seat).top)
  pub ends : bottom f t ≡ some (node_at m d.seat).lo (node_at m d.seat).top
  pub counts : d.visits ≡ length (descended f t)

-- ws' is the way ws up to the seat i steps down, and goes down from there to the seat s, n steps down
pub record Prolonged (m : List ℕ) (i : ℕ) (ws ws' : List ℕ) (n s : ℕ) : Type 0 where
  pub deep : i ≤ n
  pub long : n < length ws'
  pub short : n < longest_way
  pub stays : (j : ℕ) → j ≤ i → get_or ws' j 0 ≡ get_or ws j 0
  pub steps : (j : ℕ) → i ≤ j → j < n → Child m (get_or ws' j 0) (get_or ws' (suc j) 0)
  pub last : get_or ws' n 0 ≡ s

-- from the seat i steps down, d is where C's way down ends, which ws' has noted to there, n steps down
abbrev pub Descends : (m : List ℕ) (f i : ℕ) (ws ws' : List ℕ) (n : ℕ) → Descent → Type 0
Descends m f i ws ws' n d = ((t : Tree) → Stands m (get_or ws i 0) t → Descended m f t d) × Prolonged m i ws ws' n d.seat

-- one step of it is u: what is found from the seat noted next is found from the seat i steps down, with the step's visits
pub record Lowers (m : List ℕ) (f i : ℕ) (ws ws' : List ℕ) (u : Lowered) : Type 0 where
  pub able : Descendable m u.place ws' (i + 1)
  pub lower : (node_at m (get_or ws' (i + 1) 0)).height < (node_at m (get_or ws i 0)).height
  pub len : length ws' ≡ length ws
  pub few : u.visits ≤ 2
  pub on : (ws'' : List ℕ) (n : ℕ) (d : Descent) → Descends m f (i + 1) ws' ws'' n d → Descends m f i ws ws'' n (record { seat = d.seat; visits = d.visits + u.visits })

-- x stands on the left of the node noted j steps down
pub record Beside (m ws : List ℕ) (j : ℕ) (x : Tree) : Type 0 where
  pub deep : 1 ≤ j
  pub right : get_or ws j 0 % 8 ≡ 4
  pub stands : Stands m (get_or ws j 0 - 4) x

-- the mark of a way is beside that node of it, or there is none
abbrev pub Marks : (m ws : List ℕ) → (mark : ℕ) → Deepest → Type 0
Marks m ws j unmarked = j ≡ 0
Marks m ws j (marked x) = Beside m ws j x

-- w has the leaf reached, which is the last of the way ws, the deepest marked node, and the visits A + B
pub record Walked (m : List ℕ) (r f : ℕ) (t : Tree) (ws : List ℕ) (w : Way) : Type 0 where
  pub stands : Stands m (get_or ws w.depth 0) (reached r t)
  pub ends : reached r t ≡ leaf (node_at m (get_or ws w.depth 0)).lo (node_at m (get_or ws w.depth 0)).top
  pub marks : Marks m ws w.mark (deepest f (passed r t))
  pub counts : w.visits ≡ length (path r t) + length (passed r t)

-- the left sibling of the node noted j steps down has the place b, and its ways down fit
pub record Under (m ws : List ℕ) (j b : ℕ) : Type 0 where
  pub is : b ≡ (node_at m (get_or ws j 0 - 4)).place
  pub room : (node_at m (get_or ws j 0 - 4)).height + j < longest_way

-- the way walked is noted, and the mark, whose children's place is noted too, is beside a node of it
pub record Trodden (m : List ℕ) (root : ℕ) (ws : List ℕ) (w : Way) : Type 0 where
  pub long : longest_way ≤ length ws
  pub short : w.depth < longest_way
  pub down : Down m root w.depth ws
  pub turn : w.mark ≤ w.depth
  pub under : (w.mark ≡ 0 → ⊥) → Under m ws w.mark w.below

-- how far down the way to what is found is noted (0 where nothing is)
abbrev pub noted_of : Option Leaf → ℕ
noted_of (Some l) = l.noted
noted_of None = 0

-- the answer of a search as the code gives it, with the ways noted as in y
abbrev pub found_at : (y : Found) → (visits : ℕ) → Out → Found
found_at y n none = record { leaf = None; visits = n; ahead = y.ahead }
found_at y n (some k e) = record { leaf = Some (record { key = k; end = e; noted = noted_of y.leaf }); visits = n; ahead = y.ahead }

abbrev pub found_of : (y : Found) → Result → Found
found_of y z = found_at y z.visits z.out

-- what is found is below the seat noted last
abbrev pub Notes : List ℕ → (root : ℕ) → List ℕ → Found → Type 0
Notes m root ws x = IfSome x.leaf (λ l. Reaches m root l.noted ws l.key l.end)

-- and back
abbrev pub out_of : Option Leaf → Out
out_of (Some l) = some l.key l.end
out_of None = none

abbrev pub result_of : Found → Result
result_of x = record { out = out_of x.leaf; visits = x.visits }

-- ---- what an answer tells of the search
result_at : (y : Found) (n : ℕ) (o : Out) → result_of (found_at y n o) ≡ record { out = o; visits = n }
result_at y n none = refl
result_at y n (some k e) = refl

module _ (x y : Found) (z : Result) (q : x ≡ found_of y z) where
  pub found_result : result_of x ≡ z
  found_result = ap result_of q ∙ result_at y z.visits z.out

  pub found_visits : x.visits ≡ z.visits
  found_visits = ap (λ (a : Result). a.visits) found_result

  pub found_some : (l : Leaf) → x.leaf ≡ Some l → z.out ≡ some l.key l.end
  found_some l h = rw h at (sym (ap (λ (a : Result). a.out) found_result))

  pub found_none : x.leaf ≡ None → z.out ≡ none
  found_none h = rw h at (sym (ap (λ (a : Result). a.out) found_result))
