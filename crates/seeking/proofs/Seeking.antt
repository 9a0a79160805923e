-- The search over the starts, as its loop has it, and its steps: at line i, and again after it, the whole search is the one
-- over the starts left, with the visits so far. Line 0 is the undelayed start.
use mathlib.Core.Path.{◌≡◌, refl, sym, ap, subst, ◌∙◌}
use Rattle.std.specs.Prelude.{Option, Some, None}
use mathlib.Core.Bool.{Bool, true, false, false≢true}
use mathlib.Core.List.{List, [], ◌∷◌}
use Prim.Native.Nat.{ℕ, suc, ◌+◌, ◌*◌, ◌≤◌, ◌<◌}
use native.Mathlib.Numerals.{add-one}
use native.Mathlib.Nat.{zero-add}
use native.Mathlib.Omega.{arith}
use lib.Dec.{leb}
use lib.ListN.{length, get_or, drop, drop_of_length-le}
use lib.Seq.{drop-cons}
use borrow.Author.Tests.{leb-true}
use Rattle.numbers.specs.Words.{word}
use Rattle.numbers.specs.Case.{pick}
use Rattle.rule.specs.Moments.{last_moment}
use Rattle.rule.specs.Settings.{most_room, most_lines, longest}
use Rattle.rule.specs.SettingsLaws.{in_bounds_lem, rising_at}
use Rattle.rule.specs.Starts.{Start, bit, tried, delayed, starts}
use Rattle.shape.specs.Tree.{Tree, height}
use Rattle.shape.specs.TreeLaws.{height_size}
use Rattle.shape.specs.Visits.{Result, published}
use Rattle.shape.specs.SearchLaws.{search_visits}
use Rattle.shape.specs.HeightLaws.{height_few}
use Rattle.node.specs.Layout.{root_seat}
use Rattle.node.specs.Rep.{Stands}
use Rattle.node.specs.Paths.{longest_way}
use Rattle.search.specs.declared.Leaf.{Leaf}
use Rattle.search.specs.declared.Found.{Found}
use Rattle.search.specs.Search.{Searchable, found_of, found_visits, found_some, found_none}
use Rattle.state.specs.State.{State}
use Rattle.state.specs.Act.{Seeking, try_next, seek}
use Rattle.search.specs.Trails.{Ahead}
use Rattle.tracing.specs.Ways.{Serves}
use Rattle.rule.specs.Key.{per_tick}
use Rattle.state.specs.Sound.{most_key}
use Rattle.memory.specs.Holds.{Holds, Whole}
use Rattle.memory.proofs.Parts.{padded_at}
use Rattle.seeking.specs.declared.Tried.{Tried}
use Rattle.seeking.specs.Seek.{StartsOn, starts_from, taken_of}

-- a search that n visits went before
abbrev pub after : ℕ → Seeking → Seeking
after n y = record { out = y.out; count = n + y.count }

-- the delays' words
eight : (i : ℕ) → 8 + i ≡ suc (suc (suc (suc (suc (suc (suc (suc i)))))))
eight i = omega arith

-- a delayed start that is tried
tried_low : (r h p i d : ℕ) → tried r h p i d ≡ true → r + d + h ≤ last_moment
tried_low r h p i d = go (bit p i)
  where
    go : (b : Bool) → pick b (leb (r + d + h) last_moment) false ≡ true → r + d + h ≤ last_moment
    go true q = leb-true (r + d + h) last_moment q
    go false q = absurd (false≢true q)

-- ---- one start
module _ (x : Found) (z : Result) (q : x ≡ found_of x z) (n : ℕ) (a : Start) (y : Seeking) where
  fit : (l : Leaf) → x.leaf ≡ Some l
      → let t : Tried = record { taken = Some (record { line = a.line; start = a.moment; leaf = l; ahead = x.ahead }); count = n + x.visits } in
      t ≡ taken_of t (after n (try_next a z.out z.visits y))
  fit l h = rw (found_some x x z q l h, found_visits x x z q)

  past : x.leaf ≡ None → after n (try_next a z.out z.visits y) ≡ after (n + x.visits) y
  past h =
      let e : n + (z.visits + y.count) ≡ n + x.visits + y.count = omega (arith, found_visits x x z q) in
      rw (found_none x x z q h, e)

-- the most visits of one start
abbrev pub most : ℕ
most = 4 * most_room + 1

-- ---- all of them
module _ (m : List ℕ) (r h p : ℕ) where
  -- what the whole search comes to, and what is left of it from line i on
  abbrev pub whole : State → Seeking
  whole s = seek s.tree h (starts s.settings.delays r h p)

  abbrev pub left : State → ℕ → Seeking
  left s i = seek s.tree h (starts_from s.settings.delays r h p i)

  -- at line i
  pub record At (count i : ℕ) : Type 0 where
    pub rest : (s : State) → Holds m s → whole s ≡ after count (left s i)
    pub few : count ≤ i * most

  low : (w : Whole m) → height w.0.tree < most_room
  low w = omega (arith, height_size w.0.tree, w.1.within, (in_bounds_lem w.0.settings w.1.bounds).room)

  pub searchable : Whole m → (ws : List ℕ) → longest_way ≤ length ws → Searchable m root_seat ws
  searchable w ws l =
      (w.0.tree, w.2.stands, height_few w.0.tree w.1.balanced (omega (arith, w.1.within, (in_bounds_lem w.0.settings w.1.bounds).room)), l)

  -- the other way, in a link whose keys rise
  pub foresees : Whole m → (us : List ℕ) (b : ℕ) (x : Found) → Ahead m root_seat ((b + h) * per_tick) x.ahead.deep x.ahead.after us
      → Serves m root_seat ((b + h) * per_tick) x.ahead.after x.ahead.deep us
  foresees w us b x A = A w.0.tree 0 most_key w.2.stands w.1.ordered (omega arith)

  -- x is what is found at the start b
  abbrev pub Finds : (b : ℕ) → Found → Type 0
  Finds b x = (t : Tree) → Stands m root_seat t → x ≡ found_of x (published b (b + h) t)

  is : (s : State) → Holds m s → (b : ℕ) (x : Found) → Finds b x → x ≡ found_of x (published b (b + h) s.tree)
  is s H b x g = g s.tree H.stands

  pub few_visits : Whole m → (b : ℕ) (x : Found) → Finds b x → x.visits ≤ most
  few_visits w b x g =
      let t = w.0.tree in
      omega (arith, found_visits x x (published b (b + h) t) (is w.0 w.2 b x g), search_visits b (b + h) t, low w)

  -- the undelayed start is the first, and is tried
  pub first : At 0 0
  first = record { rest = λ s H. simp zero-add; few = omega arith }

  pub undelayed : r + h ≤ last_moment → StartsOn 0 r h p (Some r) m
  undelayed l = ((λ s H. refl), l)

  lines_are : (s : State) → Holds m s → word m 2 ≡ length s.settings.delays
  lines_are s H = H.heads 2 (omega arith)

  pub few_lines : Whole m → word m 2 ≤ most_lines
  few_lines w = omega (arith, w.2.lines, lines_are w.0 w.2)

  -- a later line's
  module _ (w : Whole m) (i : ℕ) (li : i < word m 2) (d : ℕ) (ed : d ≡ word m (8 + i)) where
    delay_is : (s : State) → Holds m s → d ≡ get_or s.settings.delays i 0
    delay_is s H = ed ∙ ap (word m) (eight i) ∙ H.heads (suc (suc (suc (suc (suc (suc (suc (suc i)))))))) (omega (arith, few_lines w)) ∙ padded_at 20 s.settings.delays i (omega (arith, few_lines w))

    pub short_delay : d ≤ longest
    short_delay = omega (arith, delay_is w.0 w.2, rising_at 0 w.0.settings.delays (in_bounds_lem w.0.settings w.1.bounds).delays i)

    split : (s : State) → Holds m s → drop i s.settings.delays ≡ d ∷ drop (suc i) s.settings.delays
    split s H = drop-cons s.settings.delays i 0 (omega (arith, lines_are s H)) ∙ (rw (← delay_is s H))

    delayed_is : (a : Bool) → a ≡ tried r h p i d → StartsOn (suc i) r h p (pick a (Some (r + d)) None) m
    delayed_is true e = ((λ s H. rw (split s H, sym e)), tried_low r h p i d (sym e))
    delayed_is false e = ((λ s H. rw (split s H, sym e)), tt)

    pub delayed_by : (line : ℕ) → suc i ≡ line → (a : Bool) → a ≡ tried r h p i d → StartsOn line r h p (pick a (Some (r + d)) None) m
    delayed_by line e a q = subst (λ z. StartsOn z r h p (pick a (Some (r + d)) None) m) e (delayed_is a q)

  -- ---- at a line, whose start is o
  module _ (count i : ℕ) (A : At count i) where
    module _ (o : Option ℕ) (S : StartsOn i r h p o m) where
      pub skipped : o ≡ None → At count (i + 1)
      skipped e =
          record {
            rest = λ s H.
                let q : starts_from s.settings.delays r h p i ≡ starts_from s.settings.delays r h p (suc i) = rw e at (S.0 s H) in
                rw add-one (rw q at (A.rest s H));
            few = omega (arith, A.few);
          }

      module _ (b : ℕ) (e : o ≡ Some b) where
        pub early : b + h ≤ last_moment
        early = rw e at S.1

        module _ (x : Found) (g : Finds b x) where
          here : (s : State) → Holds m s → let z = published b (b + h) s.tree in whole s ≡ after count (try_next (record { line = i; moment = b }) z.out z.visits (left s (suc i)))
          here s H =
              let q : starts_from s.settings.delays r h p i ≡ record { line = i; moment = b } ∷ starts_from s.settings.delays r h p (suc i) = rw e at (S.0 s H) in
              rw q at (A.rest s H)

          pub taken_here : (l : Leaf) → x.leaf ≡ Some l → (s : State) → Holds m s
              → let t : Tried = record { taken = Some (record { line = i; start = b; leaf = l; ahead = x.ahead }); count = count + x.visits } in
              t ≡ taken_of t (whole s)
          taken_here l y s H = rw (here s H) (fit x (published b (b + h) s.tree) (is s H b x g) count (record { line = i; moment = b }) (left s (suc i)) l y)

          pub missed : Whole m → x.leaf ≡ None → At (count + x.visits) (i + 1)
          missed w y =
              record {
                rest = λ s H. rw add-one (here s H ∙ past x (published b (b + h) s.tree) (is s H b x g) count (record { line = i; moment = b }) (left s (suc i)) y);
                few = omega (arith, A.few, few_visits w b x g);
              }

  -- after the last line
  pub nowhere_left : (count i : ℕ) → At count (i + 1) → i ≡ word m 2 → (s : State) → Holds m s → let t : Tried = record { taken = None; count = count } in t ≡ taken_of t (whole s)
  nowhere_left count i A l s H =
      let e : drop i s.settings.delays ≡ [] = drop_of_length-le s.settings.delays {i = i} (omega (arith, l, lines_are s H)) in
      let a : whole s ≡ after count (left s (suc i)) = rw add-one at (A.rest s H) in
      let z : whole s ≡ after count (seek s.tree h (delayed r h p i [])) = rw e at a in
      let n : count ≡ count + 0 = omega arith in
      rw z (rw (← n))
