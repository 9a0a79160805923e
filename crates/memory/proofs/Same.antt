-- One memory, one state; one state, one memory. The state of a link can be read off its words, and a state fixes every byte of
-- the need. `Bytes m` is what lent memory always is.
use mathlib.Core.Path.{◌≡◌, refl, sym, ap, ◌∙◌}
use mathlib.Core.List.{List, [], ◌∷◌}
use Prim.Native.Nat.{ℕ, suc, ◌+◌, ◌*◌, ◌/◌, ◌%◌, ◌≤◌, ◌<◌}
use native.Mathlib.Decide.{dec_lt}
use native.Mathlib.Omega.{arith}
use lib.ListN.{length, get_or}
use lib.Seq.{ext_get_or}
use Rattle.shape.specs.Tree.{uses}
use Rattle.shape.specs.PlaceLaws.{same_is, same_other}
use Rattle.node.specs.declared.Node.{Node}
use Rattle.node.specs.Layout.{root_seat, node_at, seat_of}
use Rattle.node.proofs.Reps.{one_tree}
use Rattle.numbers.specs.Words.{Bytes}
use Rattle.node.proofs.Same.{word_bytes, node_bytes, own_same, stands_same}
use Rattle.state.specs.State.{State, first, places}
use Rattle.state.specs.Sound.{among}
use Rattle.state.specs.Places.{Placed}
use Rattle.memory.specs.Header.{header, need}
use Rattle.memory.specs.Holds.{Spares, Holds, Past, After}
use Rattle.memory.proofs.Parts.{below_is, padded_at}

-- ---- the parts of a state
-- a list of spare places that is threaded, by its first place and its length
spares_one : (ps qs m : List ℕ) → length ps ≡ length qs → first ps ≡ first qs → Spares m ps → Spares m qs → ps ≡ qs
unfolding Spares
spares_one [] [] m e f s s' = refl
spares_one [] (q ∷ qs) m e f s s' = absurd (omega arith)
spares_one (p ∷ ps) [] m e f s s' = absurd (omega arith)
spares_one (p ∷ ps) (q ∷ qs) m e f s s' =
    let g : first ps ≡ first qs = ap (λ (n : Node). n.place) (sym s.0 ∙ ap (λ (y : ℕ). node_at m (8 * y)) f ∙ s'.0) in
    let i : ps ≡ qs = spares_one ps qs m (omega arith) g s.2 s'.2 in
    rw (f, i)

whole : (s : State) → s ≡ record { settings = record { channels = s.settings.channels; delays = s.settings.delays; leap = s.settings.leap; room = s.settings.room }; floor = s.floor; tree = s.tree; spares = s.spares }
whole s = refl

-- a memory holds one state at most
module _ (m : List ℕ) (s s' : State) (H : Holds m s) (p : Placed s) (H' : Holds m s') (p' : Placed s') where
  heads : (j : ℕ) → j < 28 → get_or (header s) j 0 ≡ get_or (header s') j 0
  heads j l = sym (H.heads j l) ∙ H'.heads j l

  delays : s.settings.delays ≡ s'.settings.delays
  delays =
      ext_get_or 0 s.settings.delays s'.settings.delays (heads 2 (omega arith))
      (λ i l. let k : i < 20 = omega (arith, H.lines) in
      sym (padded_at 20 s.settings.delays i k) ∙ heads (suc (suc (suc (suc (suc (suc (suc (suc i)))))))) (omega arith) ∙ padded_at 20 s'.settings.delays i k)

  tree : s.tree ≡ s'.tree
  tree = one_tree H.stands H'.stands

  spares : s.spares ≡ s'.spares
  spares =
      spares_one s.spares s'.spares m
      (omega (arith, p.many, p'.many, heads 0 (omega arith), heads 6 (omega arith))) (heads 7 (omega arith)) H.spare H'.spare

  pub one_link : s ≡ s'
  one_link = whole s ∙ (rw (heads 0 (omega arith), heads 1 (omega arith), heads 3 (omega arith), heads 4 (omega arith), delays, tree, spares))

-- ---- the bytes of a memory
spares_same : (ps m m' : List ℕ) (z : ℕ) → z % 4 ≡ 0 → Spares m ps → Spares m' ps → 1 ≤ among (z / 8) ps → node_at m z ≡ node_at m' z
unfolding Spares
spares_same [] m m' z v s s' h = absurd (omega arith)
spares_same (p ∷ ps) m m' z v s s' h = elim (dec_lt 0 (among (z / 8) ps)) [
  | yes y ↦ spares_same ps m m' z v s.2 s'.2 y
  | no y ↦ let g : z / 8 ≡ p = same_is (z / 8) p (omega arith) in elim (dec_lt (8 * p) z) [
    | yes l ↦ let e : z ≡ 8 * p + 4 = omega arith in rw e (s.1 ∙ sym s'.1)
    | no l ↦ let e : z ≡ 8 * p = omega arith in rw e (s.0 ∙ sym s'.0)
  ]
]

-- two memories that hold one state, and agree past its need, are equal
module _ (m m' : List ℕ) (s : State) (p : Placed s) (x : Bytes m) (y : Bytes m') (H : Holds m s) (H' : Holds m' s) where
  node_same : (z : ℕ) → z % 4 ≡ 0 → 4 ≤ z → z / 8 < places s.settings.room → node_at m z ≡ node_at m' z
  node_same z v o l = elim (dec_lt z 8) [
    | yes r ↦ let e : z ≡ root_seat = omega arith in rw e (own_same s.tree m m' root_seat H.stands H'.stands)
    | no r ↦ elim (dec_lt 0 (uses (z / 8) s.tree)) [
      | yes u ↦ stands_same s.tree m m' root_seat z v H.stands H'.stands u
      | no u ↦ spares_same s.spares m m' z v H.spare H'.spare
          (omega (arith, p.all (z / 8), below_is (z / 8) (places s.settings.room) l, same_other (z / 8) 0 (omega arith)))
    ]
  ]

  pub determined : Past (need s.settings.room) m m' → m ≡ m'
  determined f =
      ext_get_or 0 m m' (sym f.len) (λ b l. elim (dec_lt b 224) [
        | yes h ↦ word_bytes m m' x y b (H.heads (b / 8) (omega arith) ∙ sym (H'.heads (b / 8) (omega arith)))
        | no h ↦ elim (dec_lt b (need s.settings.room)) [
          | yes u ↦ node_bytes m m' x y b (omega arith) (node_same (seat_of b) (omega arith) (omega arith) (omega arith))
          | no u ↦ sym (f.byte b (omega arith))
        ]
      ])

-- so what a step promises leaves one memory
pub one_after : (m m' m'' : List ℕ) (s : State) → Placed s → Bytes m' → Bytes m'' → After m m' s → After m m'' s → m' ≡ m''
one_after m m' m'' s p x y a b =
    determined m' m'' s p x y a.holds b.holds
    (record { len = b.past.len ∙ sym a.past.len; byte = λ j l. b.past.byte j l ∙ sym (a.past.byte j l) })
