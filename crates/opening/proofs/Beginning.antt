-- One channel, written into memory of any content: delays, header, leaf, spare places.
use mathlib.Core.Path.{◌≡◌, refl, sym, ◌∙◌}
use mathlib.Core.Logic.{inr}
use mathlib.Core.List.{List, [], ◌∷◌}
use Prim.Native.Nat.{ℕ, zero, suc, ◌+◌, ◌-◌, ◌^◌, ◌≤◌, ◌<◌}
use native.Mathlib.Numerals.{add-one}
use native.Mathlib.Decide.{ℕ_discrete}
use native.Mathlib.Omega.{arith}
use lib.ListN.{length, get_or, set, length-set}
use lib.Seq.{get_or-set_same, set-set}
use Rattle.numbers.specs.Words.{word, store}
use Rattle.numbers.proofs.WordLaws.{word_other, word_same, byte_other, length_store}
use Rattle.rule.specs.Moments.{open_end}
use Rattle.rule.specs.Settings.{Settings, most_room, most_lines}
use Rattle.rule.specs.Key.{key_of}
use Rattle.shape.specs.Tree.{leaf, same}
use Rattle.shape.specs.PlaceLaws.{same_other, same_most}
use Rattle.node.specs.Layout.{root_seat, Saved, leaf_node}
use Rattle.node.proofs.Frames.{word_kept}
use Rattle.node.proofs.Reps.{leaf_stands}
use Rattle.state.specs.State.{first, places}
use Rattle.state.specs.Sound.{among, below}
use Rattle.state.specs.Open.{up_from, single}
use Rattle.state.specs.OpenLaws.{length_up}
use Rattle.memory.specs.Header.{padded, Heads, need}
use Rattle.memory.specs.Holds.{Spares, Gives, Past, After}
use Rattle.memory.specs.Part.{Part}
use Rattle.memory.proofs.Parts.{below_is, past_then, past_kept, heads_put, part_give, padded_at, length_padded, closed}
use Rattle.opening.specs.Stages.{Tail, bare_header, Draft, Laid}

-- ---- a word of the header is before all nodes
past_header : (m : List ℕ) (i v : ℕ) → i < 28 → Past 224 m (store m i v)
past_header m i v h = record { len = length_store m i v; byte = λ b l. byte_other m i v b (inr (omega arith)) }

-- ---- the delays
pub tail_step : (ds m m1 m2 : List ℕ) (k v : ℕ) → 224 ≤ length m → k < 20 → v < 2 ^ 64 → v ≡ get_or ds k 0 → Tail k ds m m1 → m2 ≡ store m1 (8 + k) v → Tail (k + 1) ds m m2
tail_step ds m m1 m2 k v long lk lv ev t e =
    rw e (record {
      words = λ i l. elim (ℕ_discrete i k) [
        | yes q ↦ rw q (word_same m1 (8 + k) v (omega (arith, t.past.len)) lv ∙ ev)
        | no d ↦ word_other m1 (8 + k) v (8 + i) (omega arith) ∙ t.words i (omega arith)
      ];
      past = past_then t.past (past_header m1 (8 + k) v (omega arith));
    })

-- ---- the header
heads_tail : (ds m : List ℕ) → ((i : ℕ) → i < 20 → word m (8 + i) ≡ get_or ds i 0)
    → Heads m (word m 0 ∷ word m 1 ∷ word m 2 ∷ word m 3 ∷ word m 4 ∷ word m 5 ∷ word m 6 ∷ word m 7 ∷ padded 20 ds)
heads_tail ds m f zero l = refl
heads_tail ds m f (suc zero) l = refl
heads_tail ds m f (suc (suc zero)) l = refl
heads_tail ds m f (suc (suc (suc zero))) l = refl
heads_tail ds m f (suc (suc (suc (suc zero)))) l = refl
heads_tail ds m f (suc (suc (suc (suc (suc zero))))) l = refl
heads_tail ds m f (suc (suc (suc (suc (suc (suc zero)))))) l = refl
heads_tail ds m f (suc (suc (suc (suc (suc (suc (suc zero))))))) l = refl
heads_tail ds m f (suc (suc (suc (suc (suc (suc (suc (suc i)))))))) l =
    let e : 8 + i ≡ suc (suc (suc (suc (suc (suc (suc (suc i))))))) = omega arith in
    (rw e at (f i (omega arith))) ∙ sym (padded_at 20 ds i (omega arith))

drafted : (ds m m1 : List ℕ) → 224 ≤ length m → Tail 20 ds m m1
    → Draft (word m1 0 ∷ word m1 1 ∷ word m1 2 ∷ word m1 3 ∷ word m1 4 ∷ word m1 5 ∷ word m1 6 ∷ word m1 7 ∷ padded 20 ds) m m1
drafted ds m m1 long t =
    record {
      long = omega (arith, t.past.len);
      wide = omega (arith, length_padded 20 ds);
      heads = heads_tail ds m1 t.words;
      past = t.past;
    }

draft_put : (h m m1 m2 : List ℕ) (i v : ℕ) → i < 28 → v < 2 ^ 64 → m2 ≡ store m1 i v → Draft h m m1 → Draft (set h i v) m m2
draft_put h m m1 m2 i v li lv e d =
    rw e (record {
      long = omega (arith, d.long, length_store m1 i v);
      wide = length-set h i v ∙ d.wide;
      heads = heads_put m1 h i v d.long d.wide li lv d.heads;
      past = past_then d.past (past_header m1 i v li);
    })

module _ (m m1 m2 m3 m4 m5 m6 m7 m8 m9 : List ℕ) (g : Settings) (lines floor : ℕ) where
  pub headed : 224 ≤ length m → g.room < 2 ^ 64 → g.leap < 2 ^ 64 → floor < 2 ^ 64 → lines ≡ length g.delays → lines < 2 ^ 64 → Tail 20 g.delays m m1
      → m2 ≡ store m1 0 g.room → m3 ≡ store m2 1 1 → m4 ≡ store m3 2 lines → m5 ≡ store m4 3 g.leap → m6 ≡ store m5 4 floor
      → m7 ≡ store m6 5 0 → m8 ≡ store m7 6 1 → m9 ≡ store m8 7 0 → Draft (bare_header g floor) m m9
  headed long lr ll lf el ln t e2 e3 e4 e5 e6 e7 e8 e9 =
      let d1 = drafted g.delays m m1 long t in
      let d2 = draft_put _ m m1 m2 0 g.room (omega arith) lr e2 d1 in
      let d3 = draft_put _ m m2 m3 1 1 (omega arith) (omega arith) e3 d2 in
      let d4 = draft_put _ m m3 m4 2 lines (omega arith) ln e4 d3 in
      let d5 = draft_put _ m m4 m5 3 g.leap (omega arith) ll e5 d4 in
      let d6 = draft_put _ m m5 m6 4 floor (omega arith) lf e6 d5 in
      let d7 = draft_put _ m m6 m7 5 0 (omega arith) (omega arith) e7 d6 in
      let d8 = draft_put _ m m7 m8 6 1 (omega arith) (omega arith) e8 d7 in
      rw (← el) (draft_put _ m m8 m9 7 0 (omega arith) (omega arith) e9 d8)

-- ---- the spare places
among_before : (p n z : ℕ) → z < p → among z (up_from p n) ≡ 0
among_before p zero z h = refl
among_before p (suc n) z h = omega (arith, same_other z p (omega arith), among_before (p + 1) n z (omega arith))

up_step : (n k : ℕ) → k < n → up_from (n + 1 - (k + 1)) (k + 1) ≡ (n - k) ∷ up_from (n + 1 - k) k
up_step n k h =
    let a : n + 1 - (k + 1) ≡ n - k = omega arith in
    let b : n - k + 1 ≡ n + 1 - k = omega arith in
    rw (a, add-one k, b)

pub laid_step : (m m1 m2 : List ℕ) (n k : ℕ) → k < n → Laid n k m m1 → Gives (n - k) k m1 m2 → Laid n (k + 1) m m2
laid_step m m1 m2 n k l L s m0 h t P e f =
    let ps = up_from (n + 1 - k) k in
    let Q = L m0 h t P e f in
    let g = get_or-set_same h 7 (first ps) 0 (omega (arith, P.wide)) in
    let R = part_give m0 m1 (n + 1) (set h 7 (first ps)) t ps Q (n - k) (omega arith) (omega arith) m2 k (sym (length_up (n + 1 - k) k)) g
    (omega (arith, f (n - k) (omega arith), among_before (n + 1 - k) k (n - k) (omega arith))) s in
    rw (up_step n k l) (rw (set-set h 7 (first ps) (n - k)) at R)

-- the header's first spare place is a place
pub laid_low : (m1 m2 : List ℕ) (p k : ℕ) → 64 ≤ length m1 → p < 65536 → Gives p k m1 m2 → word m2 7 < 65536
laid_low m1 m2 p k h l s = omega (arith, word_kept _ _ m2 s.kept 7 (omega arith), word_same m1 7 p (omega arith) (omega arith))

pub laid_end : (m m1 : List ℕ) (n k : ℕ) → k ≤ n → n ≤ k → Laid n k m m1 → Laid n n m m1
laid_end m m1 n k a b L = let e : k ≡ n = omega arith in rw e at L

-- ---- the whole
module _ (m m1 m2 : List ℕ) (g : Settings) (floor : ℕ) (long : need g.room ≤ length m) (small : g.room ≤ most_room) (d : Draft (bare_header g floor) m m1)
    (key : ℕ) (ek : key ≡ key_of floor 0) (s : Saved root_seat (leaf_node key open_end) m1 m2) where
  abbrev h : List ℕ
  h = bare_header g floor

  wider : Past (need g.room) m m1
  wider = record { len = d.past.len; byte = λ b l. d.past.byte b (omega arith) }

  alone : (z : ℕ) → same z 0 + 0 + 0 ≤ below z (places g.room)
  alone z = elim (ℕ_discrete z 0) [
    | yes e ↦ rw e (omega (arith, same_most 0 0, below_is 0 (places g.room) (omega arith)))
    | no e ↦ omega (arith, same_other z 0 e)
  ]

  part_2 : Part m m2 (places g.room) h (leaf (key_of floor 0) open_end) []
  unfolding Spares
  part_2 =
      record {
        small = omega arith;
        long = omega (arith, s.kept.len, d.past.len);
        wide = d.wide;
        heads = λ j l. word_kept _ m1 m2 s.kept j l ∙ d.heads j l;
        stands = rw (← ek) (leaf_stands (omega (arith, d.past.len)) s);
        spare = tt;
        once = alone;
        past = past_then wider (past_kept _ m1 m2 (places g.room) s.kept (λ z l. same_other z root_seat (omega arith)));
      }

  pub lay_pre : (need g.room ≤ length m2) × (g.room < 8192) × (word m2 7 < 65536)
  lay_pre = omega (arith, part_2.long, part_2.heads 7 (omega arith))

  pub begun : (m3 : List ℕ) → length g.delays ≤ most_lines → Laid g.room g.room m2 m3 → After m m3 (single g floor)
  begun m3 few L =
      let e : g.room + 1 - g.room ≡ 1 = omega arith in
      let P = rw e at (L m h (leaf (key_of floor 0) open_end) part_2 refl (λ z l. refl)) in
      closed m m3 (single g floor) few P
