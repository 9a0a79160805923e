-- The ends that a survey carries along: one more than the last end of each channel. By them the voids of a channel are
-- apart, and each channel has its open end, exactly if the survey says so.
use mathlib.Core.Path.{◌≡◌, refl, sym, ap, ◌∙◌}
use mathlib.Core.Logic.{◌⊎◌, inl, inr}
use mathlib.Core.List.{List}
use Prim.Native.Nat.{ℕ, ◌+◌, ◌≤◌, ◌<◌}
use native.Mathlib.Omega.{arith}
use lib.ListN.{length, get_or, length-set}
use lib.Seq.{get_or-set_same, get_or-set_other}
use Rattle.numbers.specs.Case.{case_eq}
use Rattle.rule.specs.Moments.{open_end}
use Rattle.rule.specs.Key.{start_of, channel_of}
use Rattle.shape.specs.Tree.{Tree, leaf, node, lo, Ord, Balanced, In, All}
use Rattle.shape.specs.TreeLaws.{all_in, in_ord}
use Rattle.state.specs.Sound.{Lawful, Apart, OpenEnd}
use Rattle.survey.specs.Survey.{next, run, Good}
use Rattle.survey.proofs.Ordering.{after_left, good_ord, good_lawful}

pub run_length : (x : List ℕ) (t : Tree) → length (run x t) ≡ length x
unfolding run
run_length x (leaf k e) = length-set x (channel_of k) (e + 1)
run_length x (node p l r) = run_length (run x l) r ∙ run_length x l

-- a leaf of the channel c, whose end is one below what the ends have
record Last (t : Tree) (c v : ℕ) : Type 0 where
  key : ℕ
  end : ℕ
  inside : In key end t
  channel : channel_of key ≡ c
  is : v ≡ end + 1

module _ (c f : ℕ) where
  abbrev Lawfuls : Tree → Type 0
  Lawfuls t = All (λ k e. Lawful c f k e) t

  -- where an end comes from
  source : (x : List ℕ) (t : Tree) (d : ℕ) → c ≤ length x → Lawfuls t → (get_or (run x t) d 0 ≡ get_or x d 0) ⊎ Last t d (get_or (run x t) d 0)
  unfolding run
  source x (leaf k e) d n h = elim (case_eq d (channel_of k)) [
    | inl y ↦ inr (record { key = k; end = e; inside = (refl, refl); channel = sym y.0; is = rw y.0 (get_or-set_same x (channel_of k) (e + 1) 0 (omega (arith, h.channel))) })
    | inr y ↦ inl (get_or-set_other x (channel_of k) d (e + 1) 0 y.0)
  ]
  source x (node p l r) d n h = elim (source (run x l) r d (omega (arith, run_length x l)) h.1) [
    | inr y ↦ inr (record { key = y.key; end = y.end; inside = inr y.inside; channel = y.channel; is = y.is })
    | inl y ↦ elim (source x l d n h.0) [
      | inl z ↦ inl (y ∙ z)
      | inr z ↦ inr (record { key = z.key; end = z.end; inside = inl z.inside; channel = z.channel; is = y ∙ z.is })
    ]
  ]

  -- an end never falls
  grows : (a : ℕ) (x : List ℕ) (t : Tree) (d : ℕ) → c ≤ length x → Good c f a x t → get_or x d 0 ≤ get_or (run x t) d 0
  unfolding run Good
  grows a x (leaf k e) d n g = elim (case_eq d (channel_of k)) [
    | inl y ↦ rw y.0 (omega (arith, get_or-set_same x (channel_of k) (e + 1) 0 (omega (arith, g.lawful.channel)), g.lawful.some, g.apart))
    | inr y ↦ omega (arith, get_or-set_other x (channel_of k) d (e + 1) 0 y.0)
  ]
  grows a x (node p l r) d n g = omega (arith, grows a x l d n g.0, grows (next l) (run x l) r d (omega (arith, run_length x l)) g.1)

  -- after a tree, the end of a leaf's channel is past that leaf
  reach : (a : ℕ) (x : List ℕ) (t : Tree) (k e : ℕ) → c ≤ length x → Good c f a x t → In k e t → e + 1 ≤ get_or (run x t) (channel_of k) 0
  unfolding run Good
  reach a x (leaf i g) k e n h j = rw (j.0, j.1) (omega (arith, get_or-set_same x (channel_of i) (g + 1) 0 (omega (arith, h.lawful.channel))))
  reach a x (node q l r) k e n h (inl j) = omega (arith, reach a x l k e n h.0 j, grows (next l) (run x l) r (channel_of k) (omega (arith, run_length x l)) h.1)
  reach a x (node q l r) k e n h (inr j) = reach (next l) (run x l) r k e (omega (arith, run_length x l)) h.1 j

  -- before it, the end of a leaf's channel is at or before that leaf's start
  free : (a : ℕ) (x : List ℕ) (t : Tree) (k e : ℕ) → c ≤ length x → Good c f a x t → In k e t → get_or x (channel_of k) 0 ≤ start_of k
  unfolding run Good
  free a x (leaf i g) k e n h j = rw j.0 h.apart
  free a x (node q l r) k e n h (inl j) = free a x l k e n h.0 j
  free a x (node q l r) k e n h (inr j) = omega (arith, grows a x l (channel_of k) n h.0, free (next l) (run x l) r k e (omega (arith, run_length x l)) h.1 j)

  pub good_apart : (a : ℕ) (x : List ℕ) (t : Tree) → c ≤ length x → Good c f a x t → Apart t
  unfolding Good
  good_apart a x (leaf i g) n h k e k' e' j j' s lt = absurd (omega (arith, j.0, j'.0))
  good_apart a x (node q l r) n h k e k' e' (inl j) (inl j') s lt = good_apart a x l n h.0 k e k' e' j j' s lt
  good_apart a x (node q l r) n h k e k' e' (inr j) (inr j') s lt = good_apart (next l) (run x l) r (omega (arith, run_length x l)) h.1 k e k' e' j j' s lt
  good_apart a x (node q l r) n h k e k' e' (inl j) (inr j') s lt =
      omega (arith, ap (λ (i : ℕ). get_or (run x l) i 0) s, reach a x l k e n h.0 j, free (next l) (run x l) r k' e' (omega (arith, run_length x l)) h.1 j')
  good_apart a x (node q l r) n h k e k' e' (inr j) (inl j') s lt =
      absurd (omega (arith, in_ord a (next l) l (good_ord c f a x l h.0) k' e' j', in_ord (next l) (next r) r (good_ord c f (next l) (run x l) r h.1) k e j))

  -- and back: a tree with the rules is one that a survey takes
  pub apart_good : (a b : ℕ) (x : List ℕ) (t : Tree) → c ≤ length x → Ord a b t → Balanced t → Lawfuls t → Apart t
      → ((k e : ℕ) → In k e t → get_or x (channel_of k) 0 ≤ start_of k) → Good c f a x t
  unfolding Good
  apart_good a b x (leaf k e) n o v h d z = record { after = o.0; lawful = h; apart = z k e (refl, refl) }
  apart_good a b x (node q l r) n o v h d z = (
    apart_good a (lo r) x l n o.0 v.0 h.0 (λ k e k' e' j j'. d k e k' e' (inl j) (inl j')) (λ k e j. z k e (inl j)),
    apart_good (next l) b (run x l) r (omega (arith, run_length x l)) (after_left a b q l r o) v.1 h.1 (λ k e k' e' j j'. d k e k' e' (inr j) (inr j'))
        (λ k e j. elim (source x l (channel_of k) n h.0) [
          | inl y ↦ omega (arith, y, z k e (inr j))
          | inr y ↦ omega (arith, y.is, d y.key y.end k e (inl y.inside) (inr j) y.channel (omega (arith, in_ord a (lo r) l o.0 y.key y.end y.inside, in_ord (lo r) b r o.1 k e j)))
        ]),
    record { left = v.2; right = v.3 },
  )

  -- ---- the open ends
  pub open_last : (a : ℕ) (x : List ℕ) (t : Tree) → c ≤ length x → ((d : ℕ) → get_or x d 0 ≡ 0) → Good c f a x t
      → ((d : ℕ) → d < c → OpenEnd t d) → (d : ℕ) → d < c → get_or (run x t) d 0 ≡ open_end + 1
  open_last a x t n z g o d lt =
      let w = o d lt in
      let q : open_end + 1 ≤ get_or (run x t) d 0 = rw w.channel at (reach a x t w.key open_end n g w.inside) in
      elim (source x t d n (good_lawful c f a x t g)) [
        | inl y ↦ absurd (omega (arith, y, z d))
        | inr y ↦ omega (arith, y.is, (all_in (λ k e. Lawful c f k e) t (good_lawful c f a x t g) y.key y.end y.inside).most)
      ]

  pub last_open : (x : List ℕ) (t : Tree) → c ≤ length x → ((d : ℕ) → get_or x d 0 ≡ 0) → Lawfuls t
      → ((d : ℕ) → d < c → get_or (run x t) d 0 ≡ open_end + 1) → (d : ℕ) → d < c → OpenEnd t d
  last_open x t n z h o d lt = elim (source x t d n h) [
    | inl y ↦ absurd (omega (arith, y, z d, o d lt))
    | inr y ↦ let q : y.end ≡ open_end = omega (arith, y.is, o d lt) in record { key = y.key; inside = rw q at y.inside; channel = y.channel }
  ]
