-- Lists of voids without repeats: a tree's list is one, and what the history makes of a link is one link, with one number of voids.
-- 01, What comes back: "tell the number of voids kept, with code 0".
use Rattle.std.specs.Prelude.{◌≡◌, refl, ◌⊎◌, List, [], ◌∷◌, ◌++◌, ℕ, suc, ◌≤◌, length}
use Rattle.std.proofs.Common.{sym, ◌∙◌, inl, inr, arith}
use Rattle.rule.specs.Settings.{Settings}
use Rattle.rule.specs.Key.{key_is}
use Rattle.rule.specs.Voids.{Void, Has, Meaning, Same}
use Rattle.shape.specs.Tree.{Tree, leaf, node, Ord}
use Rattle.shape.specs.TreeLaws.{in_ord}
use Rattle.state.specs.State.{voids_of}
use Rattle.state.specs.VoidLaws.{has_voids}
use Rattle.state.specs.History.{Event}
use Rattle.grounds.specs.Right.{Once, Means}

-- ---- a tree lists no void twice
not_joined : (c s e : ℕ) (xs ys : List Void) → ¬ (Has xs c s e) → ¬ (Has ys c s e) → ¬ (Has (xs ++ ys) c s e)
not_joined c s e [] ys a b h = b h
not_joined c s e (x ∷ xs) ys a b (inl h) = a (inl h)
not_joined c s e (x ∷ xs) ys a b (inr h) = not_joined c s e xs ys (λ i. a (inr i)) b h

once_joined : (xs ys : List Void) → Once xs → Once ys → ((c s e : ℕ) → Has xs c s e → ¬ (Has ys c s e)) → Once (xs ++ ys)
once_joined [] ys a b d = b
once_joined (x ∷ xs) ys a b d = (
  not_joined x.channel x.start x.end xs ys a.0 (d x.channel x.start x.end (inl (refl, refl, refl))),
  once_joined xs ys a.1 b (λ c s e i. d c s e (inr i)),
)

pub once_voids : (a b : ℕ) (t : Tree) → Ord a b t → Once (voids_of t)
once_voids a b (leaf k e) o = ((λ h. h), tt)
once_voids a b (node p l r) o = once_joined (voids_of l) (voids_of r) (once_voids _ _ l o.0) (once_voids _ _ r o.1) (λ c s e i j.
    let v = (has_voids c s e l).0 i in
    let w = (has_voids c s e r).0 j in
    omega (arith, key_is v.key, key_is w.key, v.channel, v.start, w.channel, w.start, in_ord _ _ l o.0 _ _ v.inside, in_ord _ _ r o.1 _ _ w.inside))

-- ---- a list without a void that it has
record Without (x : Void) (ys : List Void) : Type 0 where
  rest : List Void
  shorter : length ys ≡ suc (length rest)
  others : (c s e : ℕ) → Has ys c s e → ((x.channel ≡ c) × (x.start ≡ s) × (x.end ≡ e)) ⊎ Has rest c s e

without : (x : Void) (ys : List Void) → Has ys x.channel x.start x.end → Without x ys
without x [] h = absurd h
without x (y ∷ ys) (inl h) = record {
  rest = ys;
  shorter = refl;
  others = λ c s e i. elim i [ inl k ↦ inl (sym h.0 ∙ k.0, sym h.1 ∙ k.1, sym h.2 ∙ k.2) | inr k ↦ inr k ];
}
without x (y ∷ ys) (inr h) =
    let W = without x ys h in
    record {
      rest = y ∷ W.rest;
      shorter = omega (arith, W.shorter);
      others = λ c s e i. elim i [ inl k ↦ inr (inl k) | inr k ↦ elim (W.others c s e k) [ inl j ↦ inl j | inr j ↦ inr (inr j) ] ];
    }

-- a list without repeats is no longer than one that has all its voids
pub once_most : (xs ys : List Void) → Once xs → ((c s e : ℕ) → Has xs c s e → Has ys c s e) → length xs ≤ length ys
once_most [] ys a f = omega arith
once_most (x ∷ xs) ys a f =
    let W = without x ys (f x.channel x.start x.end (inl (refl, refl, refl))) in
    omega (
      arith,
      W.shorter,
      once_most xs W.rest a.1 (λ c s e i. elim (W.others c s e (f c s e (inr i))) [
        | inl k ↦ absurd (a.0 (rw (k.0, k.1, k.2) i))
        | inr k ↦ k
      ]),
    )

-- what a history makes of a link is fixed: its voids, and their number
pub means_one : (g : Settings) (F : ℕ) (past : List Event) (M N : Meaning) → Means g F past M → Means g F past N → Same M N × (length M.voids ≡ length N.voids)
means_one g F past M N A B =
    let there : (c s e : ℕ) → Has M.voids c s e → Has N.voids c s e = λ c s e i. (B.gaps c s e).1 ((A.gaps c s e).0 i) in
    let back : (c s e : ℕ) → Has N.voids c s e → Has M.voids c s e = λ c s e i. (A.gaps c s e).1 ((B.gaps c s e).0 i) in (
      record { settings = B.settings ∙ sym A.settings; floor = B.floor ∙ sym A.floor; voids = λ c s e. (back c s e, there c s e) },
      omega (arith, once_most M.voids N.voids A.once there, once_most N.voids M.voids B.once back),
    )
