-- The voids of a state: as a list, and as the leaves of its tree.
use Rattle.std.specs.Prelude.{◌≡◌, refl, ◌⊎◌, ◌↔◌, List, [], ◌∷◌, ◌++◌, ℕ, ◌+◌, length}
use Rattle.std.proofs.Common.{sym, inl, inr, arith, length-append}
use Rattle.rule.specs.Key.{start_of, channel_of, key_is}
use Rattle.rule.specs.Voids.{Void, Has, Voids}
use Rattle.rule.specs.Fit.{free}
use Rattle.rule.specs.Starts.{Start}
use Rattle.rule.specs.Choice.{NoFit, MinSV, Choice, nothing, taken, Chosen}
use Rattle.rule.specs.Kept.{dropped}
use Rattle.rule.specs.Single.{OneEnd}
use Rattle.rule.specs.Left.{has_left, has_right, has_either}
use Rattle.shape.specs.Tree.{Tree, leaf, node, size, Ord, In}
use Rattle.shape.specs.TreeLaws.{same_key}
use Rattle.shape.specs.Voids.{VoidsIn}
use Rattle.state.specs.State.{voids_of}
use Rattle.state.specs.Act.{to_drop}

module _ (c s e : ℕ) where
  has_in : (t : Tree) → Has (voids_of t) c s e → VoidsIn t c s e
  has_in (leaf k e') (inl h) = record { key = k; inside = (refl, sym h.2); channel = h.0; start = h.1 }
  has_in (leaf k e') (inr h) = absurd h
  has_in (node q l r) h = go (has_in l) (has_in r) (has_either c s e (voids_of l) (voids_of r) h)
    where
      go : (Has (voids_of l) c s e → VoidsIn l c s e) → (Has (voids_of r) c s e → VoidsIn r c s e) → Has (voids_of l) c s e ⊎ Has (voids_of r) c s e → VoidsIn (node q l r) c s e
      go f g (inl x) = let v = f x in record { key = v.key; inside = inl v.inside; channel = v.channel; start = v.start }
      go f g (inr x) = let v = g x in record { key = v.key; inside = inr v.inside; channel = v.channel; start = v.start }

  in_has : (t : Tree) (k : ℕ) → In k e t → channel_of k ≡ c → start_of k ≡ s → Has (voids_of t) c s e
  in_has (leaf k' e') k i q r = inl (omega arith)
  in_has (node m l r) k (inl i) q z = has_left c s e (voids_of l) (voids_of r) (in_has l k i q z)
  in_has (node m l r) k (inr i) q z = has_right c s e (voids_of l) (voids_of r) (in_has r k i q z)

  pub has_voids : (t : Tree) → Has (voids_of t) c s e ↔ VoidsIn t c s e
  has_voids t = (has_in t, (λ v. in_has t v.key v.inside v.channel v.start))

pub length_voids : (t : Tree) → length (voids_of t) ≡ size t
length_voids (leaf k e) = refl
length_voids (node m l r) = omega (arith, length-append (voids_of l) (voids_of r), length_voids l, length_voids r)

dropped_append : (moment : ℕ) (xs ys : List Void) → dropped moment (xs ++ ys) ≡ dropped moment xs + dropped moment ys
dropped_append moment [] ys = omega arith
dropped_append moment (x ∷ xs) ys = omega (arith, dropped_append moment xs ys)

pub dropped_voids : (moment : ℕ) (t : Tree) → dropped moment (voids_of t) ≡ to_drop moment t
dropped_voids moment (leaf k e) = omega arith
dropped_voids moment (node m l r) = omega (arith, dropped_append moment (voids_of l) (voids_of r), dropped_voids moment l, dropped_voids moment r)

-- a channel has at most one void from a moment on, since its key has one leaf
pub one_end : (a b : ℕ) (t : Tree) → Ord a b t → OneEnd (Has (voids_of t))
one_end a b t o c s e e' i j =
    let v = (has_voids c s e t).0 i in
    let w = (has_voids c s e' t).0 j in
    let q : w.key ≡ v.key = omega (arith, key_is v.key, key_is w.key, v.channel, v.start, w.channel, w.start) in
    same_key a b t o v.key e e' v.inside (rw q at w.inside)

-- ---- a choice depends on the set of voids only
module _ (W U : Voids) (f : (c s e : ℕ) → W c s e ↔ U c s e) where
  pub no_fit_as : (r g : ℕ) → NoFit W r g → NoFit U r g
  no_fit_as r g n c s e u = n c s e ((f c s e).1 u)

  pub min_sv_as : (r g c s e : ℕ) → MinSV W r g c s e → MinSV U r g c s e
  min_sv_as r g c s e m = record { void = (f c s e).0 m.void; fits = m.fits; best = λ c' s' e' u. m.best c' s' e' ((f c' s' e').1 u) }

  pub chosen_as : (h : ℕ) (xs : List Start) (o : Choice) → Chosen W h xs o → Chosen U h xs o
  chosen_as h [] nothing a = tt
  chosen_as h [] (taken i r c s e) a = a
  chosen_as h (x ∷ xs) nothing a = (no_fit_as _ _ a.0, chosen_as h xs nothing a.1)
  chosen_as h (x ∷ xs) (taken i r c s e) (inl a) = inl (a.0, a.1, min_sv_as r (free r h) c s e a.2)
  chosen_as h (x ∷ xs) (taken i r c s e) (inr a) = inr (no_fit_as _ _ a.0, chosen_as h xs (taken i r c s e) a.1)
