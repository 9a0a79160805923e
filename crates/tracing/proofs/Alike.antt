-- Two trees alike: the same keys at the same places, whatever their ends. A way in one memory is a way in another where the trees are alike: so a way
-- that was noted serves on after an end was set.
use mathlib.Core.Path.{◌≡◌, refl, sym, ap, ◌∙◌}
use mathlib.Core.Logic.{inl, inr}
use mathlib.Core.Bool.{Bool, true, false}
use mathlib.Core.List.{List}
use Prim.Native.Nat.{ℕ, zero, suc, ◌+◌, ◌*◌, ◌≤◌}
use native.Mathlib.Omega.{arith}
use lib.Dec.{ltb}
use lib.ListN.{get_or}
use Rattle.numbers.specs.Case.{case_le}
use Rattle.shape.specs.Tree.{Tree, leaf, node, height, lo}
use Rattle.shape.specs.Side.{near}
use Rattle.shape.specs.Arrange.{set_end}
use Rattle.node.specs.Layout.{node_at}
use Rattle.node.specs.Rep.{Stands}
use Rattle.node.proofs.Reps.{tall}
use Rattle.node.proofs.Seats.{near_of, far_of, children}
use Rattle.tracing.specs.Ways.{Leads, Way}

abbrev pub Alike : (t u : Tree) → Type 0
Alike (leaf k e) (leaf j f) = k ≡ j
Alike (leaf k e) (node q l r) = ⊥
Alike (node p l r) (leaf j f) = ⊥
Alike (node p l r) (node q l' r') = (p ≡ q) × Alike l l' × Alike r r'

pub alike_self : (t : Tree) → Alike t t
alike_self (leaf k e) = refl
alike_self (node p l r) = (refl, alike_self l, alike_self r)

pub alike_set : (k f : ℕ) (t : Tree) → Alike t (set_end k f t)
unfolding set_end
alike_set k f (leaf j e) = refl
alike_set k f (node p l r) = elim (case_le (lo r) k) [
  | inl y ↦ rw y.1 (refl, alike_self l, alike_set k f r)
  | inr y ↦ rw y.1 (refl, alike_set k f l, alike_self r)
]

alike_lo : (t u : Tree) → Alike t u → lo t ≡ lo u
alike_lo (leaf k e) (leaf j f) a = a
alike_lo (leaf k e) (node q l r) a = absurd a
alike_lo (node p l r) (leaf j f) a = absurd a
alike_lo (node p l r) (node q l' r') a = alike_lo l l' a.1

alike_height : (t u : Tree) → Alike t u → height t ≡ height u
alike_height (leaf k e) (leaf j f) a = refl
alike_height (leaf k e) (node q l r) a = absurd a
alike_height (node p l r) (leaf j f) a = absurd a
alike_height (node p l r) (node q l' r') a = omega (arith, alike_height l l' a.1, alike_height r r' a.2)

alike_near : (s : Bool) (l r l' r' : Tree) → Alike l l' → Alike r r' → Alike (near s l r) (near s l' r')
alike_near true l r l' r' a b = a
alike_near false l r l' r' a b = b

-- what stands at a seat in both memories
record Both (m m' : List ℕ) (s : ℕ) : Type 0 where
  one : Tree
  other : Tree
  at_one : Stands m s one
  at_other : Stands m' s other
  alike : Alike one other

-- a step down, in both
record Stepped (m m' : List ℕ) (k w x : ℕ) : Type 0 where
  leads : Leads m' k w x
  below : Both m m' x

module _ (m m' : List ℕ) (k w x : ℕ) (L : Leads m k w x) where
  step : (t u : Tree) → Stands m w t → Stands m' w u → Alike t u → Stepped m m' k w x
  step (leaf j e) u f g a = absurd (L.inner (tall f))
  step (node p l r) (leaf j e) f g a = absurd a
  step (node p l r) (node q l' r') f g a =
      let n = node_at m w in
      let n' = node_at m' w in
      let s = ltb k (node_at m (n.place + 4)).lo in
      let c = children m w n refl s x (far_of s n.place) p l r L.to refl f in
      let d = children m' w n' refl true (near_of true n'.place) (far_of true n'.place) q l' r' refl refl g in
      let e : n'.place ≡ n.place = d.at ∙ (ap (λ (z : ℕ). 8 * z) (sym a.0) ∙ sym c.at) in
      let v : (node_at m' (n'.place + 4)).lo ≡ (node_at m (n.place + 4)).lo = d.split ∙ (sym (alike_lo r r' a.2) ∙ sym c.split) in
      let to : x ≡ near_of s n'.place = rw e L.to in
      let c' = children m' w n' refl s x (far_of s n'.place) q l' r' to refl g in
      record {
        leads = record {
          inner = λ z. L.inner (tall f ∙ (alike_height (node p l r) (node q l' r') a ∙ (sym (tall g) ∙ z)));
          to = rw (v, e) L.to;
        };
        below = record { one = near s l r; other = near s l' r'; at_one = c.near_at; at_other = c'.near_at; alike = alike_near s l r l' r' a.1 a.2 };
      }

module _ (m m' : List ℕ) (t k d : ℕ) (ws : List ℕ) (W : Way m t k d ws) (tr tr' : Tree) (f : Stands m t tr) (g : Stands m' t tr') (a : Alike tr tr') where
  at : (i : ℕ) → i ≤ d → Both m m' (get_or ws i 0)
  at zero h = rw W.first (record { one = tr; other = tr'; at_one = f; at_other = g; alike = a })
  at (suc i) h =
      let B = at i (omega arith) in
      (step m m' k _ _ (W.leads i (omega arith)) B.one B.other B.at_one B.at_other B.alike).below

  pub way_alike : Way m' t k d ws
  way_alike =
      let E = at d (omega arith) in
      record {
        long = W.long;
        short = W.short;
        first = W.first;
        leads = λ i l. (let B = at i (omega arith) in (step m m' k _ _ (W.leads i l) B.one B.other B.at_one B.at_other B.alike).leads);
        last = tall E.at_other ∙ (sym (alike_height E.one E.other E.alike) ∙ (sym (tall E.at_one) ∙ W.last));
      }
