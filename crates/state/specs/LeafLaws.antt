-- A leaf by its weight: a leaf is in a tree if, and only if, its mark weighs something there.
-- So laws that give weights give the leaves too.
use Rattle.std.specs.Prelude.{◌≡◌, refl, ◌≢◌, true, ℕ, ◌≤◌, eqb}
use Rattle.std.proofs.Common.{sym, ◌∙◌, subst₂, inl, inr, arith}
use Rattle.numbers.specs.Case.{pick, case_eq}
use Rattle.shape.specs.Tree.{Tree, leaf, node, size, In}
use Rattle.shape.specs.TreeLaws.{size_some}
use Rattle.shape.specs.PlaceLaws.{weight_in, weight_some}
use Rattle.shape.specs.InsertLaws.{Inserted}
use Rattle.shape.specs.RemoveLaws.{Removed}
use Rattle.state.specs.Cover.{total}

-- 1 for the leaf k e, else 0
unfoldable pub mark : (k e k' e' : ℕ) → ℕ
mark k e k' e' = pick (eqb k k') (pick (eqb e e') 1 0) 0

pub mark_self : (k e : ℕ) → mark k e k e ≡ 1
unfolding mark
mark_self k e = rw (true_self k, true_self e)
  where
    true_self : (x : ℕ) → eqb x x ≡ true
    true_self x = elim (case_eq x x) [ inl y ↦ y.1 | inr y ↦ absurd (y.0 refl) ]

pub mark_is : (k e k' e' : ℕ) → 1 ≤ mark k e k' e' → (k ≡ k') × (e ≡ e')
unfolding mark
mark_is k e k' e' = elim (case_eq k k') [
  | inl y ↦ rw y.1 (elim (case_eq e e') [ inl z ↦ λ h. (y.0, z.0) | inr z ↦ rw z.1 (λ h. absurd (omega arith)) ])
  | inr y ↦ rw y.1 (λ h. absurd (omega arith))
]

-- another key's leaf has no mark
pub mark_not : (k e k' e' : ℕ) → k ≢ k' → mark k e k' e' ≡ 0
unfolding mark
mark_not k e k' e' n = elim (case_eq k k') [ inl y ↦ absurd (n y.0) | inr y ↦ rw y.1 ]

module _ (t : Tree) (k e : ℕ) where
  pub in_mark : In k e t → 1 ≤ total (mark k e) t
  in_mark i = omega (arith, weight_in (mark k e) (λ q. 0) t k e i, mark_self k e)

  pub mark_in : 1 ≤ total (mark k e) t → In k e t
  mark_in h =
      let x = weight_some (mark k e) t h in
      let y = mark_is k e x.key x.end x.heavy in
      subst₂ (λ k e. In k e t) (sym y.0) (sym y.1) x.inside

-- two leaves are two
pub two_leaves : (t : Tree) (k e k' e' : ℕ) → In k e t → In k' e' t → k ≢ k' → 2 ≤ size t
two_leaves (leaf j f) k e k' e' i h n = absurd (n (i.0 ∙ sym h.0))
two_leaves (node q l r) k e k' e' i h n = omega (arith, size_some l, size_some r)

-- the leaves that an insert or a removal leaves
module _ (a b q k e : ℕ) (t u : Tree) (I : Inserted a b q k e t u) where
  pub inserted_in : (j f : ℕ) → In j f t → In j f u
  inserted_in j f i = mark_in u j f (omega (arith, in_mark t j f i, I.weigh (mark j f) (λ q. 0)))

  pub inserted_new : In k e u
  inserted_new = mark_in u k e (omega (arith, I.weigh (mark k e) (λ q. 0), mark_self k e))

pub removed_in : (a b k e : ℕ) (t u : Tree) → Removed a b k e t u → (j f : ℕ) → In j f t → j ≢ k → In j f u
removed_in a b k e t u R j f i n = mark_in u j f (omega (arith, in_mark t j f i, R.weigh (mark j f) (λ q. 0), mark_not j f k e n))
