-- A pigeonhole by counting: places that are used at most once, and as many as there are, are all used.
use mathlib.Core.Path.{◌≡◌, refl, sym, ◌∙◌}
use mathlib.Core.Logic.{inl, inr}
use mathlib.Core.List.{List, [], ◌∷◌}
use Prim.Native.Nat.{ℕ, zero, suc, ◌+◌, ◌≤◌, ◌<◌}
use native.Mathlib.Omega.{arith}
use lib.ListN.{length}
use Rattle.numbers.specs.Case.{case_lt, case_eq}
use Rattle.shape.specs.Tree.{Tree, leaf, node, size, same, uses}
use Rattle.shape.specs.PlaceLaws.{same_self, same_other}
use Rattle.state.specs.Sound.{among, below}
use Rattle.memory.proofs.Parts.{below_is, below_out, below_in, below_most}

-- ---- f 0 + .. + f (n - 1)
sum : (ℕ → ℕ) → ℕ → ℕ
sum f zero = 0
sum f (suc n) = sum f n + f n

sum_add : (f g h : ℕ → ℕ) → ((z : ℕ) → h z ≡ f z + g z) → (n : ℕ) → sum h n ≡ sum f n + sum g n
unfolding sum
sum_add f g h e zero = refl
sum_add f g h e (suc n) = omega (arith, sum_add f g h e n, e n)

sum_out : (p n : ℕ) → n ≤ p → sum (λ z. same z p) n ≡ 0
unfolding sum
sum_out p zero h = refl
sum_out p (suc n) h = omega (arith, sum_out p n (omega arith), same_other n p (λ e. omega arith))

sum_one : (p n : ℕ) → p < n → sum (λ z. same z p) n ≡ 1
unfolding sum
sum_one p zero h = absurd (omega arith)
sum_one p (suc n) h = elim (case_eq n p) [
  | inl y ↦ rw y.0 (omega (arith, same_self p, sum_out p p (omega arith)))
  | inr y ↦ omega (arith, sum_one p n (omega (arith, y.0)), same_other n p y.0)
]

sum_none : (n : ℕ) → sum (λ z. 0) n ≡ 0
unfolding sum
sum_none zero = refl
sum_none (suc n) = omega (arith, sum_none n)

-- a tree has one place less than leaves
sum_uses : (t : Tree) (n : ℕ) → ((z : ℕ) → 1 ≤ uses z t → z < n) → sum (λ z. uses z t) n + 1 ≡ size t
sum_uses (leaf k e) n h = omega (arith, sum_none n)
sum_uses (node p a b) n h =
    let x = sum_add (λ z. same z p + uses z a) (λ z. uses z b) (λ z. same z p + uses z a + uses z b) (λ z. refl) n in
    let y = sum_add (λ z. same z p) (λ z. uses z a) (λ z. same z p + uses z a) (λ z. refl) n in
    let u = sum_uses a n (λ z g. h z (omega arith)) in
    let v = sum_uses b n (λ z g. h z (omega arith)) in
    omega (arith, x, y, u, v, sum_one p n (h p (omega (arith, same_self p))))

sum_among : (ps : List ℕ) (n : ℕ) → ((z : ℕ) → 1 ≤ among z ps → z < n) → sum (λ z. among z ps) n ≡ length ps
sum_among [] n h = sum_none n
sum_among (p ∷ ps) n h =
    let x = sum_add (λ z. same z p) (λ z. among z ps) (λ z. same z p + among z ps) (λ z. refl) n in
    omega (arith, x, sum_among ps n (λ z g. h z (omega arith)), sum_one p n (h p (omega (arith, same_self p))))

sum_most : (f : ℕ → ℕ) → ((z : ℕ) → f z ≤ 1) → (n : ℕ) → sum f n ≤ n
unfolding sum
sum_most f h zero = omega arith
sum_most f h (suc n) = omega (arith, sum_most f h n, h n)

full : (f : ℕ → ℕ) → ((z : ℕ) → f z ≤ 1) → (n : ℕ) → sum f n ≡ n → (z : ℕ) → z < n → f z ≡ 1
unfolding sum
full f h zero e z l = absurd (omega arith)
full f h (suc n) e z l = elim (case_eq z n) [
  | inl y ↦ rw y.0 (omega (arith, sum_most f h n, h n))
  | inr y ↦ full f h n (omega (arith, sum_most f h n, h n)) z (omega (arith, y.0))
]

-- the root's place, those of a tree and of a list, none of them twice, are as many as there are: so each place is one of them
pub covered : (t : Tree) (ps : List ℕ) (n : ℕ) → 0 < n → ((z : ℕ) → same z 0 + uses z t + among z ps ≤ below z n) → length ps + size t ≡ n
    → (z : ℕ) → same z 0 + uses z t + among z ps ≡ below z n
covered t ps n some h e z = elim (case_lt z n) [
  | inr y ↦ omega (arith, h z, below_out z n y.0)
  | inl y ↦
      let x = sum_add (λ z. same z 0 + uses z t) (λ z. among z ps) (λ z. same z 0 + uses z t + among z ps) (λ z. refl) n in
      let w = sum_add (λ z. same z 0) (λ z. uses z t) (λ z. same z 0 + uses z t) (λ z. refl) n in
      let u = sum_uses t n (λ z g. below_in z n (omega (arith, h z))) in
      let v = sum_among ps n (λ z g. below_in z n (omega (arith, h z))) in
      full (λ z. same z 0 + uses z t + among z ps) (λ z. omega (arith, h z, below_most z n)) n (omega (arith, x, w, u, v, sum_one 0 n some)) z y.0 ∙ sym (below_is z n y.0)
]
