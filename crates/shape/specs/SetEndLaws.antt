-- What `set_end k f t` comes to: the leaf of the key has the end f, and all else is as it was.
use Rattle.std.specs.Prelude.{◌≡◌, refl, ◌≢◌, Bool, true, false, ℕ, ◌+◌, ◌≤◌}
use Rattle.std.proofs.Common.{sym, inl, inr, arith}
use Rattle.numbers.specs.Case.{case_le}
use Rattle.shape.specs.Tree.{Tree, leaf, node, place, height, size, lo, Balanced, Ord, In, All, leaves, weight}
use Rattle.shape.specs.TreeLaws.{all_others, in_right, in_left}
use Rattle.shape.specs.Side.{over}
use Rattle.shape.specs.SideLaws.{leaves_over, height_over, size_over, weight_over, lo_over, place_over, all_over, over_all, over_even}
use Rattle.shape.specs.Arrange.{set_end}
use Rattle.shape.specs.ListLaws.{ending, renewed, instead_joined, instead_one, ord_instead}
use Rattle.shape.specs.LeadLaws.{Leads, leads_right, leads_left}

-- u is t, ordered from a on and below b, with the leaf k e become k f
pub record Ended (a b k e f : ℕ) (t u : Tree) : Type 1 where
  pub list : leaves u ≡ renewed k f (leaves t)
  pub first : lo u ≡ lo t
  pub tall : height u ≡ height t
  pub many : size u ≡ size t
  pub root : place u ≡ place t
  pub weigh : (w : (k e : ℕ) → ℕ) (v : ℕ → ℕ) → weight w v u + w k e ≡ weight w v t + w k f
  pub all : (P : (k e : ℕ) → Type 0) → P k f → All (λ j g. j ≢ k → P j g) t → All P u
  pub ord : Ord a b u
  pub even : Balanced u

-- at a node x over t and s, t on the side named, to which the key leads
below : (left : Bool) (a b c d k e f x : ℕ) (t s u : Tree)
    → Ord a b (over left x t s) → Balanced s → height t ≤ height s + 1 → height s ≤ height t + 1
    → Leads left k x t s → Ended c d k e f t u → Ended a b k e f (over left x t s) (over left x u s)
below left a b c d k e f x t s u o S h i D U =
    let L : leaves (over left x u s) ≡ renewed k f (leaves (over left x t s)) =
    rw (leaves_over left x u s, leaves_over left x t s, U.list) (sym (instead_joined k (ending f) left (leaves t) s D.beside)) in
    record {
      list = L;
      first = lo_over left x t s u U.first;
      tall = simp height_over (omega arith);
      many = simp size_over (omega arith);
      root = simp place_over;
      weigh = λ w v. simp weight_over (omega (arith, U.weigh w v));
      all = λ P y z. let A = all_over left x t s _ z in over_all left x u s P (U.all P y A.0) (all_others P k s D.beside A.1);
      ord = ord_instead k (ending f) (λ y. omega arith) a b (over left x t s) (over left x u s) L o;
      even = over_even left x u s U.even S (omega arith) (omega arith);
    }

pub set_end_ok : (a b k e f : ℕ) (t : Tree) → Ord a b t → Balanced t → In k e t → Ended a b k e f t (set_end k f t)
unfolding set_end
set_end_ok a b k e f (leaf j g) o h i = record {
  list = rw (← i.0) (sym (instead_one k (ending f) g));
  first = refl;
  tall = refl;
  many = refl;
  root = refl;
  weigh = λ w v. rw (i.0, i.1) (omega arith);
  all = λ P c d. rw (← i.0) c;
  ord = o;
  even = tt;
}
set_end_ok a b k e f (node x l r) o h i = elim (case_le (lo r) k) [
  | inl y ↦ rw y.1 (below false a b (lo r) b k e f x r l (set_end k f r) o h.0 h.3 h.2 (leads_right a b k x l r o y)
      (set_end_ok (lo r) b k e f r o.1 h.1 (in_right a b k e x l r o y.0 i)))
  | inr y ↦ rw y.1 (below true a b a (lo r) k e f x l r (set_end k f l) o h.1 h.2 h.3 (leads_left a b k x l r o y)
      (set_end_ok a (lo r) k e f l o.0 h.0 (in_left a b k e x l r o y.0 i)))
]
