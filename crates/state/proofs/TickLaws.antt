-- The laws of ticks: a span is the sum of its parts, and what holds a tick starts by it and ends after it.
use Rattle.std.specs.Prelude.{◌≡◌, refl, false, ℕ, ◌+◌, ◌-◌, ◌≤◌, ◌<◌, leb, eqb}
use Rattle.std.proofs.Common.{inl, inr, arith}
use Rattle.numbers.specs.Case.{pick, case_le, case_eq}
use Rattle.rule.specs.Key.{key_of, start_of, channel_of, start_of_key, channel_of_key}
use Rattle.shape.specs.Tree.{Tree, In}
use Rattle.shape.specs.PlaceLaws.{weight_in, weight_some}
use Rattle.state.specs.History.{on}
use Rattle.state.specs.Cover.{cov, cover}

-- ---- 1 from the tick a on, and 0 before
unfoldable from : (a t : ℕ) → ℕ
from a t = pick (leb a t) 1 0

from_yes : (a t : ℕ) → a ≤ t → from a t ≡ 1
unfolding from
from_yes a t h = elim (case_le a t) [ inl y ↦ rw y.1 | inr y ↦ absurd (omega arith) ]

from_no : (a t : ℕ) → t < a → from a t ≡ 0
unfolding from
from_no a t h = elim (case_le a t) [ inl y ↦ absurd (omega arith) | inr y ↦ rw y.1 ]

from_le : (a b t : ℕ) → a ≤ b → from b t ≤ from a t
from_le a b t h = elim (case_le b t) [
  | inl y ↦ omega (arith, from_yes b t y.0, from_yes a t (omega arith))
  | inr y ↦ omega (arith, from_no b t y.0)
]

-- a span of the channel itself, and one of another
on_self : (c t s e : ℕ) → on c t c s e ≡ from s t - from e t
unfolding on from
on_self c t s e = elim (case_eq c c) [
  | inl y ↦ rw y.1 (elim (case_le s t) [
    | inl a ↦ rw a.1 (elim (case_le e t) [ inl b ↦ rw b.1 | inr b ↦ rw b.1 ])
    | inr a ↦ rw a.1 (elim (case_le e t) [ inl b ↦ rw b.1 | inr b ↦ rw b.1 ])
  ])
  | inr y ↦ absurd (y.0 refl)
]

on_other : (c t d s e : ℕ) → eqb d c ≡ false → on c t d s e ≡ 0
unfolding on
on_other c t d s e q = rw q

module _ (c t d : ℕ) where
  pub on_split : (s r f e : ℕ) → s ≤ r → r ≤ f → f ≤ e → on c t d s e ≡ on c t d s r + on c t d r f + on c t d f e
  on_split s r f e h i j = elim (case_eq d c) [
    | inl y ↦ rw y.0 (omega (arith, on_self c t s e, on_self c t s r, on_self c t r f, on_self c t f e, from_le s r t h, from_le r f t i, from_le f e t j))
    | inr y ↦ omega (arith, on_other c t d s e y.1, on_other c t d s r y.1, on_other c t d r f y.1, on_other c t d f e y.1)
  ]

  pub on_empty : (s e : ℕ) → e ≤ s → on c t d s e ≡ 0
  on_empty s e h = elim (case_eq d c) [ inl y ↦ rw y.0 (omega (arith, on_self c t s e, from_le e s t h)) | inr y ↦ on_other c t d s e y.1 ]

  pub on_past : (s e : ℕ) → e ≤ t → on c t d s e ≡ 0
  on_past s e h = elim (case_eq d c) [
    | inl y ↦ rw y.0 (omega (arith, on_self c t s e, from_yes e t h, from_le 0 s t (omega arith), from_yes 0 t (omega arith)))
    | inr y ↦ on_other c t d s e y.1
  ]

  -- what holds a tick
  pub on_is : (s e : ℕ) → 1 ≤ on c t d s e → (d ≡ c) × (s ≤ t) × (t < e)
  on_is s e h = elim (case_eq d c) [
    | inl y ↦ (y.0, begun, not_ended)
    | inr y ↦ absurd (omega (arith, on_other c t d s e y.1))
  ]
    where
      begun : s ≤ t
      begun = elim (case_le s t) [
        | inl y ↦ y.0
        | inr y ↦ elim (case_eq d c) [
          | inl z ↦ absurd (omega (arith, on_self c t s e, from_no s t y.0, rw z.0 at h))
          | inr z ↦ absurd (omega (arith, on_other c t d s e z.1))
        ]
      ]

      not_ended : t < e
      not_ended = elim (case_le e t) [ inl y ↦ absurd (omega (arith, on_past s e y.0)) | inr y ↦ y.0 ]

pub on_yes : (t d s e : ℕ) → s ≤ t → t < e → on d t d s e ≡ 1
on_yes t d s e h i = omega (arith, on_self d t s e, from_yes s t h, from_no e t i)

-- ---- a leaf's void
module _ (c t k e : ℕ) where
  pub cov_yes : channel_of k ≡ c → start_of k ≤ t → t < e → cov c t k e ≡ 1
  unfolding cov
  cov_yes q h i = rw (← q) (on_yes t (channel_of k) (start_of k) e h i)

  pub cov_no : e ≤ t → cov c t k e ≡ 0
  unfolding cov
  cov_no h = on_past c t (channel_of k) (start_of k) e h

  pub cov_empty : e ≤ start_of k → cov c t k e ≡ 0
  unfolding cov
  cov_empty h = on_empty c t (channel_of k) (start_of k) e h

  pub cov_is : 1 ≤ cov c t k e → (channel_of k ≡ c) × (start_of k ≤ t) × (t < e)
  unfolding cov
  cov_is h = on_is c t (channel_of k) (start_of k) e h

  pub cov_one : cov c t k e ≤ 1
  cov_one = elim (case_le 1 (cov c t k e)) [
    | inl y ↦ let z = cov_is y.0 in omega (arith, cov_yes z.0 z.1 z.2)
    | inr y ↦ omega arith
  ]

  -- a void is the piece in front of r, the time from r up to f, and the piece behind f
  pub cov_split : (r f : ℕ) → start_of k ≤ r → r ≤ f → f ≤ e
      → cov c t k e ≡ cov c t k r + on c t (channel_of k) r f + cov c t (key_of f (channel_of k)) e
  unfolding cov
  cov_split r f h i j =
      rw (start_of_key f (channel_of k), channel_of_key f (channel_of k) (omega arith)) (on_split c t (channel_of k) (start_of k) r f e h i j)

-- ---- the voids of a tree
pub cover_in : (t : Tree) (c s k e : ℕ) → In k e t → channel_of k ≡ c → start_of k ≤ s → s < e → 1 ≤ cover t c s
cover_in t c s k e i q h j = omega (arith, weight_in (cov c s) (λ q. 0) t k e i, cov_yes c s k e q h j)

-- the void that holds a tick
pub record Holds (t : Tree) (c s : ℕ) : Type 0 where
  pub key : ℕ
  pub end : ℕ
  pub inside : In key end t
  pub channel : channel_of key ≡ c
  pub start : start_of key ≤ s
  pub before : s < end

pub cover_some : (t : Tree) (c s : ℕ) → 1 ≤ cover t c s → Holds t c s
cover_some t c s h =
    let x = weight_some (cov c s) t h in
    let y = cov_is c s x.key x.end x.heavy in
    record { key = x.key; end = x.end; inside = x.inside; channel = y.0; start = y.1; before = y.2 }
