-- The laws of the tally: exactly one count is raised, and the sum rises by one while that count is not at its top.
use Rattle.std.specs.Prelude.{◌≡◌, refl, ◌≢◌, List, [], ◌∷◌, ℕ, zero, suc, ◌+◌, ◌<◌, length, get_or, set}
use Rattle.std.proofs.Common.{ap, ◌∙◌, inl, inr, arith}
use Rattle.numbers.specs.Case.{case_eq}
use Rattle.tally.specs.declared.Tally.{Tally}
use Rattle.tally.specs.Counts.{rows, counts, highest, up, raised, sum}

-- a tally raised at the row i has the counts it had, with that one raised
pub raised_is : (t : Tally) (i : ℕ) → i < rows → counts (raised t i) ≡ set (counts t) i (up (get_or (counts t) i 0))
unfolding raised
raised_is t zero h = refl
raised_is t (suc zero) h = refl
raised_is t (suc (suc zero)) h = refl
raised_is t (suc (suc (suc zero))) h = refl
raised_is t (suc (suc (suc (suc zero)))) h = refl
raised_is t (suc (suc (suc (suc (suc zero))))) h = refl
raised_is t (suc (suc (suc (suc (suc (suc zero)))))) h = refl
raised_is t (suc (suc (suc (suc (suc (suc (suc zero))))))) h = refl
raised_is t (suc (suc (suc (suc (suc (suc (suc (suc zero)))))))) h = refl
raised_is t (suc (suc (suc (suc (suc (suc (suc (suc (suc zero))))))))) h = refl
raised_is t (suc (suc (suc (suc (suc (suc (suc (suc (suc (suc i)))))))))) h = absurd (omega arith)

sum_set : (ns : List ℕ) (i v : ℕ) → i < length ns → sum (set ns i v) + get_or ns i 0 ≡ sum ns + v
sum_set [] i v h = absurd (omega arith)
sum_set (n ∷ ns) zero v h = omega arith
sum_set (n ∷ ns) (suc i) v h = omega (arith, sum_set ns i v (omega arith))

-- "While no count is at its top, the sum rises by the orders acted on": by one for each
pub raised_sum : (t : Tally) (i : ℕ) → i < rows → get_or (counts t) i 0 ≢ highest → sum (counts (raised t i)) ≡ sum (counts t) + 1
unfolding up
raised_sum t i h ne = elim (case_eq (get_or (counts t) i 0) highest) [
  | inl y ↦ absurd (ne y.0)
  | inr y ↦ let e : sum (set (counts t) i (up (get_or (counts t) i 0))) + get_or (counts t) i 0 ≡ sum (counts t) + up (get_or (counts t) i 0) = sum_set (counts t) i (up (get_or (counts t) i 0)) h in
      let u : up (get_or (counts t) i 0) ≡ get_or (counts t) i 0 + 1 = rw y.1 in
      ap sum (raised_is t i h) ∙ (omega (arith, e, u))
]
