-- The tally of a run: which count each order raises, and the sum.
-- 01, What comes back: "An order acted on raises exactly one count"; "While no count is at its top, the sum rises by the orders acted on."
use Rattle.std.specs.Prelude.{◌≡◌, refl, ◌≢◌, List, [], ◌∷◌, ◌++◌, ℕ, zero, suc, ◌+◌, ◌<◌, length, get_or, take, drop}
use Rattle.std.proofs.Common.{sym, ◌∙◌, ap, arith}
use Rattle.tally.specs.declared.Tally.{Tally}
use Rattle.rule.specs.Order.{Order}
use Rattle.tally.specs.Counts.{rows, counts, highest, row_of, row_if, row_at, raised, sum}
use Rattle.tally.proofs.CountLaws.{raised_sum}
use Rattle.state.specs.State.{State}
use Rattle.state.specs.Act.{act}
use Rattle.running.specs.Run.{flat}
use Rattle.grounds.specs.Orders.{sevens, tallied, counted}
use Rattle.grounds.specs.ReplyLaws.{act_apt, row_apt, row_at_lem}
use Rattle.grounds.specs.Sevens.{seven_take, seven_drop}

-- what is told by the seven numbers of some first orders is what these orders raise
pub counted_tallied : (n : ℕ) (s : State) (t : Tally) (os : List Order) (rest : List ℕ) → counted t (take n os) (flat (sevens s os) ++ rest) ≡ tallied s t (take n os)
counted_tallied zero s t os rest = refl
counted_tallied (suc n) s t [] rest = refl
counted_tallied (suc n) s t (o ∷ os) rest =
    let y = act s o in
    let xs = flat (sevens y.after os) in
    let i = row_of y.reply in
    let e : row_at (get_or (take 7 (flat (sevens s (o ∷ os)) ++ rest)) 0 0) (row_if o) ≡ i =
    ap (λ l. row_at (get_or l 0 0) (row_if o)) (seven_take y.count xs rest y.reply) ∙ sym (row_at_lem o y.reply y.count (act_apt s o)) in
    ap (λ j. counted (raised t j) (take n os) (drop 7 (flat (sevens s (o ∷ os)) ++ rest))) e
    ∙ ap (counted (raised t i) (take n os)) (seven_drop y.count xs rest y.reply)
    ∙ counted_tallied n y.after (raised t i) os rest

-- no count is at its top
abbrev pub Below : Tally → Type 0
Below t = (i : ℕ) → i < rows → get_or (counts t) i 0 ≢ highest

-- "While no count is at its top": before each of the orders
pub sum_rises : (s : State) (t : Tally) (os : List Order) → ((n : ℕ) → n < length os → Below (tallied s t (take n os))) → sum (counts (tallied s t os)) ≡ sum (counts t) + length os
sum_rises s t [] h = omega arith
sum_rises s t (o ∷ os) h =
    let i = row_apt o (act s o).reply (act_apt s o) in
    sum_rises (act s o).after (raised t (row_of (act s o).reply)) os (λ n l. h (suc n) (omega arith))
    ∙ (let e = raised_sum t (row_of (act s o).reply) i (h 0 (omega arith) (row_of (act s o).reply) i) in omega (arith, e))
