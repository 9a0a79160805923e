-- The seven numbers of each order in an answer slice, taken one after the other; orders that are all refused leave the link.
-- 01, What comes back: "writing seven 64-bit numbers for each (code, channel, line, start, finish, count, dropped) into a lent slice".
use Rattle.std.specs.Prelude.{◌≡◌, refl, ◌≢◌, List, [], ◌∷◌, ◌++◌, ℕ, zero, suc, ◌+◌, ◌*◌, ◌<◌, length, get_or, take, drop}
use Rattle.std.proofs.Common.{◌∙◌, arith, length-append, get_or-take, get_or-drop}
use Rattle.rule.specs.Order.{Order}
use Rattle.rule.specs.Answer.{Reply, booked, swept, refused, seven}
use Rattle.state.specs.State.{State}
use Rattle.state.specs.Act.{act}
use Rattle.state.specs.RefusedLaws.{refused_same}
use Rattle.running.specs.Run.{flat}
use Rattle.grounds.specs.Orders.{sevens, after}

-- of n answers, each of seven numbers, none has code 0
abbrev pub AllRefused : (n : ℕ) → (numbers : List ℕ) → Type 0
AllRefused zero numbers = Unit {0}
AllRefused (suc n) numbers = (get_or (take 7 numbers) 0 0 ≢ 0) × AllRefused n (drop 7 numbers)

-- the same said by places in the slice
pub all_refused : (n : ℕ) (numbers : List ℕ) → ((i : ℕ) → i < n → get_or numbers (7 * i) 0 ≢ 0) → AllRefused n numbers
all_refused zero numbers h = tt
all_refused (suc n) numbers h = (
  rw (get_or-take 7 numbers 0 0 (omega arith)) (h 0 (omega arith)),
  all_refused n (drop 7 numbers) (λ i l. let e : 7 + 7 * i ≡ 7 * suc i = omega arith in rw (get_or-drop 7 numbers (7 * i) 0, e) (h (suc i) (omega (arith, l)))),
)

module _ (n : ℕ) (xs ys : List ℕ) where
  pub seven_drop : (y : Reply) → drop 7 ((seven y n ++ xs) ++ ys) ≡ xs ++ ys
  seven_drop (booked c i r f) = refl
  seven_drop (swept d) = refl
  seven_drop (refused x) = refl

  pub seven_take : (y : Reply) → take 7 ((seven y n ++ xs) ++ ys) ≡ seven y n
  seven_take (booked c i r f) = refl
  seven_take (swept d) = refl
  seven_take (refused x) = refl

pub flat_length : (s : State) (os : List Order) → length (flat (sevens s os)) ≡ 7 * length os
flat_length s [] = refl
flat_length s (o ∷ os) =
    let e = seven_length (act s o).reply in
    omega (arith, length-append (seven (act s o).reply (act s o).count) (flat (sevens (act s o).after os)), flat_length (act s o).after os, e)
  where
    seven_length : (y : Reply) → length (seven y (act s o).count) ≡ 7
    seven_length (booked c i r f) = refl
    seven_length (swept d) = refl
    seven_length (refused x) = refl

-- an order whose code is not 0 leaves the state
pub coded_same : (s : State) (o : Order) → get_or (seven (act s o).reply (act s o).count) 0 0 ≢ 0 → (act s o).after ≡ s
coded_same s o = go (act s o).reply refl
  where
    go : (y : Reply) → (act s o).reply ≡ y → get_or (seven y (act s o).count) 0 0 ≢ 0 → (act s o).after ≡ s
    go (booked c i r f) q h = absurd (h refl)
    go (swept d) q h = absurd (h refl)
    go (refused x) q h = refused_same s o x q

-- orders that are all refused leave the state
pub all_refused_same : (s : State) (os : List Order) (rest : List ℕ) → AllRefused (length os) (flat (sevens s os) ++ rest) → after s os ≡ s
all_refused_same s [] rest h = refl
all_refused_same s (o ∷ os) rest h =
    let y = act s o in
    let e : y.after ≡ s = coded_same s o (rw (← seven_take y.count (flat (sevens y.after os)) rest y.reply) h.0) in
    all_refused_same y.after os rest (rw (seven_drop y.count (flat (sevens y.after os)) rest y.reply) at h.1) ∙ e
