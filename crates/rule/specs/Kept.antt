-- Which voids are kept: at a floor, of a booking's pieces, and how many (01, The booking rule, its last paragraph; 02, K3).
use Rattle.std.specs.Prelude.{List, [], ◌∷◌, Bool, false, ℕ, suc, ◌+◌, ◌≤◌, leb, ltb}
use Rattle.std.proofs.Common.{arith}
use Rattle.numbers.specs.Case.{pick}
use Rattle.rule.specs.Voids.{Void}

-- "a sweep to T drops each void with e at or before T" (02, K3; 01 had e < T): the least end of a void that stays at the floor.
-- Shut: only the three laws below know what it is.
unfoldable pub least : ℕ → ℕ
least floor = suc floor

pub least_floor : (floor : ℕ) → floor ≤ least floor
unfolding least
least_floor floor = omega arith

pub least_most : (floor : ℕ) → least floor ≤ suc floor
unfolding least
least_most floor = omega arith

pub least_up : (floor moment : ℕ) → floor ≤ moment → least floor ≤ least moment
unfolding least
least_up floor moment h = omega arith

-- whether a void with the end e stays when the floor is set
abbrev pub stays : (floor e : ℕ) → Bool
stays floor e = leb (least floor) e

-- "A piece of length zero is not kept", and "a booking that starts at the floor keeps no piece in front of it" (02, K3): a piece is kept if it
-- has a tick, and stays
abbrev pub kept : (floor s e : ℕ) → Bool
kept floor s e = pick (ltb s e) (stays floor e) false

-- "The void taken is replaced by (s, r') and (f', e)": how many of the two pieces are kept
abbrev pub pieces : (floor s e r f : ℕ) → ℕ
pieces floor s e r f = pick (kept floor s r) 1 0 + pick (kept floor f e) 1 0

-- how many voids of a list a sweep to the moment drops
abbrev pub dropped : ℕ → List Void → ℕ
dropped moment [] = 0
dropped moment (v ∷ vs) = pick (stays moment v.end) 0 1 + dropped moment vs
