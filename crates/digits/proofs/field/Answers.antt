-- `digits::field`: the part from the place on is as long as the field is wide. Assumes nothing.
use mathlib.Core.Path.{◌≡◌}
use mathlib.Core.List.{List}
use Prim.Native.Nat.{ℕ, ◌+◌, ◌*◌, ◌-◌, ◌^◌, ◌≤◌, ◌<◌}
use native.Mathlib.Omega.{arith}
use lib.ListN.{length, take, drop, length-take, length-drop}
use Rattle.digits.specs.Digits.{digits, field}
use Rattle.digits.proofs.field.Goals as goal

part : (s : List ℕ) (i w r : ℕ) → i + w ≤ length s → (r ≡ digits (take (i + w - i) (drop i s))) × (r < 2 ^ (8 * length (take (i + w - i) (drop i s)))) → (r ≡ field i w s) × (r < 2 ^ (8 * w))
part s i w r h a =
    let e : i + w - i ≡ w = omega arith in
    let n : length (take w (drop i s)) ≡ w = simp (length-take, length-drop) (omega arith) in
    (rw e at a.0, rw n at (rw e at a.1))

pub returns : goal.returns
returns c = part _ _ _ _ c.requires.1 c.number.ensures
