-- `digits::number` meets its contract: what is read so far, followed by the bytes that are left, is the whole number. Assumes nothing.
use mathlib.Core.Path.{◌≡◌, refl, sym, ◌∙◌}
use Prim.Native.Nat.{◌≤◌, ◌<◌}
use native.Mathlib.Omega.{arith}
use lib.ListN.{length, get_or}
use Rattle.std.proofs.Common.{rules}
use Rattle.digits.specs.Digits.{digits}
use Rattle.digits.proofs.DigitLaws.{step, last, grows}
use Rattle.digits.proofs.number.Goals as goal

pub loop-byte-init : goal.loop-byte-init
unfolding digits
loop-byte-init c = (omega arith, refl)

pub loop-byte-preserved : goal.loop-byte-preserved
loop-byte-preserved c =
    let l = c.loop-byte in
    let s = c.args.s.now in
    let h : l.byte-index < length s = omega arith in
    let e : c.from.result ≡ get_or s l.byte-index 0 = search rules in
    let b : c.from.result < 256 = search rules in
    (grows l.so_far c.from.result l.byte-index l.invariant.0 b, rw e (sym (step s l.so_far l.byte-index h) ∙ l.invariant.1))

pub returns : goal.returns
returns c =
    let l = c.loop-byte in
    let s = c.args.s.now in
    let h : length s ≤ l.byte-index = omega arith in
    let n : l.byte-index ≡ length s = omega arith in
    (sym (last s l.so_far l.byte-index h) ∙ l.invariant.1, rw n at l.invariant.0)
