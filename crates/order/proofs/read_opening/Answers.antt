-- `order::read_opening`: the mark of an opening, or none. Assumes nothing.
use mathlib.Core.Path.{◌≡◌, refl, sym, ◌∙◌}
use mathlib.Core.Bool.{Bool, true, false}
use mathlib.Core.List.{List}
use Prim.Native.Nat.{ℕ, ◌+◌, ◌*◌, ◌≤◌, ◌<◌}
use lib.ListN.{length}
use lib.Dec.{eqb, leb}
use borrow.Author.Tests.{lt-leb, le-leb, ne_eqb}
use Rattle.digits.specs.Digits.{field}
use Rattle.numbers.specs.Case.{pick}
use Rattle.order.specs.Records.{Reading, unread, opening_of, booking_of, compact_of, sweep_of, by_mark, reading, opening_only}
use Rattle.std.proofs.Common.{rules, Result, Ok, Err, IsErr}
use Rattle.order.specs.declared.Record.{Record}
use Rattle.order.specs.declared.Unread.{Unread}
use Rattle.order.specs.Read.{ReadsOpening}
use Rattle.order.proofs.Alone.{reads_opening}
use Rattle.order.proofs.read_opening.Goals as goal

none : (s : List ℕ) → length s < 2 → unread 11 ≡ opening_only (reading s)
unfolding reading
none s h = simp (lt-leb _ _ h)

-- a part of a record is refused, and a whole one of another mark is no opening
whole-order : (b : Bool) (x : Reading) → opening_only x ≡ unread 11 → opening_only (pick b x (unread 11)) ≡ unread 11
whole-order true x e = e
whole-order false x e = refl

whole-opening : (b : Bool) (x : Reading) → opening_only x ≡ x → opening_only (pick b x (unread 11)) ≡ pick b x (unread 11)
whole-opening true x e = e
whole-opening false x e = refl

opening-alone : (s : List ℕ) → opening_only (opening_of s) ≡ opening_of s
unfolding opening_of
opening-alone s = whole-opening (leb (14 + 4 * field 3 1 s) (length s)) _ refl

other-mark : (s : List ℕ) (k : ℕ) → (k ≡ 0x4F4C → ⊥) → opening_only (by_mark k s) ≡ unread 11
unfolding by_mark booking_of compact_of sweep_of
other-mark s k h = rw (ne_eqb k 0x4F4C h) (go (eqb k 0x4F42) (eqb k 0x4F43) (eqb k 0x4F53))
  where
    go : (a b c : Bool) → opening_only (pick a (booking_of s) (pick b (compact_of s) (pick c (sweep_of s) (unread 11)))) ≡ unread 11
    go true b c = whole-order (leb 14 (length s)) _ refl
    go false true c = whole-order (leb 10 (length s)) _ refl
    go false false true = whole-order (leb 8 (length s)) _ refl
    go false false false = refl

marked : (s : List ℕ) (m k : ℕ) → 2 ≤ length s → m ≡ field 0 2 s → m ≡ k → opening_only (reading s) ≡ opening_only (by_mark k s)
unfolding reading
marked s m k h e f = simp (le-leb _ _ h, sym e, f)

short : (s : List ℕ) (r : Result Record Unread) → IsErr r → length s < 2 → ReadsOpening s r
short s (Ok x) e h = search rules
short s (Err x) e h = reads_opening s (Err x) (none s h) tt

pub returns-in_err-whole : goal.returns-in_err-whole
returns-in_err-whole c = short _ _ (search rules) (search rules)

pub returns-in-20300 : goal.returns-in-20300
unfolding by_mark
returns-in-20300 c =
    reads_opening _ _ (c.opening.ensures.0 ∙ (sym (opening-alone _)
    ∙ sym (marked _ _ 0x4F4C (search rules) c.field-mark.ensures.0 c.in-20300.is))) c.opening.ensures.1

pub returns-in_default : goal.returns-in_default
returns-in_default c = reads_opening _ _ (sym (marked _ _ _ (search rules) c.field-mark.ensures.0 refl ∙ other-mark _ _ c.in_default.in_default-own.rest.1)) tt
