-- `order::read`: the mark decides. Assumes nothing.
use mathlib.Core.Path.{◌≡◌, refl, sym, ◌∙◌}
use mathlib.Core.List.{List}
use Prim.Native.Nat.{ℕ, ◌≤◌, ◌<◌}
use lib.ListN.{length}
use borrow.Author.Tests.{lt-leb, le-leb, ne_eqb}
use Rattle.digits.specs.Digits.{field}
use Rattle.order.specs.Records.{unread, by_mark, reading}
use Rattle.std.proofs.Common.{rules, Result, Ok, Err, IsErr}
use Rattle.order.specs.declared.Record.{Record}
use Rattle.order.specs.declared.Unread.{Unread}
use Rattle.order.specs.Read.{Reads}
use Rattle.order.proofs.Alone.{reads}
use Rattle.order.proofs.read.Goals as goal

none : (s : List ℕ) → length s < 2 → unread 11 ≡ reading s
unfolding reading
none s h = simp (lt-leb _ _ h)

marked : (s : List ℕ) (m k : ℕ) → 2 ≤ length s → m ≡ field 0 2 s → m ≡ k → reading s ≡ by_mark k s
unfolding reading
marked s m k h e f = simp (le-leb _ _ h, sym e, f)

short : (s : List ℕ) (r : Result Record Unread) → IsErr r → length s < 2 → Reads s r
short s (Ok x) e h = search rules
short s (Err x) e h = reads s (Err x) (none s h) tt

pub returns-in_err-whole : goal.returns-in_err-whole
returns-in_err-whole c = short _ _ (search rules) (search rules)

pub returns-in-20300 : goal.returns-in-20300
unfolding by_mark
returns-in-20300 c = reads _ _ (c.opening.ensures.0 ∙ sym (marked _ _ 0x4F4C (search rules) c.field-mark.ensures.0 c.in-20300.is)) c.opening.ensures.1

pub returns-in-20290 : goal.returns-in-20290
unfolding by_mark
returns-in-20290 c = reads _ _ (c.booking.ensures.0 ∙ sym (marked _ _ 0x4F42 (search rules) c.field-mark.ensures.0 c.in-20290.is)) c.booking.ensures.1

pub returns-in-20291 : goal.returns-in-20291
unfolding by_mark
returns-in-20291 c = reads _ _ (c.compact.ensures.0 ∙ sym (marked _ _ 0x4F43 (search rules) c.field-mark.ensures.0 c.in-20291.is)) c.compact.ensures.1

pub returns-in-20307 : goal.returns-in-20307
unfolding by_mark
returns-in-20307 c = reads _ _ (c.sweep.ensures.0 ∙ sym (marked _ _ 0x4F53 (search rules) c.field-mark.ensures.0 c.in-20307.is)) c.sweep.ensures.1

pub returns-in_default : goal.returns-in_default
unfolding by_mark
returns-in_default c =
    let m = c.in_default.in_default-own.rest in
    reads _ _ (sym (marked _ _ _ (search rules) c.field-mark.ensures.0 refl
    ∙ simp (ne_eqb _ _ m.1, ne_eqb _ _ m.0.1, ne_eqb _ _ m.0.0.1, ne_eqb _ _ m.0.0.0.1))) tt
