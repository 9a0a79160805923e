-- An answer from its seven numbers, and its line. Assumes nothing.
use mathlib.Core.Path.{◌≡◌, refl, ap, sym, subst, ◌∙◌}
use mathlib.Core.List.{List}
use Prim.Native.Nat.{ℕ, suc, ◌*◌}
use lib.ListN.{take, drop}
use Rattle.std.specs.declared.option.Option.{Option}
use Rattle.std.specs.Io.KnownBytes.{Appends}
use Rattle.rule.specs.Answer.{numbers_of}
use Rattle.rule.specs.declared.answer.Answer.{Answer}
use Rattle.lines.specs.Lines.{line_of, written}
use Rattle.lines.specs.declared.Line.{Line}
use Rattle.lines.proofs.Writing.{more}
use Rattle.session.specs.Printed.{answer_from, answers_written}

pub answer_from_is : (a : Answer) (xs : List ℕ) → numbers_of a ≡ xs → answer_from xs ≡ a
answer_from_is a xs e = rw (sym e) refl

pub line_more : (a b c : Option (List ℕ)) (numbers : List ℕ) (i : ℕ) (x : Answer) (l : Line) → Appends a b (answers_written numbers i) → numbers_of x ≡ take 7 (drop (7 * i) numbers) → l ≡ line_of (suc i) x → Appends b c (written l) → Appends a c (answers_written numbers (suc i))
line_more a b c numbers i x l p e f q =
    let h : answer_from (take 7 (drop (7 * i) numbers)) ≡ x = answer_from_is x (take 7 (drop (7 * i) numbers)) e in
    more a b c (answers_written numbers i) _ p (subst (λ bs. Appends b c bs) (ap written f ∙ ap (λ y. written (line_of (suc i) y)) (sym h)) q)
