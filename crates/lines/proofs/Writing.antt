-- What is written, piece after piece. Assumes nothing.
use mathlib.Core.Path.{ap, sym, ◌∙◌}
use mathlib.Core.List.{List, [], ◌++◌, append_assoc, append-nil}
use native.Mathlib.Omega.{arith}
use lib.ListN.{length-append}
use Prim.Native.Nat.{ℕ, ◌+◌, ◌≤◌}
use Rattle.std.specs.declared.option.Option.{Option}
use Rattle.std.specs.declared.option.Option.TheVariants.{Some, None}
use Rattle.std.specs.Io.KnownBytes.{Appends}
use Rattle.lines.specs.Lines.{Writes}

pub nothing : (a : Option (List ℕ)) → Appends a a []
nothing None = tt
nothing (Some x) = sym (append-nil x)

pub more : (a b c : Option (List ℕ)) (xs ys : List ℕ) → Appends a b xs → Appends b c ys → Appends a c (xs ++ ys)
more None b c xs ys p q = tt
more (Some x) None c xs ys p q = absurd p
more (Some x) (Some y) None xs ys p q = absurd q
more (Some x) (Some y) (Some z) xs ys p q = q ∙ ap (λ l. l ++ ys) p ∙ append_assoc x xs ys

-- so many at most, then so many
pub writes_more : (a b c : Option (List ℕ)) (m n most : ℕ) → m + n ≤ most → Writes m a b → Writes n b c → Writes most a c
writes_more a b c m n most h p q = (p.0 ++ q.0, omega (arith, length-append p.0 q.0, p.1, q.1, h), more a b c p.0 q.0 p.2 q.2)
