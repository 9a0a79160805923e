-- What a test answers: the claim holds where it is true, and does not where it is false.
use Rattle.std.specs.Prelude.{Bool, true, false}

abbrev pub Says : Type 0 → Bool → Type 0
Says P true = P
Says P false = P → ⊥
