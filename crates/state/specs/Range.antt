-- Orders in range: as a record can hold them, a sweep is to a moment. (A booking's numbers are all judged by its codes.)
use Rattle.std.specs.Prelude.{List, [], ◌∷◌, ◌≤◌}
use Rattle.rule.specs.Moments.{last_moment}
use Rattle.rule.specs.Order.{Order, booking, sweep}

abbrev pub InRange : Order → Type 0
InRange (booking r l m) = Unit {0}
InRange (sweep moment) = moment ≤ last_moment

abbrev pub AllInRange : List Order → Type 0
AllInRange [] = Unit {0}
AllInRange (o ∷ os) = InRange o × AllInRange os
