-- What a link's own booking and sweep ask of an order.
use Rattle.std.specs.Prelude.{◌≤◌}
use Rattle.rule.specs.Moments.{last_moment}
use Rattle.rule.specs.Settings.{longest}
use Rattle.link_session.specs.declared.Order.{Order}
use Rattle.link_session.specs.declared.Order.TheVariants.{Book, Sweep}

-- "moments 0 to 2^48 - 1", "a burst's length at most 2^32 - 1"
abbrev pub InBounds : Order → Type 0
InBounds (Book arrival burst lines) = (arrival ≤ last_moment) × (burst ≤ longest)
InBounds (Sweep moment) = moment ≤ last_moment
