-- Settings in bounds stay so with fewer channels: an opening makes them one by one.
use Rattle.std.specs.Prelude.{◌≡◌, true, ℕ, ◌≤◌}
use Rattle.std.proofs.Common.{arith}
use Rattle.rule.specs.Settings.{Settings, in_bounds}
use Rattle.rule.specs.SettingsLaws.{in_bounds_lem, bounds_in}
use Rattle.state.specs.Open.{with_channels}

pub bounds_fewer : (g : Settings) → in_bounds g ≡ true → (c : ℕ) → 1 ≤ c → c ≤ g.channels → in_bounds (with_channels g c) ≡ true
bounds_fewer g q c h i =
    let b = in_bounds_lem g q in
    bounds_in (with_channels g c) (record {
      channels = (h, omega (arith, b.channels.1));
      lines = b.lines;
      delays = b.delays;
      leap = b.leap;
      room = (omega (arith, b.room.0), b.room.1);
    })
