-- `sweeping::sweep`: refused by its code, or cleared and the floor set. Assumes nothing.
use native.Mathlib.Omega.{arith}
use Rattle.std.proofs.Common.{rules}
use Rattle.sweeping.proofs.Sweeping.{short_leap, refused_early, clearable, some, done}
use Rattle.sweeping.proofs.sweep.Goals as goal

pub get-leap-requires : goal.get-leap-requires
get-leap-requires c = omega (arith, c.requires.whole.2.long)

pub check_sweep-requires : goal.check_sweep-requires
check_sweep-requires c = short_leap _ c.requires.whole _ c.get-leap.ensures

pub returns-in_err-check_sweep-clause-sweeps : goal.returns-in_err-check_sweep-clause-sweeps
returns-in_err-check_sweep-clause-sweeps c = refused_early _ c.args.moment.ticks _ _ _ c.floor-floor.ensures c.get-leap.ensures c.check_sweep.ensures c.in_err-check_sweep.field-0.0 (search rules) c.from_residual.result (search rules)

pub clear-dropped-requires : goal.clear-dropped-requires
clear-dropped-requires c = clearable _ c.args.moment.ticks _ _ _ c.floor-floor.ensures c.get-leap.ensures c.check_sweep.ensures (search rules) c.args.moment.in_bounds _ c.least.ensures.0 c.requires.whole

pub refloor-requires : goal.refloor-requires
refloor-requires c = some _ c.args.moment.ticks _ _ _ c.floor-floor.ensures c.get-leap.ensures c.check_sweep.ensures (search rules) c.args.moment.in_bounds _ c.least.ensures.0 _ _ c.clear-dropped.ensures c.requires.whole

pub returns-clause-sweeps : goal.returns-clause-sweeps
returns-clause-sweeps c = done _ c.args.moment.ticks _ _ _ c.floor-floor.ensures c.get-leap.ensures c.check_sweep.ensures (search rules) c.args.moment.in_bounds _ c.least.ensures.0 _ _ c.clear-dropped.ensures _ c.refloor.ensures
