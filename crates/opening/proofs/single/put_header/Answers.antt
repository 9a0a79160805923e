-- `opening::single::put_header`: eight words, one after the other, before the delays. Assumes nothing.
use native.Mathlib.Omega.{arith}
use mathlib.Core.Path.{refl}
use Rattle.ruling.specs.Settings.{settings_of}
use Rattle.opening.proofs.Beginning.{headed}
use Rattle.opening.proofs.single.put_header.Goals as goal

pub returns : goal.returns
returns c = headed _ _ _ _ _ _ _ _ _ _ (settings_of c.args.settings.now) _ _ c.requires.0 (omega arith) (omega arith) c.ranges.floor.fits refl (omega (arith, c.requires.1)) c.put_delays.ensures c.put.ensures c.put-2.ensures c.put-3.ensures c.put-4.ensures c.put-5.ensures c.put-6.ensures c.put-7.ensures c.put-8.ensures
