use mathlib.Core.Path.{◌≡◌}
use native.Mathlib.Omega.{arith}
use Rattle.node.specs.Layout.{sums_saved}
use Rattle.node.proofs.Nodes.{sums_written}
use Rattle.node.proofs.save_sums.Goals as goal

pub returns : goal.returns
unfolding sums_saved
returns c =
    let whole : c.put-3.new.mem ≡ sums_saved c.args.mem.now c.args.s c.args.n = cc in
    (whole, rw whole (sums_written c.args.mem.now c.args.s c.args.n c.requires (record { lo = omega arith; top = omega arith; low = omega arith })))
