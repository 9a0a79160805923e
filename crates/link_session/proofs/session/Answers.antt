-- `link_session::session`: an opening that is accepted leaves a whole link. Assumes nothing.
use Prim.Native.Nat.{zero-le}
use mathlib.Core.List.{[], ◌∷◌}
use Rattle.rule.specs.Settings.{settings}
use Rattle.std.proofs.Common.{rules}
use Rattle.opening.specs.Opening.{opened_code}
use native.Mathlib.Omega.{arith}
use Rattle.std.proofs.lemmas.Result.{on_ok_weaker}
use Rattle.lines.proofs.Writing.{writes_more}
use Rattle.link_session.proofs.Kept.{opened_whole}
use Rattle.link_session.proofs.session.Goals as goal

pub play-requires : goal.play-requires
play-requires g c = opened_whole (settings 256 2 1000 (5 ∷ [])) 0 (opened_code c.open.result) c.args.mem.now c.open.new.mem zero-le c.open.ensures (search rules)

pub returns : goal.returns
returns g c = on_ok_weaker c.write-3.result (λ a. writes_more _ _ _ 1408 128 2048 (omega arith) (writes_more _ _ _ 128 1280 1408 (omega arith) c.in_ok-write.ensures.short c.in_ok-play.ensures) a) c.write-3.ensures.short
