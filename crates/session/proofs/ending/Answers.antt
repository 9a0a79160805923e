-- `session::ending`: a run that came to its end writes nothing more. Assumes nothing.
use Rattle.lines.proofs.Writing.{nothing}
use Rattle.session.proofs.ending.Goals as goal

pub returns-then-ran-eq0 : goal.returns-then-ran-eq0
returns-then-ran-eq0 g c = rw c.if-ran-eq0.true (nothing _)
