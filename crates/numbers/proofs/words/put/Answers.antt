use Rattle.numbers.specs.Words.{store}
use Rattle.numbers.proofs.Bytes.{writes}
use Rattle.numbers.proofs.words.put.Goals as goal

pub returns : goal.returns
unfolding store
returns c = writes _ c.args.mem.now _ _ c.to_le_bytes-bytes.ensures
