-- `bits::Cursor::is_at_end` meets its contract: the code's test is the definition's. Assumes nothing.
use Rattle.bits.specs.Bits.{ends_at}
use Rattle.bits.proofs.Cursor.is_at_end.Goals as goal

pub returns : goal.returns
unfolding ends_at
returns c = rw c.bits.ensures.0
