-- `bits::Cursor::unconsumed_bit_len` meets its contract: the code's difference is the definition's. Assumes nothing.
use Rattle.bits.specs.Bits.{bits_left}
use Rattle.bits.proofs.Cursor.unconsumed_bit_len.Goals as goal

pub returns : goal.returns
unfolding bits_left
returns c = rw c.bits.ensures.0 at c.saturating_sub.ensures
