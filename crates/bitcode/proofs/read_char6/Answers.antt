-- `bitcode::read_char6` meets its contract: the letter is the one of the six bits read. Assumes nothing.
use Rattle.bits.specs.Told.{of_read}
use Rattle.bits.proofs.Steps.{on, off, ends, handed_on}
use Rattle.bitcode.specs.Scalar.{value}
use Rattle.bitcode.proofs.read_char6.Goals as goal

pub returns-in_err-v : goal.returns-in_err-v
unfolding value
returns-in_err-v c = handed_on of_read _ _ _ _ _ c.from_residual.ensures.1 (off _ c.in_err-v.ensures)

pub returns : goal.returns
unfolding value
returns c = on _ c.in_ok-v.ensures (rw c.letter.ensures ends)
