-- `bitcode::read_scalar_operand` meets its contract: each kind's arm calls the reader that `value` names. Assumes nothing.
use Rattle.bits.proofs.Steps.{ends}
use Rattle.bitcode.specs.Scalar.{value}
use Rattle.bitcode.proofs.read_scalar_operand.Goals as goal

pub returns-in-Literal : goal.returns-in-Literal
unfolding value
returns-in-Literal c = rw c.in-Literal.is ends

pub returns-in-Fixed : goal.returns-in-Fixed
unfolding value
returns-in-Fixed c = rw c.in-Fixed.is c.read.ensures

pub returns-in-Vbr : goal.returns-in-Vbr
unfolding value
returns-in-Vbr c = rw c.in-Vbr.is c.read_vbr.ensures

pub returns-in-Char6 : goal.returns-in-Char6
unfolding value
returns-in-Char6 c = rw c.in-Char6.is c.read_char6.ensures
