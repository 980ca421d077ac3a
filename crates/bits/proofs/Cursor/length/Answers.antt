-- `bits::Cursor::length` meets its contract: it is the least of the same three numbers. Assumes nothing.
use Rattle.bits.specs.Bits.{limit}
use native.Mathlib.Omega.{arith}
use Rattle.bits.proofs.Cursor.length.Goals as goal

pub returns : goal.returns
unfolding limit
returns c = omega arith
