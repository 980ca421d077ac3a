-- `bitcode::Operands::bool` meets its contract: the arms 0 and 1 are the two numbers below 2. Assumes nothing.
use mathlib.Core.Path.{refl}
use native.Mathlib.Omega.{arith}
use borrow.Author.Tests.{le-ltb}
use Rattle.bits.proofs.Steps.{on, then_off, off, ends, pass, fail, handed_on}
use Rattle.bitcode.specs.Operands.{next_bool, of_next}
use Rattle.bitcode.proofs.Operands.bool.Goals as goal

pub returns-in_err-v : goal.returns-in_err-v
unfolding next_bool
returns-in_err-v c = handed_on of_next _ _ _ _ _ c.from_residual.ensures.1 (off _ c.in_err-v.ensures)

pub returns-in-0 : goal.returns-in-0
unfolding next_bool
returns-in-0 c = on _ c.in_ok-v.ensures (rw c.in-0.is (pass _ _ refl ends))

pub returns-in-1 : goal.returns-in-1
unfolding next_bool
returns-in-1 c = on _ c.in_ok-v.ensures (rw c.in-1.is (pass _ _ refl ends))

pub returns-in_default : goal.returns-in_default
unfolding next_bool
returns-in_default c = then_off _ c.in_ok-v.ensures (fail _ (le-ltb _ 2 (omega arith)))
