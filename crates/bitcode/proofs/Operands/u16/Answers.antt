-- `bitcode::Operands::u16` meets its contract: it is `below` at the width 16, and what is below 2 ^ 16 fits. Assumes nothing.
use mathlib.Core.Path.{refl}
use Rattle.bits.proofs.Steps.{handed_on}
use Rattle.bitcode.specs.Operands.{of_next}
use Rattle.bitcode.proofs.Typed.{below_lt}
use Rattle.bitcode.proofs.Operands.u16.Goals as goal

pub overflow_cast-result : goal.overflow_cast-result
overflow_cast-result c = record { fits = below_lt 16 (c.in_ok-v.ensures 16 refl) }

pub returns-in_err-v : goal.returns-in_err-v
returns-in_err-v c = handed_on of_next _ _ _ _ _ c.from_residual.ensures.1 (c.in_err-v.ensures 16 refl)

pub returns : goal.returns
returns c = c.in_ok-v.ensures 16 refl
