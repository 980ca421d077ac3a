-- `bitcode::Operands::below` meets its contract: for every width whose power is the bound, its test is the definition's. Assumes nothing.
use Rattle.bits.proofs.Steps.{handed_on}
use Rattle.bitcode.specs.Operands.{of_next}
use Rattle.bitcode.proofs.Typed.{below_off, below_fits, below_over}
use Rattle.bitcode.proofs.Operands.below.Goals as goal

pub returns-in_err-v : goal.returns-in_err-v
returns-in_err-v c = λ w i. handed_on of_next _ _ _ _ _ c.from_residual.ensures.1 (below_off w c.in_err-v.ensures)

pub returns-then-v-bound : goal.returns-then-v-bound
returns-then-v-bound c = λ w i. below_fits w c.in_ok-v.ensures i c.if-v-bound.true

pub returns : goal.returns
returns c = λ w i. below_over w c.in_ok-v.ensures i c.if-v-bound.false
