-- `bitcode::Operands::i64` meets its contract: `bits::signed` gives the definition's number, which fits 64 bits with its sign. Assumes nothing.
use mathlib.Core.Path.{◌∙◌}
use mir.Syntax.{w64}
use mir.ValLaws.{to_z-of_z}
use Rattle.bits.proofs.Steps.{on, off, ends, handed_on}
use Rattle.bitcode.specs.Operands.{next_signed, of_next}
use Rattle.bitcode.proofs.Operands.i64.Goals as goal

pub returns-in_err-v : goal.returns-in_err-v
unfolding next_signed
returns-in_err-v c = handed_on of_next _ _ _ _ _ c.from_residual.ensures.1 (off _ c.in_err-v.ensures)

pub returns : goal.returns
unfolding next_signed
returns c = on _ c.in_ok-v.ensures (rw (to_z-of_z w64 c.signed.result (record { sfits = c.signed.type_inv }) ∙ c.signed.ensures) ends)
