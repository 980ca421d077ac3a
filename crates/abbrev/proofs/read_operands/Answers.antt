-- `abbrev::read_operands` meets its contract: what is read is what stands in the row, in front of what is still to be read. Assumes nothing.
use native.Mathlib.Omega.{arith}
use Rattle.bits.proofs.Steps.{handed}
use Rattle.abbrev.specs.Tables.{Defines}
use Rattle.abbrev.proofs.Rows.{turn_start, turn_none, turn_off, turn_blob, turn_array, turn_more}
use Rattle.abbrev.proofs.read_operands.Goals as goal

pub loop-i-init : goal.loop-i-init
loop-i-init c = let p = c.requires in turn_start _ _ _ _ _ _ p.0 p.1 p.2

pub returns-in_err-operand-clause-gives : goal.returns-in_err-operand-clause-gives
returns-in_err-operand-clause-gives c =
    let l = c.loop-i in
    handed (Defines _ _ _ l.kinds l.widths c.args.base) _ c.from_residual.ensures.1 (turn_off c.loop-i.invariant (omega arith) c.in_err-operand.ensures)

pub returns-in-Blob-clause-gives : goal.returns-in-Blob-clause-gives
returns-in-Blob-clause-gives c = turn_blob c.loop-i.invariant (omega arith) (rw c.in-Blob.is at c.in_ok-operand.ensures)

pub returns-in-Array-clause-gives : goal.returns-in-Array-clause-gives
returns-in-Array-clause-gives c =
    let e = c.read_element in
    turn_array c.loop-i.invariant e.result (omega arith) (rw c.in-Array.is at c.in_ok-operand.ensures) e.ensures.kept e.ensures.gives

pub loop-i-preserved : goal.loop-i-preserved
loop-i-preserved c =
    turn_more c.loop-i.invariant _ _ (omega arith) c.slot_of-kind.ensures (rw c.in-Scalar.is at c.in_ok-operand.ensures)

pub returns-clause-gives : goal.returns-clause-gives
returns-clause-gives c = turn_none c.loop-i.invariant (omega arith)
