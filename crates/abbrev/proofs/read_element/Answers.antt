-- `abbrev::read_element` meets its contract: an operand, stored in its slot if it is a scalar. Assumes nothing.
use Prim.Native.Nat.{◌+◌}
use mathlib.Core.Path.{refl, ◌∙◌}
use Rattle.bits.specs.Reader.{stop}
use Rattle.bits.proofs.Steps.{on, off, then_off, ends, handed}
use Rattle.abbrev.specs.Abbrev.{element}
use Rattle.abbrev.specs.Tables.{Elements}
use Rattle.abbrev.proofs.Rows.{slot_set}
use Rattle.abbrev.proofs.read_element.Goals as goal

pub returns-in_err-element-clause-gives : goal.returns-in_err-element-clause-gives
returns-in_err-element-clause-gives c =
    let a = c.args in
    handed (Elements _ _ a.kinds.now a.widths.now a.base a.i) _ c.from_residual.ensures.1 (off _ c.in_err-element.ensures)

pub returns-in-Array-clause-gives : goal.returns-in-Array-clause-gives
unfolding element stop
returns-in-Array-clause-gives c = then_off _ (rw c.in-Array.is at c.in_ok-element.ensures) (record { why = refl })

pub returns-in-Blob-clause-gives : goal.returns-in-Blob-clause-gives
unfolding element stop
returns-in-Blob-clause-gives c = then_off _ (rw c.in-Blob.is at c.in_ok-element.ensures) (record { why = refl })

pub returns-in-Scalar-clause-gives : goal.returns-in-Scalar-clause-gives
unfolding element
returns-in-Scalar-clause-gives c =
    let a = c.args in
    let p = c.requires in
    let e = slot_set a.kinds.now a.widths.now (a.base + a.i) _ _ p.0 p.1 ∙ c.slot_of-kind.ensures in
    (on _ (rw c.in-Scalar.is at c.in_ok-element.ensures) (rw e ends), refl)
