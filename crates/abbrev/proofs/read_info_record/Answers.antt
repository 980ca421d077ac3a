-- `abbrev::read_info_record` meets its contract: code and count, then the reader that the code names. Assumes nothing.
use mathlib.Core.Path.{refl}
use native.Mathlib.Omega.{arith}
use borrow.Author.Tests.{ne_eqb}
use Rattle.bits.specs.Reader.{stop, when◌then◌else◌}
use Rattle.bits.proofs.Steps.{then_off, off, on_told, handed_on}
use Rattle.abbrev.specs.BlockInfo.{info_record}
use Rattle.abbrev.specs.Tables.{of_named}
use Rattle.abbrev.proofs.read_info_record.Goals as goal

pub returns-in_err-code : goal.returns-in_err-code
unfolding info_record
returns-in_err-code c = handed_on of_named _ _ _ _ _ c.from_residual.ensures.1 (off _ c.in_err-code.ensures)

pub returns-in_err-n : goal.returns-in_err-n
unfolding info_record
returns-in_err-n c =
    handed_on of_named _ _ _ _ _ c.from_residual-in_err-n.ensures.1 (then_off _ c.in_ok-code.ensures (off _ c.in_err-n.ensures))

pub returns-in-1 : goal.returns-in-1
unfolding info_record when◌then◌else◌
returns-in-1 c =
    let t = of_named c.read_set_bid.result in
    on_told _ t c.in_ok-code.ensures (on_told _ t c.in_ok-n.ensures (rw c.in-1.is c.read_set_bid.ensures))

pub returns-in-2 : goal.returns-in-2
unfolding info_record when◌then◌else◌
returns-in-2 c =
    let t = of_named c.read_block_name.result in
    on_told _ t c.in_ok-code.ensures (on_told _ t c.in_ok-n.ensures (rw c.in-2.is c.read_block_name.ensures))

pub returns-in-3 : goal.returns-in-3
unfolding info_record when◌then◌else◌
returns-in-3 c =
    let t = of_named c.read_record_name.result in
    on_told _ t c.in_ok-code.ensures (on_told _ t c.in_ok-n.ensures (rw c.in-3.is c.read_record_name.ensures))

pub returns-in_default : goal.returns-in_default
unfolding info_record when◌then◌else◌ stop
returns-in_default c =
    let k = c.in_ok-code.code in
    then_off _ c.in_ok-code.ensures
    (then_off _ c.in_ok-n.ensures
    (rw (ne_eqb k 1 (λ h. omega arith), ne_eqb k 2 (λ h. omega arith), ne_eqb k 3 (λ h. omega arith)) record { why = refl }))
