-- `abbrev::read_block_name` meets its contract: the letters behind the choice of a block. Assumes nothing.
use Rattle.bits.proofs.Steps.{on, then_off, off, ends, handed_on}
use Rattle.abbrev.specs.BlockInfo.{block_name}
use Rattle.abbrev.specs.Tables.{of_named}
use Rattle.abbrev.proofs.Records.{choice_at, choice_off}
use Rattle.abbrev.proofs.read_block_name.Goals as goal

pub returns-in_err-ok_or : goal.returns-in_err-ok_or
unfolding block_name
returns-in_err-ok_or c =
    let a = c.args in
    handed_on of_named _ _ _ _ _ c.from_residual.ensures.1 (off _ (choice_off a.c a.chosen c.in_err-ok_or.ensures.value))

pub returns-in_err-d : goal.returns-in_err-d
unfolding block_name
returns-in_err-d c =
    let a = c.args in
    handed_on of_named _ _ _ _ _ c.from_residual-in_err-d.ensures.1
    (then_off _ (choice_at a.c a.chosen c.in_ok-ok_or.ensures.value) (off _ c.in_err-d.ensures))

pub returns : goal.returns
unfolding block_name
returns c =
    let a = c.args in
    on _ (choice_at a.c a.chosen c.in_ok-ok_or.ensures.value) (on _ c.in_ok-d.ensures ends)
