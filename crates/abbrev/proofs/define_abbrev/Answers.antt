-- `abbrev::define_abbrev` meets its contract: the row is tested against the tables, the count against the most, and the operands go into the row. Assumes nothing.
use Prim.Native.Nat.{◌*◌}
use borrow.Author.Tests.{le-leb, lt-leb, lt-ltb, le-ltb}
use Rattle.bits.proofs.Steps.{off, then_off, pass_off, fail, handed}
use Rattle.abbrev.specs.Abbrev.{define}
use Rattle.abbrev.specs.Tables.{define_row, row_count, row_size, Defines}
use Rattle.abbrev.proofs.Rows.{row_fits, define_more}
use Rattle.abbrev.proofs.define_abbrev.Goals as goal

pub returns-then-row-ge-ROWS-clause-gives : goal.returns-then-row-ge-ROWS-clause-gives
unfolding define_row
returns-then-row-ge-ROWS-clause-gives c = fail _ (rw (le-ltb _ row_count c.if-row-ge-ROWS.true))

pub returns-then-kinds-base-clause-gives : goal.returns-then-kinds-base-clause-gives
unfolding define_row
returns-then-kinds-base-clause-gives c = fail _ (rw (lt-ltb _ row_count c.if-row-ge-ROWS.false, lt-leb _ _ c.if-kinds-base.true))

pub returns-then-widths-base-clause-gives : goal.returns-then-widths-base-clause-gives
unfolding define_row
returns-then-widths-base-clause-gives c =
    fail _ (rw (lt-ltb _ row_count c.if-row-ge-ROWS.false, le-leb _ _ c.if-kinds-base.false, lt-leb _ _ c.if-widths-base.true))

pub returns-in_err-n-clause-gives : goal.returns-in_err-n-clause-gives
unfolding define_row define
returns-in_err-n-clause-gives c =
    let i = row_fits _ _ _ c.if-row-ge-ROWS.false c.if-kinds-base.false c.if-widths-base.false in
    let a = c.args in
    handed (Defines _ _ _ a.kinds.now a.widths.now (row_size * a.row)) _ c.from_residual.ensures.1 (pass_off _ _ i (off _ c.in_err-n.ensures))

pub returns-then-n-gt-MAX_OPERANDS-clause-gives : goal.returns-then-n-gt-MAX_OPERANDS-clause-gives
unfolding define_row define
returns-then-n-gt-MAX_OPERANDS-clause-gives c =
    let i = row_fits _ _ _ c.if-row-ge-ROWS.false c.if-kinds-base.false c.if-widths-base.false in
    pass_off _ _ i (then_off _ c.in_ok-n.ensures (fail _ (lt-leb _ 32 c.if-n-gt-MAX_OPERANDS.true)))

pub returns-clause-gives : goal.returns-clause-gives
returns-clause-gives c =
    let o = c.read_operands in
    let i = row_fits _ _ _ c.if-row-ge-ROWS.false c.if-kinds-base.false c.if-widths-base.false in
    define_more _ _ _ _ _ _ o.result i c.in_ok-n.ensures c.if-n-gt-MAX_OPERANDS.false o.ensures.gives
