-- `abbrev::read_abbrev_op` meets its contract: a literal behind a bit 1, else an operand of the kind that three bits name. Assumes nothing.
use borrow.Author.Tests.{eq-eqb, ne_eqb}
use Rattle.bits.specs.Reader.{when◌then◌else◌}
use Rattle.bits.proofs.Steps.{on, off, then_off, ends, yes_at, yes_off, no_off, on_told, handed_on}
use Rattle.abbrev.specs.Abbrev.{operand}
use Rattle.abbrev.specs.Tables.{of_operand}
use Rattle.abbrev.proofs.read_abbrev_op.Goals as goal

pub returns-in_err-b : goal.returns-in_err-b
unfolding operand
returns-in_err-b c = handed_on of_operand _ _ _ _ _ c.from_residual.ensures.1 (off _ c.in_err-b.ensures)

pub returns-in_err-v : goal.returns-in_err-v
unfolding operand
returns-in_err-v c =
    handed_on of_operand _ _ _ _ _ c.from_residual-in_err-v.ensures.1
    (then_off _ c.in_ok-b.ensures (yes_off _ _ (eq-eqb _ 1 c.if-b-eq1.true) (off _ c.in_err-v.ensures)))

pub returns-then-b-eq1 : goal.returns-then-b-eq1
unfolding operand
returns-then-b-eq1 c = on _ c.in_ok-b.ensures (yes_at _ _ (eq-eqb _ 1 c.if-b-eq1.true) (on _ c.in_ok-v.ensures ends))

pub returns-in_err-k : goal.returns-in_err-k
unfolding operand
returns-in_err-k c =
    handed_on of_operand _ _ _ _ _ c.from_residual-in_err-k.ensures.1
    (then_off _ c.in_ok-b.ensures (no_off _ _ (ne_eqb _ 1 c.if-b-eq1.false) (off _ c.in_err-k.ensures)))

pub returns : goal.returns
unfolding operand when◌then◌else◌
returns c =
    let t = of_operand c.read_kind.result in
    on_told _ t c.in_ok-b.ensures (rw (ne_eqb _ 1 c.if-b-eq1.false) (on_told _ t c.in_ok-k.ensures c.read_kind.ensures))
