use Rattle.abbrev.proofs.Rows.{Turn}
use Rattle.abbrev.proofs.read_operands.Given as goal

abbrev pub invariant-loop-i : goal.invariant-loop-i
invariant-loop-i l = Turn l.s l.initial.c l.total l.base l.initial.kinds l.initial.widths l.kinds l.widths l.c l.i
