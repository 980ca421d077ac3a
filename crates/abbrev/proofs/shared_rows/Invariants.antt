use Rattle.abbrev.proofs.Held.{Picking}
use Rattle.abbrev.proofs.shared_rows.Given as goal

abbrev pub invariant-loop-j : goal.invariant-loop-j
invariant-loop-j l = Picking l.block.0 l.owners l.initial.rows l.many l.rows l.j l.k
