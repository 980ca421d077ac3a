use Rattle.text.specs.Page.{Writes}
use Rattle.text.specs.Dump.{event_lines}
use Rattle.text.proofs.page.Page.events.Given as goal

abbrev pub invariant-loop-i : goal.invariant-loop-i
invariant-loop-i l = Writes l.fn.self l.self (event_lines l.i l.events l.operands)
