use Rattle.text.specs.Page.{Writes}
use Rattle.replay.specs.Answer.{event_texts}
use Rattle.replay.proofs.answer.put_events.Given as goal

abbrev pub invariant-loop-i : goal.invariant-loop-i
invariant-loop-i l = Writes l.fn.page l.page (event_texts l.i l.events l.operands l.input)
