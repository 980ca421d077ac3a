-- `replay::answer::put_answer` meets its contract: a refusal, or the header with the events behind it. Assumes nothing.
use borrow.Author.Tests.{eq-eqb, ne_eqb}
use Rattle.bits.specs.Reader.{when◌then◌else◌}
use Rattle.text.proofs.Pages.{writes_then}
use Rattle.replay.specs.Answer.{answer_text}
use Rattle.replay.proofs.answer.put_answer.Goals as goal

pub returns-then-w-eq0 : goal.returns-then-w-eq0
unfolding answer_text when◌then◌else◌
returns-then-w-eq0 c = rw (eq-eqb _ 0 c.if-w-eq0.true) (writes_then c.put_header.ensures c.put_events.ensures)

pub returns-else-w-eq0 : goal.returns-else-w-eq0
unfolding answer_text when◌then◌else◌
returns-else-w-eq0 c = rw (ne_eqb _ 0 c.if-w-eq0.false) c.put_refused.ensures
