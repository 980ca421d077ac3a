-- `replay::answer::put_record` meets its contract: its pieces one behind the other. Assumes nothing.
use Rattle.text.specs.Dump.{codes, named}
use Rattle.text.proofs.Pages.{writes_then}
use Rattle.replay.specs.Answer.{record_text}
use Rattle.replay.proofs.answer.put_record.Goals as goal

pub returns : goal.returns
unfolding codes named record_text
returns c = writes_then (writes_then (writes_then (rw c.number_at.ensures at c.named.ensures) (rw c.number_at-2.ensures at c.named-2.ensures)) (rw (c.numbers_of-values.ensures, c.number_at-3.ensures, c.number_at-4.ensures) at c.put_behind_commas.ensures)) (rw (c.number_at-5.ensures, c.number_at-6.ensures, c.number_at-7.ensures) at c.put_payload.ensures)
