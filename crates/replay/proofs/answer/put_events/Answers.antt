-- `replay::answer::put_events` meets its contract: what is written so far is the text of the events so far. Assumes nothing.
use Rattle.text.proofs.Pages.{writes_none, writes_then}
use Rattle.replay.specs.Answer.{event_texts}
use Rattle.replay.proofs.Answers.{texts_more}
use Rattle.replay.proofs.answer.put_events.Goals as goal

pub loop-i-init : goal.loop-i-init
unfolding event_texts
loop-i-init c = writes_none _

pub loop-i-preserved : goal.loop-i-preserved
loop-i-preserved c = rw texts_more (writes_then c.loop-i.invariant (rw (c.number_at.ensures, c.entry-e.ensures) at c.put_event.ensures))
