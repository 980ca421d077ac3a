-- `text::page::Page::events` meets its contract: what is written so far is the lines of the events so far. Assumes nothing.
use Rattle.text.specs.Dump.{event_lines}
use Rattle.text.proofs.Pages.{writes_none, writes_then}
use Rattle.text.proofs.Parts.{lines_more}
use Rattle.text.proofs.page.Page.events.Goals as goal

pub loop-i-init : goal.loop-i-init
unfolding event_lines
loop-i-init c = writes_none _

pub loop-i-preserved : goal.loop-i-preserved
loop-i-preserved c = rw lines_more (writes_then c.loop-i.invariant (rw c.entry.ensures at c.event.ensures))
