-- `text::page::Page::event` meets its contract: its pieces one behind the other. Assumes nothing.
use Rattle.text.specs.Dump.{codes, event_line}
use Rattle.text.proofs.Pages.{writes_then}
use Rattle.text.proofs.page.Page.event.Goals as goal

pub returns : goal.returns
unfolding codes event_line
returns c = writes_then (writes_then c.head.ensures (rw c.number_at.ensures at c.rest.ensures)) c.byte.ensures
