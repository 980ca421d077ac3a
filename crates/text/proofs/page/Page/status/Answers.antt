-- `text::page::Page::status` meets its contract: its pieces one behind the other. Assumes nothing.
use Rattle.text.specs.Dump.{codes, named, status_line}
use Rattle.text.proofs.Pages.{writes_then}
use Rattle.text.proofs.page.Page.status.Goals as goal

pub returns : goal.returns
unfolding codes named status_line
returns c = writes_then (writes_then (writes_then (writes_then c.named.ensures c.named-2.ensures) c.named-3.ensures) c.named-4.ensures) c.byte.ensures
