-- `text::page::Page::head` meets its contract: its pieces one behind the other. Assumes nothing.
use Rattle.text.specs.Dump.{codes, named, head}
use Rattle.text.proofs.Pages.{writes_then}
use Rattle.text.proofs.page.Page.head.Goals as goal

pub returns : goal.returns
unfolding codes named head
returns c = writes_then (writes_then (writes_then c.named.ensures c.bytes.ensures) (rw c.number_at.ensures at c.kind.ensures)) (rw c.number_at-2.ensures at c.named-2.ensures)
