-- `text::page::Page::body` meets its contract: its pieces one behind the other. Assumes nothing.
use Rattle.text.specs.Dump.{codes, named, body}
use Rattle.text.proofs.Pages.{writes_then}
use Rattle.text.proofs.page.Page.body.Goals as goal

pub returns : goal.returns
unfolding codes named body
returns c = writes_then (writes_then (rw c.number_at.ensures at c.named.ensures) (rw c.number_at-2.ensures at c.named-2.ensures)) (rw c.number_at-3.ensures at c.named-3.ensures)
