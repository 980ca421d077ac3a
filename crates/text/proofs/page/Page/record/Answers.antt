-- `text::page::Page::record` meets its contract: its pieces one behind the other. Assumes nothing.
use Rattle.text.specs.Dump.{codes, named, list, record_text}
use Rattle.text.proofs.Pages.{writes_then}
use Rattle.text.proofs.page.Page.record.Goals as goal

pub returns : goal.returns
unfolding codes named list record_text
returns c = writes_then (writes_then (writes_then (rw c.number_at.ensures at c.named.ensures) (rw (c.numbers_of-values.ensures, c.number_at-2.ensures, c.number_at-3.ensures) at c.list.ensures)) c.bytes.ensures) (rw (c.number_at-4.ensures, c.number_at-5.ensures, c.number_at-6.ensures) at c.payload.ensures)
