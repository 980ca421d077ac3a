-- `text::page::Page::fields` meets its contract: its pieces one behind the other. Assumes nothing.
use Rattle.text.specs.Dump.{codes, named, fields}
use Rattle.text.proofs.Pages.{writes_then}
use Rattle.text.proofs.page.Page.fields.Goals as goal

pub returns : goal.returns
unfolding codes named fields
returns c = writes_then (writes_then (writes_then c.named.ensures c.named-2.ensures) c.named-3.ensures) c.named-4.ensures
