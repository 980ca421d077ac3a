-- `text::page::Page::signature` meets its contract: its pieces one behind the other. Assumes nothing.
use Rattle.text.specs.Dump.{codes, magic, signature}
use Rattle.text.proofs.Pages.{writes_then}
use Rattle.text.proofs.page.Page.signature.Goals as goal

pub returns : goal.returns
unfolding codes magic signature
returns c = writes_then (writes_then c.magic.ensures c.fields.ensures) c.magic-2.ensures
