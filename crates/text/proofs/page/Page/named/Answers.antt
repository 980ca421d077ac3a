-- `text::page::Page::named` meets its contract: the name, then the number. Assumes nothing.
use Rattle.text.proofs.Pages.{writes_then}
use Rattle.text.proofs.page.Page.named.Goals as goal

pub returns : goal.returns
returns c = writes_then c.bytes.ensures c.decimal.ensures
