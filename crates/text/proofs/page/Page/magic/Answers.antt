-- `text::page::Page::magic` meets its contract: its pieces one behind the other. Assumes nothing.
use Rattle.text.proofs.Pages.{writes_then}
use Rattle.text.proofs.page.Page.magic.Goals as goal

pub returns : goal.returns
returns c = writes_then c.bytes.ensures c.word.ensures
