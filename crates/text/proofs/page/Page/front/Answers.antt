-- `text::page::Page::front` meets its contract: its pieces one behind the other. Assumes nothing.
use Rattle.text.specs.Dump.{codes, named, front}
use Rattle.text.proofs.Pages.{writes_then}
use Rattle.text.proofs.page.Page.front.Goals as goal

pub returns : goal.returns
unfolding codes named front
returns c = writes_then (writes_then c.signature.ensures c.named.ensures) c.byte.ensures
