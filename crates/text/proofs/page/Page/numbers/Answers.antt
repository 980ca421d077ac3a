-- `text::page::Page::numbers` meets its contract: what is written so far is the text of the numbers so far. Assumes nothing.
use native.Mathlib.Omega.{arith}
use Rattle.text.specs.Text.{items}
use Rattle.text.proofs.Runs.{items_text}
use Rattle.text.proofs.Pages.{writes_none, writes_more}
use Rattle.text.proofs.page.Page.numbers.Goals as goal

pub loop-i-init : goal.loop-i-init
unfolding items
loop-i-init c = writes_none _

pub loop-i-preserved : goal.loop-i-preserved
loop-i-preserved c = writes_more items_text _ c.loop-i.i (omega arith) c.loop-i.invariant c.item.ensures
