-- `text::page::Page::pairs` meets its contract: what is written so far is the text of the bytes so far. Assumes nothing.
use native.Mathlib.Omega.{arith}
use Rattle.text.specs.Text.{pairs}
use Rattle.text.proofs.Runs.{pairs_text}
use Rattle.text.proofs.Pages.{writes_none, writes_more}
use Rattle.text.proofs.page.Page.pairs.Goals as goal

pub loop-b-init : goal.loop-b-init
unfolding pairs
loop-b-init c = writes_none _

pub loop-b-preserved : goal.loop-b-preserved
loop-b-preserved c = writes_more pairs_text _ c.loop-b.b-index (omega arith) c.loop-b.invariant c.pair.ensures
