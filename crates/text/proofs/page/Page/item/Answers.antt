-- `text::page::Page::item` meets its contract: the first has no comma. Assumes nothing.
use native.Mathlib.Omega.{arith}
use Rattle.text.proofs.Pages.{writes_then}
use Rattle.text.proofs.Runs.{first_item, later_item}
use Rattle.text.proofs.page.Page.item.Goals.{then-i-gt0, else-i-gt0}
use Rattle.text.proofs.page.Page.item.Goals as goal

pub returns : goal.returns
returns c =
    elim c.if-i-gt0.branch [
      | then-i-gt0 w ↦ rw (later_item c.args.i c.args.v (omega arith)) (writes_then w.byte.ensures (rw w.self-is at c.decimal.ensures))
      | else-i-gt0 w ↦ rw (first_item c.args.i c.args.v (omega arith)) (rw w.self-is at c.decimal.ensures)
    ]
