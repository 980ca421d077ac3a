-- `text::page::Page::hex` meets its contract: no bytes are `-`. Assumes nothing.
use native.Mathlib.Omega.{arith}
use Rattle.std.proofs.lemmas.Bool.Decides.{nat_tests}
use Rattle.text.proofs.Pages.{writes_then}
use Rattle.text.proofs.Runs.{hex_none, hex_some}
use Rattle.text.proofs.page.Page.hex.Goals.{then-is_empty, else-is_empty}
use Rattle.text.proofs.page.Page.hex.Goals as goal

pub returns : goal.returns
returns c =
    elim c.if-is_empty.branch [
      | then-is_empty w ↦ rw (hex_none c.args.s.now (grind (arith, nat_tests))) (writes_then w.byte.ensures (rw w.self-is at c.pairs.ensures))
      | else-is_empty w ↦ rw (hex_some c.args.s.now (grind (arith, nat_tests))) (rw w.self-is at c.pairs.ensures)
    ]
