-- `text::page::Page::list` meets its contract: an empty list is `-`. Assumes nothing.
use native.Mathlib.Omega.{arith}
use Rattle.std.proofs.lemmas.Bool.Decides.{nat_tests}
use Rattle.text.specs.Dump.{codes}
use Rattle.text.proofs.Pages.{writes_then}
use Rattle.text.proofs.Parts.{listed_none, listed_some}
use Rattle.text.proofs.page.Page.list.Goals.{then-is_empty, else-is_empty}
use Rattle.text.proofs.page.Page.list.Goals as goal

pub returns : goal.returns
unfolding codes
returns c =
    elim c.if-is_empty.branch [
      | then-is_empty w ↦ rw (listed_none c.args.numbers.now (grind (arith, nat_tests))) (writes_then c.bytes.ensures (writes_then w.byte.ensures (rw w.self-is at c.numbers.ensures)))
      | else-is_empty w ↦ rw (listed_some c.args.numbers.now (grind (arith, nat_tests))) (writes_then c.bytes.ensures (rw w.self-is at c.numbers.ensures))
    ]
