-- `text::page::Page::signed` meets its contract: a negative number is `-` and its distance from 0. Assumes nothing.
use mathlib.Core.Path.{◌∙◌}
use Rattle.text.proofs.Pages.{writes_then}
use Rattle.text.proofs.Signs.{signed_less, signed_not_less, held_abs}
use Rattle.text.proofs.page.Page.signed.Goals.{then-v-lt0, else-v-lt0}
use Rattle.text.proofs.page.Page.signed.Goals as goal

pub returns : goal.returns
returns c =
    let e = c.unsigned_abs.ensures.value ∙ held_abs c.args.v c.ranges.v in
    elim c.if-v-lt0.branch [
      | then-v-lt0 w ↦ rw (signed_less c.args.v c.ranges.v w.if-v-lt0.true) (writes_then w.byte.ensures (rw (w.self-is, e) at c.decimal.ensures))
      | else-v-lt0 w ↦ rw (signed_not_less c.args.v c.ranges.v w.if-v-lt0.false) (rw (w.self-is, e) at c.decimal.ensures)
    ]
