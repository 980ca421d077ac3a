-- `abbrev::read_width` meets its contract: a VBR number, tested on both sides. Assumes nothing.
use mathlib.Core.Logic.{⊎_elim}
use borrow.Author.Tests.{le-leb, lt-leb}
use Rattle.bits.specs.Told.{of_read}
use Rattle.bits.proofs.Steps.{on, off, then_off, ends, pass, fail, handed_on}
use Rattle.abbrev.specs.Abbrev.{width}
use Rattle.abbrev.proofs.read_width.Goals as goal

pub returns-in_err-w : goal.returns-in_err-w
unfolding width
returns-in_err-w c = handed_on of_read _ _ _ _ _ c.from_residual.ensures.1 (off _ c.in_err-w.ensures)

pub returns-then-w-lt1 : goal.returns-then-w-lt1
unfolding width
returns-then-w-lt1 c =
    then_off _ c.in_ok-w.ensures
    (fail _ (⊎_elim (λ h. rw (lt-leb 1 _ h)) (λ h. rw (le-leb 1 _ h.0, lt-leb _ 32 h.1)) c.then-w-lt1.either))

pub returns : goal.returns
unfolding width
returns c = on _ c.in_ok-w.ensures (pass _ _ (rw (le-leb 1 _ c.if-w-lt1.false, le-leb _ 32 c.if-w-gt32.false)) ends)
