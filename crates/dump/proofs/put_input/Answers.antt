-- `dump::put_input` meets its contract: the walk's outcome and stores are the definition's, and their text is the dump's. Assumes nothing.
use borrow.Author.Rules.{rules}
use borrow.Author.Tests.{lt-ltb, le-ltb}
use Rattle.bits.specs.Reader.{when◌then◌else◌}
use Rattle.text.proofs.Pages.{page_puts}
use Rattle.dump.specs.Dumped.{shown, dumped}
use Rattle.dump.proofs.put_input.Goals as goal

pub returns-then-input-gt-MOST : goal.returns-then-input-gt-MOST
unfolding dumped when◌then◌else◌
returns-then-input-gt-MOST c = rw (lt-ltb 65536 _ c.if-input-gt-MOST.true) (page_puts c.new-page.ensures (rw c.too_long.ensures at c.status.ensures) (search rules))

pub returns : goal.returns
unfolding dumped shown when◌then◌else◌
returns c =
    rw (le-ltb 65536 _ c.if-input-gt-MOST.false) (page_puts c.new-page.ensures (rw (c.from-w.ensures, c.walk.ensures.answer, c.walk.ensures.events, c.walk.ensures.operands) at c.dump.ensures) (search rules))
