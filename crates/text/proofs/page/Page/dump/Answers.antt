-- `text::page::Page::dump` meets its contract: its pieces one behind the other, and the first alone for a refusal. Assumes nothing.
use borrow.Author.Tests.{eq-eqb, ne_eqb}
use Rattle.bits.specs.Reader.{when◌then◌else◌}
use Rattle.text.specs.Dump.{dump}
use Rattle.text.proofs.Pages.{writes_then}
use Rattle.text.proofs.page.Page.dump.Goals as goal

pub returns-then-w-eq0 : goal.returns-then-w-eq0
unfolding dump when◌then◌else◌
returns-then-w-eq0 c = rw (eq-eqb _ 0 c.if-w-eq0.true) (writes_then (writes_then c.status.ensures c.front.ensures) c.events.ensures)

pub returns-else-w-eq0 : goal.returns-else-w-eq0
unfolding dump when◌then◌else◌
returns-else-w-eq0 c = rw (ne_eqb _ 0 c.if-w-eq0.false) c.status.ensures
