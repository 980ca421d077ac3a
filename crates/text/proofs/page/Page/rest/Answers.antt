-- `text::page::Page::rest` meets its contract: each kind has its own. Assumes nothing.
use native.Mathlib.Omega.{arith}
use borrow.Author.Tests.{ne_eqb}
use Rattle.bits.specs.Reader.{when◌then◌else◌}
use Rattle.text.specs.Dump.{rest}
use Rattle.text.proofs.Pages.{writes_none}
use Rattle.text.proofs.page.Page.rest.Goals as goal

pub returns-in-1 : goal.returns-in-1
unfolding rest when◌then◌else◌
returns-in-1 c = rw c.in-1.is c.body.ensures

pub returns-in-4 : goal.returns-in-4
unfolding rest when◌then◌else◌
returns-in-4 c = rw c.in-4.is c.body-in-4.ensures

pub returns-in-3 : goal.returns-in-3
unfolding rest when◌then◌else◌
returns-in-3 c = rw c.in-3.is c.record.ensures

pub returns-in_default : goal.returns-in_default
unfolding rest when◌then◌else◌
returns-in_default c = rw (ne_eqb c.args.kind 1 (omega arith), ne_eqb c.args.kind 4 (omega arith), ne_eqb c.args.kind 3 (omega arith)) (writes_none _)
