-- `text::page::Page::payload` meets its contract: each kind has its own. Assumes nothing.
use native.Mathlib.Omega.{arith}
use borrow.Author.Tests.{ne_eqb}
use Rattle.bits.specs.Reader.{when◌then◌else◌}
use Rattle.text.specs.Dump.{codes, named, list, payload}
use Rattle.text.proofs.Pages.{writes_then}
use Rattle.text.proofs.page.Page.payload.Goals as goal

pub returns-in-0 : goal.returns-in-0
unfolding codes payload when◌then◌else◌
returns-in-0 c = rw c.in-0.is c.bytes.ensures

pub returns-in-1 : goal.returns-in-1
unfolding codes list payload when◌then◌else◌
returns-in-1 c = rw c.in-1.is (rw c.numbers_of.ensures at c.list.ensures)

pub returns-in-2 : goal.returns-in-2
unfolding codes list payload when◌then◌else◌
returns-in-2 c = rw c.in-2.is (rw c.numbers_of-in-2.ensures at c.list-in-2.ensures)

pub returns-in-3 : goal.returns-in-3
unfolding codes named payload when◌then◌else◌
returns-in-3 c = rw c.in-3.is (writes_then c.named.ensures c.named-in-3.ensures)

pub returns-in_default : goal.returns-in_default
unfolding payload when◌then◌else◌
returns-in_default c = rw (ne_eqb c.args.kind 0 (omega arith), ne_eqb c.args.kind 1 (omega arith), ne_eqb c.args.kind 2 (omega arith), ne_eqb c.args.kind 3 (omega arith)) c.decimal.ensures
