-- `text::page::Page::kind` meets its contract: a name for each kind. Assumes nothing.
use native.Mathlib.Omega.{arith}
use borrow.Author.Tests.{ne_eqb}
use Rattle.bits.specs.Reader.{when◌then◌else◌}
use Rattle.text.specs.Dump.{codes, kind}
use Rattle.text.proofs.page.Page.kind.Goals as goal

pub returns-in-1 : goal.returns-in-1
unfolding codes kind when◌then◌else◌
returns-in-1 c = rw c.in-1.is c.bytes.ensures

pub returns-in-2 : goal.returns-in-2
unfolding codes kind when◌then◌else◌
returns-in-2 c = rw c.in-2.is c.bytes-in-2.ensures

pub returns-in-3 : goal.returns-in-3
unfolding codes kind when◌then◌else◌
returns-in-3 c = rw c.in-3.is c.bytes-in-3.ensures

pub returns-in-4 : goal.returns-in-4
unfolding codes kind when◌then◌else◌
returns-in-4 c = rw c.in-4.is c.bytes-in-4.ensures

pub returns-in_default : goal.returns-in_default
unfolding codes kind when◌then◌else◌
returns-in_default c = rw (ne_eqb c.args.kind 1 (omega arith), ne_eqb c.args.kind 2 (omega arith), ne_eqb c.args.kind 3 (omega arith), ne_eqb c.args.kind 4 (omega arith)) c.decimal.ensures
