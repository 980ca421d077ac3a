-- `replay::answer::put_payload` meets its contract: each kind has its own. Assumes nothing.
use native.Mathlib.Omega.{arith}
use borrow.Author.Tests.{ne_eqb}
use Rattle.bits.specs.Reader.{when◌then◌else◌}
use Rattle.text.specs.Dump.{codes}
use Rattle.text.proofs.Pages.{writes_none, writes_then}
use Rattle.replay.specs.Answer.{payload}
use Rattle.replay.proofs.answer.put_payload.Goals as goal

pub returns-in-1 : goal.returns-in-1
unfolding codes payload when◌then◌else◌
returns-in-1 c = rw c.in-1.is (rw c.numbers_of.ensures at c.put_elements.ensures)

pub returns-in-2 : goal.returns-in-2
unfolding codes payload when◌then◌else◌
returns-in-2 c = rw c.in-2.is (rw c.numbers_of-in-2.ensures at c.put_elements-in-2.ensures)

pub returns-in-3 : goal.returns-in-3
unfolding codes payload when◌then◌else◌
returns-in-3 c = rw c.in-3.is (writes_then c.byte.ensures (rw c.blob.ensures at c.pairs.ensures))

pub returns-in_default : goal.returns-in_default
unfolding payload when◌then◌else◌
returns-in_default c = rw (ne_eqb c.args.kind 1 (omega arith), ne_eqb c.args.kind 2 (omega arith), ne_eqb c.args.kind 3 (omega arith)) (writes_none _)
