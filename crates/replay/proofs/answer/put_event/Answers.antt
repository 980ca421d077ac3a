-- `replay::answer::put_event` meets its contract: each kind has its own. Assumes nothing.
use native.Mathlib.Omega.{arith}
use borrow.Author.Tests.{ne_eqb}
use Rattle.bits.specs.Reader.{when◌then◌else◌}
use Rattle.text.specs.Dump.{codes, named}
use Rattle.text.proofs.Pages.{writes_none}
use Rattle.replay.specs.Answer.{event_text}
use Rattle.replay.proofs.answer.put_event.Goals as goal

pub returns-in-1 : goal.returns-in-1
unfolding event_text when◌then◌else◌
returns-in-1 c = rw c.in-1.is c.put_enter.ensures

pub returns-in-2 : goal.returns-in-2
unfolding codes named event_text when◌then◌else◌
returns-in-2 c = rw c.in-2.is (rw c.number_at.ensures at c.named.ensures)

pub returns-in-3 : goal.returns-in-3
unfolding event_text when◌then◌else◌
returns-in-3 c = rw c.in-3.is c.put_record.ensures

pub returns-in-4 : goal.returns-in-4
unfolding codes named event_text when◌then◌else◌
returns-in-4 c = rw c.in-4.is (rw c.number_at-in-4.ensures at c.named-in-4.ensures)

pub returns-in_default : goal.returns-in_default
unfolding event_text when◌then◌else◌
returns-in_default c = rw (ne_eqb c.args.kind 1 (omega arith), ne_eqb c.args.kind 2 (omega arith), ne_eqb c.args.kind 3 (omega arith), ne_eqb c.args.kind 4 (omega arith)) (writes_none _)
