-- `replay::answer::put_enter` meets its contract: its pieces one behind the other. Assumes nothing.
use Rattle.text.specs.Dump.{codes, named}
use Rattle.text.proofs.Pages.{writes_then}
use Rattle.replay.proofs.answer.put_enter.Goals as goal

pub returns : goal.returns
unfolding codes named
returns c = writes_then (rw c.number_at.ensures at c.named.ensures) (rw c.number_at-2.ensures at c.named-2.ensures)
