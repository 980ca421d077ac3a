-- `replay::answer::put_refused` meets its contract: its pieces one behind the other. Assumes nothing.
use Rattle.text.specs.Dump.{codes, named}
use Rattle.text.proofs.Pages.{writes_then}
use Rattle.replay.specs.Answer.{refused}
use Rattle.replay.proofs.answer.put_refused.Goals as goal

pub returns : goal.returns
unfolding codes named refused
returns c = writes_then (writes_then c.decimal.ensures c.named.ensures) c.named-2.ensures
