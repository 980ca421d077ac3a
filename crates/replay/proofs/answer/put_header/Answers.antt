-- `replay::answer::put_header` meets its contract: its pieces one behind the other. Assumes nothing.
use Rattle.text.specs.Dump.{codes, named}
use Rattle.text.proofs.Pages.{writes_then}
use Rattle.replay.specs.Answer.{header}
use Rattle.replay.proofs.answer.put_header.Goals as goal

pub returns : goal.returns
unfolding codes named header
returns c = writes_then (writes_then (writes_then (writes_then (writes_then c.named.ensures c.named-2.ensures) c.named-3.ensures) c.named-4.ensures) c.named-5.ensures) c.named-6.ensures
