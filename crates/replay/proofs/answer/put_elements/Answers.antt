-- `replay::answer::put_elements` meets its contract: its pieces one behind the other. Assumes nothing.
use Rattle.text.proofs.Pages.{writes_then}
use Rattle.replay.proofs.answer.put_elements.Goals as goal

pub returns : goal.returns
returns c = writes_then c.bytes.ensures c.numbers.ensures
