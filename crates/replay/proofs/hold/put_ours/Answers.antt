-- `replay::hold::put_ours` meets its contract: the walk's outcome and stores are the definition's. Assumes nothing.
use borrow.Author.Rules.{rules}
use Rattle.text.proofs.Pages.{page_puts}
use Rattle.replay.specs.Answer.{text_of, answered}
use Rattle.replay.proofs.hold.put_ours.Goals as goal

pub returns : goal.returns
unfolding text_of answered
returns c =
    page_puts c.new-page.ensures (rw (c.from-w.ensures, c.walk.ensures.answer, c.walk.ensures.events, c.walk.ensures.operands) at c.put_answer.ensures) (search rules)
