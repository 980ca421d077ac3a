-- `replay::hold::held` meets its contract: what stands whole in our buffer is compared. Assumes nothing.
use Rattle.replay.proofs.Answers.{holds_whole}
use Rattle.replay.proofs.hold.held.Goals as goal

pub returns-then-fill-ours-clause-same : goal.returns-then-fill-ours-clause-same
returns-then-fill-ours-clause-same c = holds_whole c.put_ours-fill.ensures c.if-fill-ours.true (rw c.front.ensures at c.same_bytes-same.ensures)
