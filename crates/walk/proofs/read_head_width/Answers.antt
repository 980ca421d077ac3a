-- `walk::read_head_width` meets its contract: a head behind its block number. Assumes nothing.
use Rattle.bits.proofs.Steps.{off, then_off, handed}
use Rattle.walk.specs.Promises.{head_width, Heads}
use Rattle.walk.proofs.Records.{heads_behind}
use Rattle.walk.proofs.read_head_width.Goals as goal

pub returns-in_err-width : goal.returns-in_err-width
unfolding head_width
returns-in_err-width c = handed (Heads _ _ _) _ c.from_residual.ensures.1 (off _ c.in_err-width.ensures)

pub returns-in_err-g : goal.returns-in_err-g
unfolding head_width
returns-in_err-g c = handed (Heads _ _ _) _ c.from_residual-in_err-g.ensures.1 (then_off _ c.in_ok-width.ensures (off _ c.in_err-g.ensures))

pub returns : goal.returns
unfolding head_width
returns c =
    heads_behind _ c.read_body_length.result c.in_ok-width.ensures
    (heads_behind _ c.read_body_length.result c.in_ok-g.ensures c.read_body_length.ensures)
