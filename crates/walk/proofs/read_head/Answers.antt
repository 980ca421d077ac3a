-- `walk::read_head` meets its contract: a block's number, then the rest of its head. Assumes nothing.
use borrow.Author.Tests.{le-ltb}
use Rattle.bits.proofs.Steps.{off, then_off, fail, handed}
use Rattle.walk.specs.Promises.{Heads}
use Rattle.walk.proofs.Records.{head_is, heads_as, heads_behind, heads_pass}
use Rattle.walk.proofs.read_head.Goals as goal

pub returns-in_err-block : goal.returns-in_err-block
returns-in_err-block c = handed (Heads _ _ _) _ c.from_residual.ensures.1 (rw head_is (off _ c.in_err-block.ensures))

pub returns-then-block-ge4294967296 : goal.returns-then-block-ge4294967296
returns-then-block-ge4294967296 c = rw head_is (then_off _ c.in_ok-block.ensures (fail _ (le-ltb _ 4294967296 c.if-block-ge4294967296.true)))

pub returns : goal.returns
returns c =
    heads_as _ _ c.read_head_width.result head_is
    (heads_behind _ c.read_head_width.result c.in_ok-block.ensures (heads_pass _ _ _ c.read_head_width.result c.if-block-ge4294967296.false c.read_head_width.ensures))
