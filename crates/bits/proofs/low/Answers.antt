-- `bits::low` meets its contract: a shift up by 64 - n drops all but the n low bits, and the shift down brings them back. Assumes nothing.
use Rattle.bits.proofs.Laws.{two_shifts}
use Rattle.bits.proofs.low.Goals as goal

pub returns : goal.returns
returns c = two_shifts c.args.w c.args.n c.requires.1
