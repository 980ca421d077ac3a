-- `walk::fill_run` meets its contract: each kind's arm hands the loop that kind's reader. Assumes nothing.
use Rattle.bits.proofs.Steps.{ends}
use Rattle.bitcode.specs.Scalar.{value}
use Rattle.walk.proofs.fill_run.Goals as goal

pub returns-in-Literal : goal.returns-in-Literal
unfolding value
returns-in-Literal c = rw c.in-Literal.is (c.fill.ensures _ _ (λ c' r p. rw p.1 ends))

pub returns-in-Fixed : goal.returns-in-Fixed
unfolding value
returns-in-Fixed c = rw c.in-Fixed.is (c.fill-in-Fixed.ensures _ _ (λ c' r p. p.1))

pub returns-in-Vbr : goal.returns-in-Vbr
unfolding value
returns-in-Vbr c = rw c.in-Vbr.is (c.fill-in-Vbr.ensures _ _ (λ c' r p. p.1))

pub returns-in-Char6 : goal.returns-in-Char6
returns-in-Char6 c = rw c.in-Char6.is (c.fill-in-Char6.ensures _ _ (λ c' r p. p.1))
