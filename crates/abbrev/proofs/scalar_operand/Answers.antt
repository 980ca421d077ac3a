-- `abbrev::scalar_operand` meets its contract: each arm makes the operand of its kind. Assumes nothing.
use native.Mathlib.Omega.{arith}
use borrow.Author.Tests.{ne_eqb}
use Rattle.bits.specs.Reader.{when◌then◌else◌}
use Rattle.abbrev.specs.Tables.{scalar_of}
use Rattle.abbrev.proofs.scalar_operand.Goals as goal

pub returns-in-0 : goal.returns-in-0
unfolding scalar_of when◌then◌else◌
returns-in-0 c = rw c.in-0.is

pub returns-in-1 : goal.returns-in-1
unfolding scalar_of when◌then◌else◌
returns-in-1 c = rw c.in-1.is

pub returns-in-2 : goal.returns-in-2
unfolding scalar_of when◌then◌else◌
returns-in-2 c = rw c.in-2.is

pub returns-in_default : goal.returns-in_default
unfolding scalar_of when◌then◌else◌
returns-in_default c =
    let k = c.args.kind in
    rw (ne_eqb k 0 (λ h. omega arith), ne_eqb k 1 (λ h. omega arith), ne_eqb k 2 (λ h. omega arith))
