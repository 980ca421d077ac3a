-- `abbrev::read_kind` meets its contract: each arm reads what its kind asks for, and tests how many operands are left. Assumes nothing.
use mathlib.Core.Path.{refl}
use native.Mathlib.Omega.{arith}
use borrow.Author.Tests.{ne_eqb}
use Rattle.bits.specs.Reader.{when◌then◌else◌, stop}
use Rattle.bits.proofs.Steps.{on, off, ends, handed_on}
use Rattle.abbrev.specs.Abbrev.{kind}
use Rattle.abbrev.specs.Tables.{of_operand}
use Rattle.abbrev.proofs.read_kind.Goals as goal

pub returns-in_err-w-in-1 : goal.returns-in_err-w-in-1
unfolding kind when◌then◌else◌
returns-in_err-w-in-1 c = handed_on of_operand _ _ _ _ _ c.from_residual.ensures.1 (rw c.in-1.is (off _ c.in_err-w-in-1.ensures))

pub returns-in_err-w-in-2 : goal.returns-in_err-w-in-2
unfolding kind when◌then◌else◌
returns-in_err-w-in-2 c = handed_on of_operand _ _ _ _ _ c.from_residual-in_err-w-in-2.ensures.1 (rw c.in-2.is (off _ c.in_err-w-in-2.ensures))

pub returns-in_ok-w-in-1 : goal.returns-in_ok-w-in-1
unfolding kind when◌then◌else◌
returns-in_ok-w-in-1 c = rw c.in-1.is (on _ c.in_ok-w-in-1.ensures ends)

pub returns-in_ok-w-in-2 : goal.returns-in_ok-w-in-2
unfolding kind when◌then◌else◌
returns-in_ok-w-in-2 c = rw c.in-2.is (on _ c.in_ok-w-in-2.ensures ends)

pub returns-in-3 : goal.returns-in-3
unfolding kind when◌then◌else◌
returns-in-3 c = rw (c.in-3.is, c.if-left-eq1.true) ends

pub returns-in-4 : goal.returns-in-4
unfolding kind when◌then◌else◌
returns-in-4 c = rw c.in-4.is ends

pub returns-in-5 : goal.returns-in-5
unfolding kind when◌then◌else◌
returns-in-5 c = rw (c.in-5.is, c.if-left-eq0.true) ends

pub returns-in_default : goal.returns-in_default
unfolding kind when◌then◌else◌ stop
returns-in_default c = rw (c.in-3.is, ne_eqb _ 1 c.if-left-eq1.false) (record { why = refl })

pub returns-in_default-2 : goal.returns-in_default-2
unfolding kind when◌then◌else◌ stop
returns-in_default-2 c = rw (c.in-5.is, ne_eqb _ 0 c.if-left-eq0.false) (record { why = refl })

pub returns-in_default-3 : goal.returns-in_default-3
unfolding kind when◌then◌else◌ stop
returns-in_default-3 c =
    let k = c.args.k in
    rw (ne_eqb k 1 (λ h. omega arith), ne_eqb k 2 (λ h. omega arith), ne_eqb k 3 (λ h. omega arith), ne_eqb k 4 (λ h. omega arith), ne_eqb k 5 (λ h. omega arith))
    (record { why = refl })
