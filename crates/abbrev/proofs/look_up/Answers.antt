-- `abbrev::look_up` meets its contract: the tests in their order say which row the number stands for, if any. Assumes nothing.
use mathlib.Core.Logic.{⊎_elim}
use native.Mathlib.Omega.{arith}
use Rattle.abbrev.proofs.Held.{row_low, row_own, row_local, row_past}
use Rattle.abbrev.proofs.look_up.Goals as goal

pub returns-then-n-lt4 : goal.returns-then-n-lt4
returns-then-n-lt4 c =
    let a = c.args in
    rw (row_low a.shared.now a.base a.local a.number.0 c.if-n-lt4.true)

pub returns-then-i-own : goal.returns-then-i-own
returns-then-i-own c =
    let a = c.args in
    rw (row_own a.shared.now a.base a.local a.number.0 c.if-n-lt4.false c.if-i-own.true)

pub returns-then-local-gt-MAX_LOCAL : goal.returns-then-local-gt-MAX_LOCAL
returns-then-local-gt-MAX_LOCAL c =
    let a = c.args in
    rw (row_past a.shared.now a.base a.local a.number.0 c.if-n-lt4.false c.if-i-own.false (λ l. ⊎_elim (λ w. omega arith) (λ w. omega arith) c.then-local-gt-MAX_LOCAL.either))

pub returns-then-local-base-2 : goal.returns-then-local-base-2
returns-then-local-base-2 c =
    let a = c.args in
    rw (row_past a.shared.now a.base a.local a.number.0 c.if-n-lt4.false c.if-i-own.false (λ l. c.if-local-base-2.true))

pub returns : goal.returns
returns c =
    let a = c.args in
    rw (row_local a.shared.now a.base a.local a.number.0 c.if-n-lt4.false c.if-i-own.false c.if-local-gt-MAX_LOCAL.false c.if-local-base-2.false)
