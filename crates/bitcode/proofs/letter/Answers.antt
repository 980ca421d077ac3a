-- `bitcode::letter` meets its contract: each arm's range settles the tests of `ascii`, and the sums are the same. Assumes nothing.
-- where the first match's arms meet: right for what stands behind the two alphabets
use native.Mathlib.Omega.{arith}
use borrow.Author.Tests.{lt-ltb, le-ltb, ne_eqb}
use Rattle.bits.specs.Reader.{when◌then◌else◌}
use Rattle.bitcode.specs.Scalar.{ascii}
use Rattle.bitcode.proofs.letter.Goals as goal
use Rattle.bitcode.proofs.letter.Goals.{in-62, in-52-to-61, in_default, in_default-2}

pub returns-in-0-to-25 : goal.returns-in-0-to-25
unfolding ascii when◌then◌else◌
returns-in-0-to-25 c =
    let v = c.args.v in
    rw (lt-ltb v 26 (omega arith))

pub returns-in-26-to-51 : goal.returns-in-26-to-51
unfolding ascii when◌then◌else◌
returns-in-26-to-51 c =
    let v = c.args.v in
    rw (le-ltb v 26 (omega arith), lt-ltb v 52 (omega arith)) (omega arith)

pub returns-in_default-v : goal.returns-in_default-v
unfolding ascii when◌then◌else◌
returns-in_default-v c =
    let v = c.args.v in
    elim c.match-v.branch [
      | in-62 w ↦ rw w.in-62.is (omega arith)
      | in-52-to-61 w ↦ rw (le-ltb v 26 (omega arith), le-ltb v 52 (omega arith), lt-ltb v 62 (omega arith)) (omega arith)
      | in_default w ↦ absurd (omega arith)
      | in_default-2 w ↦ rw (le-ltb v 26 (omega arith), le-ltb v 52 (omega arith), le-ltb v 62 (omega arith), ne_eqb v 62 (λ h. omega arith)) (omega arith)
    ]
