-- `bitcode::wrapped` meets its contract: each exit stands behind the tests that settle `wrapped`'s, and the words read are the definition's. Assumes nothing.
use native.Mathlib.Omega.{arith}
use Rattle.bitcode.proofs.Headers.{wrapped_short, wrapped_outside, wrapped_small, wrapped_there}
use Rattle.bitcode.specs.Header.{parsed}
use Rattle.bitcode.proofs.wrapped.Goals as goal

pub returns-then-input-lt20 : goal.returns-then-input-lt20
unfolding parsed
returns-then-input-lt20 c = rw (wrapped_short _ c.if-input-lt20.true)

pub returns-then-input-offset : goal.returns-then-input-offset
unfolding parsed
returns-then-input-offset c = rw (wrapped_outside c.args.input.now (omega arith) (omega arith))

pub returns-then-size-lt4 : goal.returns-then-size-lt4
unfolding parsed
returns-then-size-lt4 c = rw (wrapped_small c.args.input.now (omega arith) (omega arith) (omega arith))

pub returns : goal.returns
unfolding parsed
returns c = rw (wrapped_there c.args.input.now (omega arith) (omega arith) (omega arith)) (cc)
