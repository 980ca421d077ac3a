-- `walk::fill_scalars` meets its contract: the code, and the operands in the front of the store's rest. Assumes nothing.
use native.Mathlib.Omega.{arith}
use Rattle.bits.proofs.Steps.{handed}
use Rattle.walk.specs.Promises.{Scalars}
use Rattle.walk.proofs.Runs.{taking_start, took_full, took_off, took_more, took_scalars, set_code, set_rest}
use Rattle.walk.proofs.fill_scalars.Goals as goal
use Rattle.walk.proofs.fill_scalars.Goals.{then-i-eq0, else-i-eq0}

pub loop-i-init : goal.loop-i-init
loop-i-init c = taking_start _ _ _ _ _ _ _

pub returns-then-rest-i : goal.returns-then-rest-i
returns-then-rest-i c = took_full c.loop-i.invariant (omega arith) (omega arith)

pub returns-in_err-v : goal.returns-in_err-v
returns-in_err-v c =
    let x = rw c.scalar_operand-k.ensures at c.in_err-v.ensures in
    handed (Scalars _ _ _ _ _ _) _ c.from_residual.ensures.1 (took_off c.loop-i.invariant (omega arith) (omega arith) x)

pub loop-i-preserved : goal.loop-i-preserved
loop-i-preserved c =
    let l = c.loop-i in
    let v = c.in_ok-v.v in
    let x = rw c.scalar_operand-k.ensures at c.in_ok-v.ensures in
    took_more l.invariant (omega arith) (omega arith) x (elim c.if-i-eq0.branch [ then-i-eq0 w ↦ set_code l.code l.rest l.i v w.if-i-eq0.true w.rest-is w.code-is | else-i-eq0 w ↦ set_rest l.code l.rest l.i v w.if-i-eq0.false w.rest-is w.code-is ])

pub returns : goal.returns
returns c = took_scalars c.loop-i.invariant (omega arith) (omega arith)
