-- `walk::fill` meets its contract: so many operands stand in the front of the store's rest, as many as have room. Assumes nothing.
use Rattle.std.proofs.Common.{arith, refl, length-set}
use Rattle.bits.proofs.Steps.{handed}
use Rattle.walk.specs.Promises.{Runs}
use Rattle.walk.proofs.Runs.{filling_start, filled, filled_full, filled_off, filled_more}
use Rattle.walk.proofs.fill.Goals as goal

pub loop-i-init : goal.loop-i-init
loop-i-init g c = (λ s k z. filling_start _ _ _ _ _, omega (arith, c.min-n.ensures), refl)

pub returns-in_err-v : goal.returns-in_err-v
returns-in_err-v g c =
    let i = c.loop-i.invariant in
    λ s k z.
    handed (Runs _ _ _ _ _) _ c.from_residual.ensures.1
    (filled_off (i.0 s k z) (omega (arith, i.1)) (omega (arith, i.1, i.2)) (z _ _ c.in_err-v.ensures))

pub loop-i-preserved : goal.loop-i-preserved
loop-i-preserved g c =
    let i = c.loop-i.invariant in
    (λ s k z. filled_more (i.0 s k z) (omega (arith, i.1)) (omega (arith, i.1, i.2)) (z _ _ c.in_ok-v.ensures), i.1, simp length-set i.2)

pub returns-then-n-count : goal.returns-then-n-count
returns-then-n-count g c =
    let i = c.loop-i.invariant in
    λ s k z. filled_full (i.0 s k z) (omega (arith, i.1)) (omega (arith, i.1, i.2))

pub returns : goal.returns
returns g c =
    let i = c.loop-i.invariant in
    λ s k z. filled (i.0 s k z) (omega (arith, i.1))
