-- `tally::sum_of` meets its contract: the sum in hand and the sum of what is left are the whole, and each number leaves fewer bits. Assumes nothing.
use Rattle.std.proofs.Common.{refl}
use Rattle.tally.proofs.Sums.{summing_start, summing_more, summing_over}
use Rattle.tally.proofs.sum_of.Goals as goal

pub loop-v-init : goal.loop-v-init
loop-v-init g c = λ m z. summing_start _ _ _ c.new-c.ensures

pub loop-v-preserved : goal.loop-v-preserved
loop-v-preserved g c =
    λ m z.
    let a = c.requires.forward _ _ _ c.in-Ok.ensures in
    summing_more (c.loop-v.invariant m z) (z _ _ c.in-Ok.ensures) (record { past = a.0; inside = a.1 }) refl

pub returns : goal.returns
returns g c = λ m z. summing_over (c.loop-v.invariant m z) (z _ _ c.in_default.ensures)
