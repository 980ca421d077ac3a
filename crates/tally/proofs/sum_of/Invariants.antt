use Rattle.std.proofs.Common.{ℕ, ◌-◌}
use Rattle.terms.specs.Refusals.{No}
use Rattle.bits.specs.Reader.{Reader}
use Rattle.bits.specs.Bits.{limit}
use Rattle.tally.specs.Total.{Reads}
use Rattle.tally.proofs.Sums.{Summing}
use Rattle.tally.proofs.sum_of.Given as goal

abbrev pub invariant-loop-v : goal.invariant-loop-v
invariant-loop-v g l = (m : Reader No ℕ) → Reads l.s m (goal.F-post g l.next) → Summing m l.s l.c l.sum

abbrev pub decreases-loop-v : goal.decreases-loop-v
decreases-loop-v g l = limit l.s l.c.end - l.c.at
