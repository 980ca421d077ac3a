use Rattle.bits.proofs.+field_far.Given as goal

abbrev pub decreases-field_far : goal.decreases-field_far
decreases-field_far l = l.n
