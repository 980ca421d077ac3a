use Rattle.abbrev.proofs.Records.{Spelling}
use Rattle.abbrev.proofs.read_letters.Given as goal

abbrev pub invariant-loop : goal.invariant-loop
invariant-loop l = Spelling l.s l.count l.initial.c l.c l.counter
