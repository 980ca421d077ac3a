-- `tally::fields` meets its contract: its reader goes forward, and answers what the definition's reads. Assumes nothing.
use Rattle.bits.proofs.Vbr.{read_ahead}
use Rattle.tally.proofs.fields.Goals as goal

pub sum_of-requires-clause-forward : goal.sum_of-requires-clause-forward
sum_of-requires-clause-forward c = λ c' v d p. let a = read_ahead _ _ _ _ _ _ p.1.gives in (a.past, a.inside, p.1.ends)

pub returns : goal.returns
returns c = c.sum_of.ensures _ (λ c' r p. p.1)
