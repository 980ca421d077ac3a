-- `tally::tally_fields6` meets its contract: it is the sum of `fields`, of this width. Assumes nothing.
use Rattle.tally.proofs.tally_fields6.Goals as goal

pub returns : goal.returns
returns c = c.fields.ensures
