-- `gleanrime::six_of` meets its contract: the six numbers stand in their order. Assumes nothing.
use mathlib.Core.Path.{refl}
use Rattle.gleanrime.specs.Header.{six}
use Rattle.gleanrime.proofs.six_of.Goals as goal

pub returns : goal.returns
unfolding six
returns c = refl
