-- `gleanrime::numbers_of` meets its contract: the twelve numbers stand in their order. Assumes nothing.
use mathlib.Core.Path.{refl}
use Rattle.gleanrime.specs.Told.{numbers}
use Rattle.gleanrime.proofs.numbers_of.Goals as goal

pub returns : goal.returns
unfolding numbers
returns c = refl
