-- `gleanrime::put_front` meets its contract: the lesser of the two lengths cuts nothing but what does not fit. Assumes nothing.
use native.Mathlib.Omega.{arith}
use lib.ListN.{drop_of_length-le}
use lib.Seq.{take_all}
use Rattle.gleanrime.specs.Told.{over}
use Rattle.gleanrime.proofs.put_front.Goals as goal

pub returns : goal.returns
unfolding over
returns c = grind (arith, take_all, drop_of_length-le)
