-- `text::lines::shown` meets its contract: the lesser of two. Assumes nothing.
use native.Mathlib.Omega.{arith}
use Rattle.text.specs.Dump.{shown}
use Rattle.text.proofs.lines.shown.Goals as goal

pub returns : goal.returns
unfolding shown
returns c = omega (arith, c.min.ensures)
