-- `abbrev::slot_of` meets its contract: each arm gives the numbers of its operand's kind. Assumes nothing.
use mathlib.Core.Path.{sym}
use Rattle.bits.specs.Reader.{when◌then◌else◌}
use Rattle.abbrev.specs.Tables.{scalar_of}
use Rattle.abbrev.proofs.slot_of.Goals as goal

pub returns-in-Literal : goal.returns-in-Literal
unfolding scalar_of when◌then◌else◌
returns-in-Literal c = sym c.in-Literal.is

pub returns-in-Fixed : goal.returns-in-Fixed
unfolding scalar_of when◌then◌else◌
returns-in-Fixed c = sym c.in-Fixed.is

pub returns-in-Vbr : goal.returns-in-Vbr
unfolding scalar_of when◌then◌else◌
returns-in-Vbr c = sym c.in-Vbr.is

pub returns-in-Char6 : goal.returns-in-Char6
unfolding scalar_of when◌then◌else◌
returns-in-Char6 c = sym c.in-Char6.is
