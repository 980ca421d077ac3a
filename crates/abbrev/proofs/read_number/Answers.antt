-- `abbrev::read_number` meets its contract: the width is tested, and then so many bits are read. Assumes nothing.
use borrow.Author.Tests.{le-leb, lt-leb}
use Rattle.bits.specs.Reader.{◌>>=◌, onward, require}
use Rattle.bits.proofs.Steps.{fail}
use Rattle.abbrev.specs.Abbrev.{number_of}
use Rattle.abbrev.proofs.read_number.Goals as goal

pub returns-then-width-lt1 : goal.returns-then-width-lt1
unfolding number_of
returns-then-width-lt1 c = fail _ (rw (lt-leb 1 _ c.if-width-lt1.true))

pub returns-then-width-gt32 : goal.returns-then-width-gt32
unfolding number_of
returns-then-width-gt32 c = fail _ (rw (le-leb 1 _ c.if-width-lt1.false, lt-leb _ 32 c.if-width-gt32.true))

pub returns : goal.returns
unfolding number_of ◌>>=◌ onward require
returns c = rw (le-leb 1 _ c.if-width-lt1.false, le-leb _ 32 c.if-width-gt32.false) c.read.ensures
