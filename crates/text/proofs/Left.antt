-- How many lines of the input may come, from one on: the measure of a loop over them. Assumes nothing.
use Prim.Native.Nat.{ℕ, suc}
use Rattle.std.specs.Prelude.{Option, None, Some}
use Rattle.text.specs.declared.feed.Line.{Line}

abbrev pub lines_from : Option Line → ℕ
lines_from None = 0
lines_from (Some line) = suc line.left
