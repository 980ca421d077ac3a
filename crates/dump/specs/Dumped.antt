-- What the dump says of an input (01, "Bench samples"). Assumes nothing.
use Rattle.std.specs.Prelude.{List, [], ℕ, length, ltb}
use Rattle.bits.specs.Reader.{when◌then◌else◌}
use Rattle.walk.specs.declared.Walked.{Walked}
use Rattle.walk.specs.Walk.{Result, walked}
use Rattle.walk.specs.Promises.{answer}
use Rattle.text.specs.Dump.{status_line, dump}

-- "more is 15": the place and the details are zero
abbrev pub too_long : Walked
too_long = record {
  status = 15;
  place = 0;
  first = 0;
  second = 0;
  header = record { magic = 0; magic2 = 0; version = 0; offset = 0; size = 0; cpu = 0 };
  events = 0;
  operands = 0;
}

-- the text of what a walk gives
unfoldable pub shown : Result → List ℕ
shown r = dump (answer r) r.event_store r.operand_store

-- "The dump reads at most 65,536 bytes of standard input; more is 15. It lends two stores of 8,192 numbers and an empty skip list"
unfoldable pub dumped : List ℕ → List ℕ
dumped input = when ltb 65536 (length input) then status_line too_long else shown (walked input [] 8192 8192)
