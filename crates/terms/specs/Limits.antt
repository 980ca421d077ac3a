-- The build's own limits (01, "What the reader covers"), each named once. Assumes nothing.
use Rattle.std.specs.Prelude.{ℕ}

-- bytes of an input
abbrev pub max_input : ℕ
max_input = 16777216

-- open blocks; the top level isn't one
abbrev pub max_open : ℕ
max_open = 32

-- operands of one abbreviation, an array's element included
abbrev pub max_operands : ℕ
max_operands = 32

-- shared abbreviations over all block numbers
abbrev pub max_shared : ℕ
max_shared = 32

-- local abbreviations over all open blocks and the top level
abbrev pub max_local : ℕ
max_local = 32

-- numbers of an event entry
abbrev pub event_size : ℕ
event_size = 8
