-- The refusals (01, "Refusal numbers"). Blank details are 0. Assumes nothing.
use Rattle.std.specs.Prelude.{Bool, ◌&&◌, not, ℕ, leb, eqb}
use Rattle.terms.specs.declared.Reason.{Reason}
use Rattle.terms.specs.declared.Reason.TheVariants as R
use Rattle.terms.specs.declared.Refused.{Refused}

-- what a small reader refuses with: a number, a first and a second detail
pub data No : Type 0 where
  no : ℕ → ℕ → ℕ → No

-- what the walk refuses with: a number, the bit where the innermost item began, a first and a second detail
pub data Refusal : Type 0 where
  refusal : ℕ → ℕ → ℕ → ℕ → Refusal

-- a small reader's refusal, in an item that began at the bit `from`
abbrev pub at_bit : ℕ → No → Refusal
at_bit from (no n first second) = refusal n from first second

abbrev pub number_of : No → ℕ
number_of (no n first second) = n

abbrev pub first_of : No → ℕ
first_of (no n first second) = first

abbrev pub second_of : No → ℕ
second_of (no n first second) = second

-- ---- 01's table
abbrev pub invalid_signature : No
invalid_signature = no 1 0 0

abbrev pub buffer_overflow : No
buffer_overflow = no 2 0 0

abbrev pub vbr_overflow : No
vbr_overflow = no 3 0 0

abbrev pub alignment : No
alignment = no 4 0 0

abbrev pub invalid_abbrev : No
invalid_abbrev = no 5 0 0

abbrev pub unexpected_operand : No
unexpected_operand = no 6 0 0

abbrev pub abbrev_width_too_small : ℕ → No
abbrev_width_too_small width = no 7 width 0

abbrev pub no_such_abbrev : ℕ → ℕ → No
no_such_abbrev abbreviation block = no 8 abbreviation block

abbrev pub missing_end_block : ℕ → No
missing_end_block block = no 9 block 0

abbrev pub missing_set_bid : No
missing_set_bid = no 10 0 0

abbrev pub nested_block_in_block_info : No
nested_block_in_block_info = no 11 0 0

abbrev pub invalid_block_info_record : ℕ → No
invalid_block_info_record code = no 12 code 0

abbrev pub value_overflow : No
value_overflow = no 13 0 0

abbrev pub end_of_record : No
end_of_record = no 14 0 0

abbrev pub input_too_long : No
input_too_long = no 15 0 0

abbrev pub too_deep : ℕ → No
too_deep block = no 16 block 0

abbrev pub no_abbreviation_room : No
no_abbreviation_room = no 17 0 0

abbrev pub no_event_room : No
no_event_room = no 18 0 0

abbrev pub no_operand_room : No
no_operand_room = no 19 0 0

abbrev pub block_number_too_large : ℕ → No
block_number_too_large number = no 20 number 0

-- ---- the numbers that a walk can refuse with: 1 to 20, but 4 and 14, which are the small calls' own
abbrev pub walk_number : ℕ → Bool
walk_number n = leb 1 n && leb n 20 && not (eqb n 4) && not (eqb n 14)

-- ---- the code's enum: each case tells the table's number and its details
abbrev pub no_of : Reason → No
no_of R.InvalidSignature = invalid_signature
no_of R.BufferOverflow = buffer_overflow
no_of R.VbrOverflow = vbr_overflow
no_of R.Alignment = alignment
no_of R.InvalidAbbrev = invalid_abbrev
no_of R.UnexpectedOperand = unexpected_operand
no_of (R.AbbrevWidthTooSmall width) = abbrev_width_too_small width
no_of (R.NoSuchAbbrev abbreviation block) = no_such_abbrev abbreviation block
no_of (R.MissingEndBlock block) = missing_end_block block
no_of R.MissingSetBid = missing_set_bid
no_of R.NestedBlockInBlockInfo = nested_block_in_block_info
no_of (R.InvalidBlockInfoRecord code) = invalid_block_info_record code
no_of R.ValueOverflow = value_overflow
no_of R.EndOfRecord = end_of_record
no_of R.InputTooLong = input_too_long
no_of (R.TooDeep block) = too_deep block
no_of R.NoAbbreviationRoom = no_abbreviation_room
no_of R.NoEventRoom = no_event_room
no_of R.NoOperandRoom = no_operand_room
no_of (R.BlockNumberTooLarge number) = block_number_too_large number

-- and the walk's refusal has the place beside it
abbrev pub refusal_of : Refused → Refusal
refusal_of r = at_bit r.place (no_of r.reason)
