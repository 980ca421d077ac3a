-- A reason is had back from the numbers that it tells, so two reasons that tell the same are the same. Assumes nothing.
use Rattle.std.specs.Prelude.{◌≡◌, false, eqb, if◌then◌else◌}
use mathlib.Core.Path.{refl}
use Rattle.terms.specs.Refusals.{No, no, number_of, first_of, second_of, no_of}
use Rattle.terms.specs.declared.Reason.{Reason}
use Rattle.terms.specs.declared.Reason.TheVariants as R

-- the reason that a number of the table, with its details, stands for
unfoldable pub reason_of : No → Reason
reason_of (no n x y) =
    if eqb n 1 then R.InvalidSignature else
    if eqb n 2 then R.BufferOverflow else
    if eqb n 3 then R.VbrOverflow else
    if eqb n 4 then R.Alignment else
    if eqb n 5 then R.InvalidAbbrev else
    if eqb n 6 then R.UnexpectedOperand else
    if eqb n 7 then (R.AbbrevWidthTooSmall x) else
    if eqb n 8 then (R.NoSuchAbbrev x y) else
    if eqb n 9 then (R.MissingEndBlock x) else
    if eqb n 10 then R.MissingSetBid else
    if eqb n 11 then R.NestedBlockInBlockInfo else
    if eqb n 12 then (R.InvalidBlockInfoRecord x) else
    if eqb n 13 then R.ValueOverflow else
    if eqb n 14 then R.EndOfRecord else
    if eqb n 15 then R.InputTooLong else
    if eqb n 16 then (R.TooDeep x) else
    if eqb n 17 then R.NoAbbreviationRoom else
    if eqb n 18 then R.NoEventRoom else
    if eqb n 19 then R.NoOperandRoom else
    R.BlockNumberTooLarge x

pub reason_back : (r : Reason) → reason_of (no_of r) ≡ r
unfolding reason_of
reason_back R.InvalidSignature = refl
reason_back R.BufferOverflow = refl
reason_back R.VbrOverflow = refl
reason_back R.Alignment = refl
reason_back R.InvalidAbbrev = refl
reason_back R.UnexpectedOperand = refl
reason_back (R.AbbrevWidthTooSmall x) = refl
reason_back (R.NoSuchAbbrev x y) = refl
reason_back (R.MissingEndBlock x) = refl
reason_back R.MissingSetBid = refl
reason_back R.NestedBlockInBlockInfo = refl
reason_back (R.InvalidBlockInfoRecord x) = refl
reason_back R.ValueOverflow = refl
reason_back R.EndOfRecord = refl
reason_back R.InputTooLong = refl
reason_back (R.TooDeep x) = refl
reason_back R.NoAbbreviationRoom = refl
reason_back R.NoEventRoom = refl
reason_back R.NoOperandRoom = refl
reason_back (R.BlockNumberTooLarge x) = refl

-- no reason's number is 0
pub never_zero : (r : Reason) → eqb (number_of (no_of r)) 0 ≡ false
never_zero R.InvalidSignature = refl
never_zero R.BufferOverflow = refl
never_zero R.VbrOverflow = refl
never_zero R.Alignment = refl
never_zero R.InvalidAbbrev = refl
never_zero R.UnexpectedOperand = refl
never_zero (R.AbbrevWidthTooSmall x) = refl
never_zero (R.NoSuchAbbrev x y) = refl
never_zero (R.MissingEndBlock x) = refl
never_zero R.MissingSetBid = refl
never_zero R.NestedBlockInBlockInfo = refl
never_zero (R.InvalidBlockInfoRecord x) = refl
never_zero R.ValueOverflow = refl
never_zero R.EndOfRecord = refl
never_zero R.InputTooLong = refl
never_zero (R.TooDeep x) = refl
never_zero R.NoAbbreviationRoom = refl
never_zero R.NoEventRoom = refl
never_zero R.NoOperandRoom = refl
never_zero (R.BlockNumberTooLarge x) = refl

-- a number and its details, put together again
pub no_whole : (x : No) → no (number_of x) (first_of x) (second_of x) ≡ x
no_whole (no n x y) = refl
