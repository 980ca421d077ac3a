-- Abbreviations (01, "Abbreviations"): what one is, how one is defined, and which one a number stands for. Assumes nothing.
use Rattle.std.specs.Prelude.{◌&&◌, List, [], ◌∷◌, ℕ, zero, suc, leb, eqb}
use Rattle.terms.specs.Limits.{max_operands}
use Rattle.terms.specs.Refusals.{No, vbr_overflow, invalid_abbrev, unexpected_operand, abbrev_width_too_small, no_abbreviation_room}
use Rattle.bits.specs.Reader.{Reader, ◌>>=◌, ◌>>◌, give, stop, require, when◌then◌else◌}
use Rattle.bits.specs.Bits.{in_range, read, vbr}
use Rattle.bitcode.specs.declared.ScalarOperand.{ScalarOperand}
use Rattle.bitcode.specs.declared.ScalarOperand.TheVariants.{Literal, Fixed, Vbr, Char6}

-- what stands behind the scalar operands: nothing, a blob, or an array with its element
pub data Payload : Type 0 where
  none blob : Payload
  array : ScalarOperand → Payload

pub data Abbrev : Type 0 where
  abbreviation : List ScalarOperand → Payload → Abbrev

-- ---- one operand of a definition, as it is read
pub data Operand : Type 0 where
  scalar : ScalarOperand → Operand
  is_array is_blob : Operand

-- "width vbr5, outside 1..32: 7"
unfoldable pub width : Reader No ℕ
width = do
  w ← vbr 5
  require (in_range 1 32 w) (abbrev_width_too_small w)
  give w

-- "1 Fixed, 2 VBR, 3 Array only with exactly one operand left, 4 Char6, 5 Blob only with none left; anything else 5"; `left` counts those behind this one
unfoldable pub kind : ℕ → ℕ → Reader No Operand
kind left k =
    when eqb k 1 then (do w ← width; give (scalar (Fixed w))) else
    when eqb k 2 then (do w ← width; give (scalar (Vbr w))) else
    when eqb k 3 && eqb left 1 then give is_array else
    when eqb k 4 then give (scalar Char6) else
    when eqb k 5 && eqb left 0 then give is_blob else
    stop invalid_abbrev

-- "Each operand: 1 bit; if 1, literal vbr8. Else 3 bits"
unfoldable pub operand : ℕ → Reader No Operand
operand left = do
  literal ← read 1
  when eqb literal 1 then (do v ← vbr 8; give (scalar (Literal v))) else (do k ← read 3; kind left k)

-- "An array element is read as an operand itself: literal allowed, array gives 5, blob gives 6"
unfoldable pub element : Operand → Reader No Abbrev
element (scalar k) = give (abbreviation [] (array k))
element is_array = stop invalid_abbrev
element is_blob = stop unexpected_operand

-- ---- a definition
unfoldable pub also : ScalarOperand → Abbrev → Abbrev
also k (abbreviation ks t) = abbreviation (k ∷ ks) t

-- behind an operand: `more` reads the others
unfoldable pub rest_of : Operand → Reader No Abbrev → Reader No Abbrev
rest_of (scalar k) more = do
  a ← more
  give (also k a)
rest_of is_array more = do
  x ← operand 0
  element x
rest_of is_blob more = give (abbreviation [] blob)

unfoldable pub operands : ℕ → Reader No Abbrev
operands zero = give (abbreviation [] none)
operands (suc n) = do
  o ← operand n
  rest_of o (operands n)

-- "Operand count vbr5; above 32: 17"
unfoldable pub define : Reader No Abbrev
define = do
  n ← vbr 5
  require (leb n max_operands) no_abbreviation_room
  operands n

-- ---- numbers
-- an item's number, "of the block's width" (01, "Walk": "outside 1..32: 3")
unfoldable pub number_of : ℕ → Reader No ℕ
number_of w = do
  require (in_range 1 32 w) vbr_overflow
  read w

-- "Numbers from 4": the one at index i of those that the block has, those shared for it first; r if there is none
unfoldable pub look_up : No → ℕ → List Abbrev → Reader No Abbrev
look_up r i [] = stop r
look_up r zero (a ∷ rest) = give a
look_up r (suc i) (a ∷ rest) = look_up r i rest
