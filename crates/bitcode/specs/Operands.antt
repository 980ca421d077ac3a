-- Typed operands (01, "Walk"): readers over a store of numbers. The place and the end are counted in numbers here, not in bits and bytes. Assumes nothing.
use Rattle.std.specs.Prelude.{Bool, ℕ, ◌+◌, ◌^◌, min, get_or, length, ℤ, ltb, eqb, Result, Ok, Err}
use Rattle.terms.specs.Refusals.{No, no_of, value_overflow, end_of_record}
use Rattle.terms.specs.declared.Reason.{Reason}
use Rattle.bits.specs.Reader.{Reader, got, refused, ◌>>=◌, ◌>>◌, give, require, when◌then◌else◌}
use Rattle.bits.specs.Bits.{signed_of}
use Rattle.bits.specs.Told.{Told, told, refuses}
use Rattle.bits.specs.declared.Cursor.{Cursor}
use Rattle.bitcode.specs.declared.Operands.{Operands}
use Rattle.bitcode.specs.declared.Range.{Range}

-- the next operand: "none left, or a place outside the lent store: 14"
unfoldable pub next : Reader No ℕ
next = λ store end at. when ltb at (min end (length store)) then got (get_or store at 0) (at + 1) else refused end_of_record

-- one of w bits: "too large .. 13"
unfoldable pub next_below : ℕ → Reader No ℕ
next_below w = do
  v ← next
  require (ltb v (2 ^ w)) value_overflow
  give v

-- "not 0/1: 13"
unfoldable pub next_bool : Reader No Bool
next_bool = do
  v ← next
  require (ltb v 2) value_overflow
  give (eqb v 1)

unfoldable pub next_signed : Reader No ℤ
next_signed = do
  v ← next
  give (signed_of v)

-- a start and a length, as a start and an end: "range end past 64 bits: 13"
unfoldable pub next_range : Reader No Range
next_range = do
  start ← next
  n ← next
  require (ltb (start + n) (2 ^ 64)) value_overflow
  give (record { start = start; end = start + n })

-- ---- what the code's answers tell
abbrev pub place_of : Operands → Cursor
place_of o = record { at = o.at; end = o.end }

abbrev pub of_next : {A : Type 0} → Result (A × Operands) Reason → Told No A
of_next (Ok (v, d)) = told v (place_of d)
of_next (Err r) = refuses (no_of r)
