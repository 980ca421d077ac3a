-- What the exported calls for typed operands return (01, "Walk", "Typed operands"): `bitcode`'s readers over a store. Assumes nothing.
use Rattle.std.specs.Prelude.{◌≡◌, List, ℕ, ◌+◌, ℤ, pos}
use Rattle.terms.specs.Refusals.{No, no}
use Rattle.bits.specs.Reader.{Reader, Answer, got, refused}
use Rattle.bitcode.specs.declared.Range.{Range}
use Rattle.bitcode.specs.Operands.{next_below, next_signed, next_range}

-- an operand of a record, read from the place `first` of the store on, where `count` operands are left: the record ends behind them ("none left, or a
-- place outside the lent store: 14")
abbrev pub operand : {A : Type 0} → Reader No A → List ℕ → ℕ → ℕ → Answer No A
operand m store first count = m store (first + count) first

-- "0 is acceptance"; "Small calls (cursor, typed operand) refuse with the number alone"
unfoldable pub status_of : {A : Type 0} → Answer No A → ℕ
status_of (got a q) = 0
status_of (refused (no number first second)) = number

-- the value; behind a refusal there is none, and the lent number gets `none` for it, so that no number of an earlier call stays
unfoldable pub value_or : {A : Type 0} → A → Answer No A → A
value_or none (got a q) = a
value_or none (refused r) = none

abbrev pub no_range : Range
no_range = record { start = 0; end = 0 }

-- ---- what the contracts say of the status r and of the lent numbers, for the store s and the place and the count of a record's operands
module _ (s : List ℕ) (first count : ℕ) where
  -- `gleanrime_unsigned`: "too large or not 0/1: 13"
  abbrev pub ReturnsUnsigned : ℕ → ℕ → ℕ → Type 0
  ReturnsUnsigned bits r v =
      (r ≡ status_of (operand (next_below bits) s first count)) × (v ≡ value_or 0 (operand (next_below bits) s first count))

  -- `gleanrime_signed`
  abbrev pub ReturnsSigned : ℕ → ℤ → Type 0
  ReturnsSigned r v = (r ≡ status_of (operand next_signed s first count)) × (v ≡ value_or (pos 0) (operand next_signed s first count))

  -- `gleanrime_range`: "range end past 64 bits: 13"
  abbrev pub ReturnsRange : ℕ → ℕ → ℕ → Type 0
  ReturnsRange r a e =
      (r ≡ status_of (operand next_range s first count))
      × ((a ≡ (value_or no_range (operand next_range s first count)).start) × (e ≡ (value_or no_range (operand next_range s first count)).end))
