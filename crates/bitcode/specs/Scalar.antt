-- Scalar operands (01, "Abbreviations"): what each kind reads. Assumes nothing.
use Rattle.std.specs.Prelude.{ℕ, ◌+◌, ◌-◌, ltb, eqb}
use Rattle.terms.specs.Refusals.{No}
use Rattle.bits.specs.Reader.{Reader, ◌>>=◌, give, when◌then◌else◌}
use Rattle.bits.specs.Bits.{read, vbr}
use Rattle.bitcode.specs.declared.ScalarOperand.{ScalarOperand}
use Rattle.bitcode.specs.declared.ScalarOperand.TheVariants.{Literal, Fixed, Vbr, Char6}

-- "Char6 0..25 is a..z, 26..51 A..Z, 52..61 0..9, 62 '.', 63 '_'; its value is the ASCII code"
unfoldable pub ascii : ℕ → ℕ
ascii v =
    when ltb v 26 then v + 97 else
    when ltb v 52 then v - 26 + 65 else
    when ltb v 62 then v - 52 + 48 else
    when eqb v 62 then 46 else 95

-- a literal takes no bits; a fixed field and a VBR number have their width; a letter has six bits
unfoldable pub value : ScalarOperand → Reader No ℕ
value (Literal v) = give v
value (Fixed w) = read w
value (Vbr w) = vbr w
value Char6 = do
  v ← read 6
  give (ascii v)
