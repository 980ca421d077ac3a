-- Records (01, "Walk"): a code, operands and a payload. A record is read in two parts: the scalar part, up to a payload's length, and the rest. Assumes nothing.
use Rattle.std.specs.Prelude.{Bool, true, false, List, [], ◌∷◌, ◌++◌, ℕ, zero, suc, ◌+◌, ◌-◌, ◌*◌, ◌/◌, length, ltb, leb}
use Rattle.terms.specs.Refusals.{No, buffer_overflow, invalid_abbrev, no_operand_room}
use Rattle.bits.specs.Reader.{Reader, Answer, got, refused, ◌>>=◌, ◌>>◌, give, stop, require, here}
use Rattle.bits.specs.Bits.{field, limit, align, vbr}
use Rattle.bitcode.specs.declared.ScalarOperand.{ScalarOperand}
use Rattle.bitcode.specs.declared.ScalarOperand.TheVariants.{Literal, Fixed, Vbr, Char6}
use Rattle.bitcode.specs.Scalar.{value}
use Rattle.abbrev.specs.Abbrev.{Payload, none, blob, array, Abbrev, abbreviation}

-- a payload as it is read: an array has its kind (1, or 2 for Char6) and its elements; a blob its first byte in the stream and its bytes
pub data Load : Type 0 where
  no_load : Load
  list_load : ℕ → List ℕ → Load
  blob_load : ℕ → List ℕ → Load

-- code, operands, payload
pub data Record : Type 0 where
  a_record : ℕ → List ℕ → Load → Record

-- ---- operands: "Before each stored operand room is tested (19), then its bits are read"; `left` is the room
unfoldable pub stored : ℕ → ScalarOperand → Reader No ℕ
stored left k = do
  require (ltb 0 left) no_operand_room
  value k

-- one for each scalar operand of an abbreviation
unfoldable pub values : ℕ → List ScalarOperand → Reader No (List ℕ)
values left [] = give []
values left (k ∷ ks) = do
  v ← stored left k
  vs ← values (left - 1) ks
  give (v ∷ vs)

-- so many of one kind
unfoldable pub repeated : ℕ → ℕ → ScalarOperand → Reader No (List ℕ)
repeated left zero k = give []
repeated left (suc n) k = do
  v ← stored left k
  vs ← repeated (left - 1) n k
  give (v ∷ vs)

-- ---- a blob's bytes, from the bit p on
unfoldable pub octets : List ℕ → ℕ → ℕ → List ℕ
octets s p zero = []
octets s p (suc n) = field s p 8 ∷ octets s (p + 8) n

unfoldable pub bytes_if : Bool → List ℕ → ℕ → ℕ → Answer No (List ℕ)
bytes_if true s p n = got (octets s p n) (p + 8 * n)
bytes_if false s p n = refused buffer_overflow

unfoldable pub bytes : ℕ → Reader No (List ℕ)
bytes n = λ s e p. bytes_if (leb (p + 8 * n) (limit s e)) s p n

-- ---- the scalar part: a whole record, or code, operands, and the payload's length (with an array's element)
pub data Part : Type 0 where
  whole : Record → Part
  listing : ℕ → List ℕ → ScalarOperand → ℕ → Part
  blobbing : ℕ → List ℕ → ℕ → Part

-- "Array: length vbr6, then elements. Blob: length vbr6, align, bytes, align"
unfoldable pub payload_part : ℕ → List ℕ → Payload → Reader No Part
payload_part code vs none = give (whole (a_record code vs no_load))
payload_part code vs (array k) = do
  n ← vbr 6
  give (listing code vs k n)
payload_part code vs blob = do
  n ← vbr 6
  align
  give (blobbing code vs n)

-- "no scalar operand gives 5; the first scalar is the code, the rest operands, then the payload"
unfoldable pub scalar_part : ℕ → Abbrev → Reader No Part
scalar_part left (abbreviation [] t) = stop invalid_abbrev
scalar_part left (abbreviation (k ∷ ks) t) = do
  code ← value k
  vs ← values left ks
  payload_part code vs t

-- "code vbr6, count vbr6, operands vbr6"
unfoldable pub unabbreviated : ℕ → Reader No Part
unabbreviated left = do
  code ← vbr 6
  n ← vbr 6
  vs ← repeated left n (Vbr 6)
  give (whole (a_record code vs no_load))

-- ---- the rest
-- "Payload: 0 none, 1 array, 2 Char6 array, 3 blob"
unfoldable pub array_kind : ScalarOperand → ℕ
array_kind (Literal v) = 1
array_kind (Fixed w) = 1
array_kind (Vbr w) = 1
array_kind Char6 = 2

unfoldable pub rest : ℕ → Part → Reader No Record
rest left (whole r) = give r
rest left (listing code vs k n) = do
  xs ← repeated (left - length vs) n k
  give (a_record code vs (list_load (array_kind k) xs))
rest left (blobbing code vs n) = do
  p ← here
  bs ← bytes n
  align
  give (a_record code vs (blob_load (p / 8) bs))

-- ---- what a record leaves in the operand store
unfoldable pub load_list : Load → List ℕ
load_list no_load = []
load_list (list_load k xs) = xs
load_list (blob_load at bs) = []

unfoldable pub record_list : Record → List ℕ
record_list (a_record code vs l) = vs ++ load_list l
