-- The walk's answer in the notation of the list of answers (src/main.rt), whose lines stand here beside their definitions. Assumes nothing.
use Rattle.std.specs.Prelude.{Bool, true, List, [], ◌∷◌, ◌++◌, ◌≡◌, ℕ, zero, suc, ◌<◌, get_or, take, drop, length, eqb}
use Rattle.bits.specs.Reader.{when◌then◌else◌}
use Rattle.bitcode.specs.declared.Signature.{Signature}
use Rattle.bitcode.specs.Header.{blob_of}
use Rattle.walk.specs.declared.Walked.{Walked}
use Rattle.walk.specs.Walk.{Result, walked}
use Rattle.walk.specs.Promises.{answer}
use Rattle.text.specs.Text.{decimal, pairs, items}
use Rattle.text.specs.Dump.{codes, named, entry, shown}

-- "NUMBER FIRST SECOND": the refusal's number and its two details
unfoldable pub refused : Walked → List ℕ
refused w = decimal w.status ++ named " " w.first ++ named " " w.second

-- "0 MAGIC MAGIC2 VERSION OFFSET SIZE CPU"
unfoldable pub header : Signature → List ℕ
header h =
    named "0 " h.magic ++ named " " h.magic2 ++ named " " h.version ++ named " " h.offset ++ named " " h.size ++ named " " h.cpu

-- ---- an event: e has its eight numbers; it stands behind a space
-- "for each operand ,OPERAND"
unfoldable pub behind_commas : List ℕ → List ℕ
behind_commas [] = []
behind_commas (v ∷ vs) = named "," v ++ behind_commas vs

-- "nothing for none; a and the elements with commas between them for an array; c and the letters' codes with commas between them for a Char6 array;
-- b and two hex digits a byte for a blob"
unfoldable pub payload : ℕ → ℕ → ℕ → List ℕ → List ℕ → List ℕ
payload k place count ops input =
    when eqb k 1 then codes "a" ++ items 0 (take count (drop place ops)) else
    when eqb k 2 then codes "c" ++ items 0 (take count (drop place ops)) else
    when eqb k 3 then codes "b" ++ pairs (blob_of input place count) else []

-- "=BLOCK,CODE, its operands, its payload"
unfoldable pub record_text : List ℕ → List ℕ → List ℕ → List ℕ
record_text e ops input =
    named " =" (get_or e 1 0) ++ named "," (get_or e 2 0) ++ behind_commas (take (get_or e 4 0) (drop (get_or e 3 0) ops)) ++ payload (get_or e 5 0) (get_or e 6 0) (get_or e 7 0) ops input

-- "+BLOCK/WIDTH", "-BLOCK", a record, "~BLOCK"
unfoldable pub event_text : ℕ → List ℕ → List ℕ → List ℕ → List ℕ
event_text k e ops input =
    when eqb k 1 then named " +" (get_or e 1 0) ++ named "/" (get_or e 2 0) else
    when eqb k 2 then named " -" (get_or e 1 0) else
    when eqb k 3 then record_text e ops input else
    when eqb k 4 then named " ~" (get_or e 1 0) else []

-- the first n events
unfoldable pub event_texts : ℕ → List ℕ → List ℕ → List ℕ → List ℕ
event_texts zero events ops input = []
event_texts (suc n) events ops input = event_texts n events ops input ++ event_text (get_or (entry events n) 0 0) (entry events n) ops input

-- ---- the whole: of what a walk tells, its two stores and the input
unfoldable pub answer_text : Walked → List ℕ → List ℕ → List ℕ → List ℕ
answer_text w events ops input =
    when eqb w.status 0 then header w.header ++ event_texts (shown w.events (length events)) events ops input else refused w

unfoldable pub text_of : List ℕ → Result → List ℕ
text_of input r = answer_text (answer r) r.event_store r.operand_store input

-- of an input, by the definition of its walk, with these numbers to skip and stores of these sizes
unfoldable pub answered : List ℕ → List ℕ → ℕ → ℕ → List ℕ
answered input skips n m = text_of input (walked input skips n m)

-- ---- an answer of the list, held against ours in a buffer that has so much room: where it is told to be ours it is; and if ours is shorter than the room,
-- it is told so
pub record Holds (told : Bool) (room : ℕ) (given ours : List ℕ) : Type 0 where
  pub if_told : told ≡ true → given ≡ ours
  pub if_same : given ≡ ours → length ours < room → told ≡ true
