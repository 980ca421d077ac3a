-- The text of the dump (01, "Bench samples"). Assumes nothing.
use Rattle.std.specs.Prelude.{List, [], ◌∷◌, ◌++◌, ℕ, zero, suc, ◌*◌, ◌/◌, min, get_or, take, drop, length, eqb}
use Prim.Native.Char.{code}
use Prim.Native.String.{String, [] as no_letter, ◌∷◌ as ◌then◌}
use Rattle.terms.specs.Limits.{event_size}
use Rattle.bits.specs.Reader.{when◌then◌else◌}
use Rattle.bitcode.specs.declared.Signature.{Signature}
use Rattle.walk.specs.declared.Walked.{Walked}
use Rattle.text.specs.Text.{decimal, word, items}

-- the codes of a text's letters
unfoldable pub codes : String → List ℕ
codes no_letter = []
codes (c then s) = code c ∷ codes s

-- a number behind its name, in decimal and in hex
unfoldable pub named : String → ℕ → List ℕ
named name v = codes name ++ decimal v

unfoldable pub magic : String → ℕ → List ℕ
magic name v = codes name ++ word v

-- ---- the front
unfoldable pub status_line : Walked → List ℕ
status_line w =
    named "status=" w.status ++ named " place=" w.place ++ named " first=" w.first ++ named " second=" w.second ++ codes "\n"

-- the header numbers between the two magic words
unfoldable pub fields : Signature → List ℕ
fields h = named " version=" h.version ++ named " offset=" h.offset ++ named " size=" h.size ++ named " cpu=" h.cpu

unfoldable pub signature : Signature → List ℕ
signature h = magic "magic=" h.magic ++ fields h ++ magic " magic2=" h.magic2

unfoldable pub front : Walked → List ℕ
front w = signature w.header ++ named "\nevents=" w.events ++ codes "\n"

-- ---- an event: e has its eight numbers
-- "1 enter, 2 leave, 3 record, 4 skip"
unfoldable pub kind : ℕ → List ℕ
kind k =
    when eqb k 1 then codes "enter" else
    when eqb k 2 then codes "leave" else
    when eqb k 3 then codes "record" else
    when eqb k 4 then codes "skip" else decimal k

unfoldable pub head : ℕ → List ℕ → List ℕ
head i e = named "event=" i ++ codes " kind=" ++ kind (get_or e 0 0) ++ named " block=" (get_or e 1 0)

-- "enter (block, width, body byte, body length)"; "Skip lines read as enter lines"
unfoldable pub body : List ℕ → List ℕ
body e = named " width=" (get_or e 2 0) ++ named " start=" (get_or e 3 0) ++ named " length=" (get_or e 4 0)

-- "Lists are comma-separated; an empty one is `-`"
unfoldable pub listed : List ℕ → List ℕ
listed [] = codes "-"
listed (v ∷ vs) = items 0 (v ∷ vs)

-- a list of the operand store, behind its name
unfoldable pub list : String → List ℕ → ℕ → ℕ → List ℕ
list name ops place count = codes name ++ listed (take count (drop place ops))

-- "Payload: 0 none, 1 array, 2 Char6 array, 3 blob"; "`array:`, `char6:` with the list, `blob:` with place,length"
unfoldable pub payload : ℕ → ℕ → ℕ → List ℕ → List ℕ
payload k place count ops =
    when eqb k 0 then codes "none" else
    when eqb k 1 then list "array:" ops place count else
    when eqb k 2 then list "char6:" ops place count else
    when eqb k 3 then named "blob:" place ++ named "," count else decimal k

-- "record (block, code, first operand place, operand count, payload kind, payload place, payload length)"
unfoldable pub record_text : List ℕ → List ℕ → List ℕ
record_text e ops =
    named " code=" (get_or e 2 0) ++ list " operands=" ops (get_or e 3 0) (get_or e 4 0) ++ codes " payload=" ++ payload (get_or e 5 0) (get_or e 6 0) (get_or e 7 0) ops

-- what follows the block number
unfoldable pub rest : ℕ → List ℕ → List ℕ → List ℕ
rest k e ops =
    when eqb k 1 then body e else
    when eqb k 4 then body e else
    when eqb k 3 then record_text e ops else []

unfoldable pub event_line : ℕ → List ℕ → List ℕ → List ℕ
event_line i e ops = head i e ++ rest (get_or e 0 0) e ops ++ codes "\n"

-- ---- the whole
-- the numbers of event i
abbrev pub entry : List ℕ → ℕ → List ℕ
entry events i = take event_size (drop (event_size * i) events)

-- the lines of the first n events
unfoldable pub event_lines : ℕ → List ℕ → List ℕ → List ℕ
event_lines zero events ops = []
event_lines (suc n) events ops = event_lines n events ops ++ event_line n (entry events n) ops

-- as many events as are told of, and as the store holds
unfoldable pub shown : ℕ → ℕ → ℕ
shown told size = min told (size / event_size)

-- "A refusal prints the first line only"
unfoldable pub dump : Walked → List ℕ → List ℕ → List ℕ
dump w events ops =
    when eqb w.status 0 then status_line w ++ front w ++ event_lines (shown w.events (length events)) events ops else status_line w
