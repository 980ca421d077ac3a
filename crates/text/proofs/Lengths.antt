-- How long the dump's text is at most, by its definition: an event's line by the numbers of the operand store that it shows. Assumes nothing.
use mathlib.Core.Bool.{Bool, true, false, cond}
use mathlib.Core.List.{List, [], ◌∷◌, ◌++◌}
use mathlib.Core.Path.{◌≡◌, refl, sym}
use Prim.Native.Nat.{ℕ, zero, suc, ◌+◌, ◌*◌, ◌/◌, ◌%◌, ◌≤◌, max}
use Prim.Native.String.{String}
use native.Mathlib.Omega.{arith}
use lib.Dec.{ltb, eqb}
use lib.ListN.{length, get_or, take, drop, length-append, length-take}
use lib.Seq.{drop-drop}
use Rattle.io.specs.Digits.{last_digits, hex_digit_ascii}
use Rattle.terms.specs.Limits.{event_size}
use Rattle.bits.specs.Reader.{when◌then◌else◌}
use Rattle.bitcode.specs.declared.Signature.{Signature}
use Rattle.walk.specs.declared.Walked.{Walked}
use Rattle.walk.proofs.Weights.{elements}
use Rattle.text.specs.Text.{places, decimal, word, item, items}
use Rattle.text.specs.Dump.{codes, named, magic, status_line, fields, signature, front, kind, head, body, listed, list, payload, record_text, rest, event_line, entry, event_lines, shown, dump}

-- a text of n codes at most
pub record Most (n : ℕ) (text : List ℕ) : Type 0 where
  pub most : length text ≤ n

pub more : {a b : ℕ} {text : List ℕ} → Most a text → a ≤ b → Most b text
more m h = record { most = omega arith }

pub both : {a b : ℕ} {x y : List ℕ} → Most a x → Most b y → Most (a + b) (x ++ y)
both {x = x} {y} m n = record { most = omega (arith, length-append x y) }

-- ---- numbers
places_most : (b most n : ℕ) → places b most n ≤ most + 1
unfolding places
places_most b zero n = omega arith
places_most b (suc most) n = by_test (ltb n b) (places_most b most (n / b))
  where
    by_test : (t : Bool) {k : ℕ} → k ≤ most + 1 → cond t 1 (suc k) ≤ suc most + 1
    by_test true h = omega arith
    by_test false h = omega arith

digits_length : (b k n : ℕ) → length (last_digits b k n) ≡ k
digits_length b zero n = refl
digits_length b (suc k) n = omega (arith, length-append (last_digits b k (n / b)) (hex_digit_ascii (n % b) ∷ []), digits_length b k (n / b))

decimal_most : (n : ℕ) → Most 21 (decimal n)
unfolding decimal
decimal_most n = record { most = omega (arith, digits_length 10 (places 10 20 n) n, places_most 10 20 n) }

word_most : (n : ℕ) → Most 21 (word n)
unfolding word
word_most n = record { most = omega (arith, digits_length 16 (max 8 (places 16 20 n)) n, places_most 16 20 n) }

codes_most : (s : String) → Most (length (codes s)) (codes s)
codes_most s = record { most = omega arith }

named_most : (s : String) (n : ℕ) → Most (length (codes s) + 21) (named s n)
unfolding named
named_most s n = both (codes_most s) (decimal_most n)

magic_most : (s : String) (n : ℕ) → Most (length (codes s) + 21) (magic s n)
unfolding magic
magic_most s n = both (codes_most s) (word_most n)

-- ---- lists
item_most : (i v : ℕ) → Most 22 (item i v)
unfolding item
item_most zero v = more (decimal_most v) (omega arith)
item_most (suc i) v = record { most = omega (arith, (decimal_most v).most) }

items_most : (i : ℕ) (vs : List ℕ) → Most (22 * length vs) (items i vs)
unfolding items
items_most i [] = record { most = omega arith }
items_most i (v ∷ vs) = more (both (item_most i v) (items_most (suc i) vs)) (omega arith)

listed_most : (vs : List ℕ) → Most (1 + 22 * length vs) (listed vs)
unfolding listed codes
listed_most [] = record { most = omega arith }
listed_most (v ∷ vs) = more (items_most 0 (v ∷ vs)) (omega arith)

list_most : (s : String) (ops : List ℕ) (place count : ℕ) → Most (length (codes s) + 1 + 22 * count) (list s ops place count)
unfolding list
list_most s ops place count =
    more (both (codes_most s) (listed_most (take count (drop place ops)))) (omega (arith, length-take count (drop place ops)))

-- ---- the front
pub status_most : (w : Walked) → Most 114 (status_line w)
unfolding status_line codes
status_most w =
    both
    (both (both (both (named_most "status=" w.status) (named_most " place=" w.place)) (named_most " first=" w.first)) (named_most " second=" w.second))
    (codes_most "\n")

fields_most : (h : Signature) → Most 112 (fields h)
unfolding fields codes
fields_most h =
    both
    (both (both (named_most " version=" h.version) (named_most " offset=" h.offset)) (named_most " size=" h.size))
    (named_most " cpu=" h.cpu)

signature_most : (h : Signature) → Most 168 (signature h)
unfolding signature codes
signature_most h = both (both (magic_most "magic=" h.magic) (fields_most h)) (magic_most " magic2=" h.magic2)

front_most : (w : Walked) → Most 198 (front w)
unfolding front codes
front_most w = both (both (signature_most w.header) (named_most "\nevents=" w.events)) (codes_most "\n")

-- ---- an event
kind_most : (k : ℕ) → Most 21 (kind k)
unfolding kind codes when◌then◌else◌
kind_most k = by_tests (eqb k 1) (eqb k 2) (eqb k 3) (eqb k 4)
  where
    by_tests : (a b c d : Bool)
        → Most 21 (when a then codes "enter" else when b then codes "leave" else when c then codes "record" else when d then codes "skip" else decimal k)
    by_tests true b c d = more (codes_most "enter") (omega arith)
    by_tests false true c d = more (codes_most "leave") (omega arith)
    by_tests false false true d = more (codes_most "record") (omega arith)
    by_tests false false false true = more (codes_most "skip") (omega arith)
    by_tests false false false false = decimal_most k

head_most : (i : ℕ) (e : List ℕ) → Most 82 (head i e)
unfolding head codes
head_most i e = both (both (both (named_most "event=" i) (codes_most " kind=")) (kind_most (get_or e 0 0))) (named_most " block=" (get_or e 1 0))

body_most : (e : List ℕ) → Most 85 (body e)
unfolding body codes
body_most e = both (both (named_most " width=" (get_or e 2 0)) (named_most " start=" (get_or e 3 0))) (named_most " length=" (get_or e 4 0))

payload_most : (k place count : ℕ) (ops : List ℕ) → Most (48 + 22 * elements k count) (payload k place count ops)
unfolding payload elements codes when◌then◌else◌
payload_most k place count ops = by_tests (eqb k 0) (eqb k 1) (eqb k 2) (eqb k 3)
  where
    by_tests : (a b c d : Bool) → Most (48 + 22 * (when b then count else when c then count else 0))
        (when a then codes "none" else when b then list "array:" ops place count else when c then list "char6:" ops place count else when d then
        named "blob:" place ++ named "," count else decimal k)
    by_tests true b c d = more (codes_most "none") (omega arith)
    by_tests false true c d = more (list_most "array:" ops place count) (omega arith)
    by_tests false false true d = more (list_most "char6:" ops place count) (omega arith)
    by_tests false false false true = both (named_most "blob:" place) (named_most "," count)
    by_tests false false false false = more (decimal_most k) (omega arith)

record_most : (e ops : List ℕ) → Most (95 + 22 * (get_or e 4 0 + elements (get_or e 5 0) (get_or e 7 0))) (record_text e ops)
unfolding record_text codes
record_most e ops =
    more
    (both
    (both (both (named_most " code=" (get_or e 2 0)) (list_most " operands=" ops (get_or e 3 0) (get_or e 4 0))) (codes_most " payload="))
    (payload_most (get_or e 5 0) (get_or e 6 0) (get_or e 7 0) ops))
    (omega arith)

-- how many numbers of the operand store an entry tells of
unfoldable pub entry_weight : List ℕ → ℕ
entry_weight e = when eqb (get_or e 0 0) 3 then get_or e 4 0 + elements (get_or e 5 0) (get_or e 7 0) else 0

rest_most : (e ops : List ℕ) → Most (95 + 22 * entry_weight e) (rest (get_or e 0 0) e ops)
unfolding rest entry_weight when◌then◌else◌
rest_most e ops = by_tests (eqb (get_or e 0 0) 1) (eqb (get_or e 0 0) 4) (eqb (get_or e 0 0) 3)
  where
    by_tests : (a b c : Bool) → Most (95 + 22 * (when c then get_or e 4 0 + elements (get_or e 5 0) (get_or e 7 0) else 0))
        (when a then body e else when b then body e else when c then record_text e ops else [])
    by_tests true b c = more (body_most e) (omega arith)
    by_tests false true c = more (body_most e) (omega arith)
    by_tests false false true = record_most e ops
    by_tests false false false = record { most = omega arith }

line_most : (i : ℕ) (e ops : List ℕ) → Most (178 + 22 * entry_weight e) (event_line i e ops)
unfolding event_line codes
line_most i e ops = more (both (both (head_most i e) (rest_most e ops)) (codes_most "\n")) (omega arith)

-- ---- the whole
-- how many the first n entries of an event store tell of
unfoldable pub entry_weights : ℕ → List ℕ → ℕ
entry_weights zero events = 0
entry_weights (suc n) events = entry_weights n events + entry_weight (entry events n)

lines_most : (n : ℕ) (events ops : List ℕ) → Most (178 * n + 22 * entry_weights n events) (event_lines n events ops)
unfolding event_lines entry_weights
lines_most zero events ops = record { most = omega arith }
lines_most (suc n) events ops = more (both (lines_most n events ops) (line_most n (entry events n) ops)) (omega arith)

-- the first entry, then those behind it
pub entry_weights_front : (n : ℕ) (events : List ℕ)
    → entry_weights (suc n) events ≡ entry_weight (take event_size events) + entry_weights n (drop event_size events)
unfolding entry_weights
entry_weights_front zero events = omega arith
entry_weights_front (suc n) events =
    let k : event_size * suc n ≡ event_size + event_size * n = omega arith in
    let e : drop (event_size * suc n) events ≡ drop (event_size * n) (drop event_size events) = rw k (sym (drop-drop (event_size * n) event_size events)) in
    rw e (omega (arith, entry_weights_front n events))

pub dump_most : (w : Walked) (events ops : List ℕ)
    → Most (312 + 178 * shown w.events (length events) + 22 * entry_weights (shown w.events (length events)) events) (dump w events ops)
unfolding dump when◌then◌else◌
dump_most w events ops = by_test (eqb w.status 0)
  where
    n : ℕ
    n = shown w.events (length events)

    by_test : (t : Bool) → Most (312 + 178 * n + 22 * entry_weights n events) (when t then status_line w ++ front w ++ event_lines n events ops else status_line w)
    by_test true = more (both (both (status_most w) (front_most w)) (lines_most n events ops)) (omega arith)
    by_test false = more (status_most w) (omega arith)
