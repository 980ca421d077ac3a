-- The items of a block, and a block inside a block (01, "Walk"). Assumes nothing.
use Rattle.std.specs.Prelude.{Bool, true, false, ℕ, zero, suc, ◌+◌, ◌-◌, ◌*◌, ◌/◌, ◌^◌, length, ltb, leb, eqb}
use Rattle.std.proofs.Math.Option.{Option, none as nothing, some}
use Rattle.terms.specs.Limits.{max_local}
use Rattle.terms.specs.Refusals.{No, Refusal, at_bit, buffer_overflow, no_such_abbrev, missing_end_block, too_deep, no_abbreviation_room, no_event_room, block_number_too_large}
use Rattle.bits.specs.Reader.{Reader, got, onward, ◌>>=◌, ◌>>◌, give, stop, require, when◌then◌else◌, here, turns, placed}
use Rattle.bits.specs.Bits.{limit, read, align, vbr, ends_at}
use Rattle.abbrev.specs.Abbrev.{Abbrev, define, number_of, look_up}
use Rattle.abbrev.specs.BlockInfo.{info}
use Rattle.walk.specs.Record.{Record, Part, scalar_part, unabbreviated, rest}
use Rattle.walk.specs.Piece.{Head, head, Piece, the_record, definition, blockinfo, skipped, block, Pieces, done, ◌then◌, State, after, entered}

-- the block that the items stand in: its number, its width, and whether it is the top level
pub record Context : Type 0 where
  pub number : ℕ
  pub wide : ℕ
  pub top : Bool

-- ---- an item's front: all of it but what may be long: a block's body, an array's elements, a blob's bytes
pub data Begun : Type 0 where
  closing : Begun
  heads : Head → Begun
  defines : Abbrev → Begun
  records : Part → Begun

-- "block number vbr8 (≥ 2^32: 20), width vbr4, align, length in words (32 bits)"
unfoldable pub heading : Reader No Head
heading = do
  b ← vbr 8
  require (ltb b (2 ^ 32)) (block_number_too_large b)
  w ← vbr 4
  align
  n ← read 32
  p ← here
  give (head b w (p / 8) (4 * n))

-- "4 and up: lookup (8)"
unfoldable pub used : Context → State → ℕ → Reader No Part
used c st n = do
  a ← look_up (no_such_abbrev n c.number) (n - 4) st.mine
  scalar_part st.left a

-- "0: align, end"; 1 a block; "2: local definition"; 3 an unabbreviated record; 4 and up an abbreviated one
unfoldable pub begun : Context → State → ℕ → Reader No Begun
begun c st n =
    when eqb n 0 then (do align; give closing) else
    when eqb n 1 then (do h ← heading; give (heads h)) else
    when eqb n 2 then (do a ← define; give (defines a)) else
    when eqb n 3 then (do x ← unabbreviated st.left; give (records x)) else
    (do x ← used c st n; give (records x))

-- "read a number of the block's width", then what it says
unfoldable pub begin : Context → State → Reader No Begun
begin c st = do
  n ← number_of c.wide
  begun c st n

-- ---- an item without a block's body: the end; a definition; a record, with its first bit, its block and the fill mark; or a block's first bit and head
pub data Opening : Type 0 where
  ended : Opening
  defined : Abbrev → Opening
  recorded : ℕ → ℕ → ℕ → Record → Opening
  headed : ℕ → Head → Opening

-- room for an event
unfoldable pub event_room : ℕ → State → Reader Refusal (Unit {0})
event_room from st = require (ltb 0 st.room) (at_bit from no_event_room)

-- the top level has no leave event
unfoldable pub leave_room : Bool → ℕ → State → Reader Refusal (Unit {0})
leave_room true from st = give tt
leave_room false from st = event_room from st

-- "body within the parent, else 2"
unfoldable pub fits : Head → Reader No (Unit {0})
fits (head b w at n) = λ s e p. require (leb (p + 8 * n) (limit s e)) buffer_overflow s e p

-- "Event room (18) is tested after the whole record, for a leave after its alignment"; local room after the whole definition (17)
unfoldable pub finish : Context → State → ℕ → Begun → Reader Refusal Opening
finish c st from closing = do
  leave_room c.top from st
  give ended
finish c st from (heads h) = do
  placed from (fits h)
  give (headed from h)
finish c st from (defines a) = do
  require (ltb st.locals max_local) (at_bit from no_abbreviation_room)
  give (defined a)
finish c st from (records x) = do
  r ← placed from (rest st.left x)
  event_room from st
  give (recorded from c.number st.fill r)

unfoldable pub at_end : Reader Refusal Bool
at_end = λ s e p. got (ends_at s e p) p

-- "At the end of the bits: the top level ends; a block gives 9"
unfoldable pub opening : Context → State → Reader Refusal Opening
opening c st = do
  from ← here
  out ← at_end
  when out then (do require c.top (at_bit from (missing_end_block c.number)); give ended) else (do
    x ← placed from (begin c st)
    finish c st from x)

-- ---- a block's body
-- within the next n bytes; "The parent goes on behind the declared length whatever the body left"
unfoldable pub within : {R A : Type 0} → ℕ → Reader R A → Reader R A
within n m = λ s e p. onward (m s (p / 8 + n) p) (λ a q. got a (p + 8 * n))

-- which blocks are passed over: by the bit where a block began, and its number
abbrev pub Pass : Type 0
Pass = ℕ → ℕ → Bool

-- how a block that is entered is read: by the bit where it began, its head, and the state
abbrev pub Sub : Type 0
Sub = ℕ → Head → State → Reader Refusal Pieces

-- "Number 0 is BLOCKINFO, read now. A number in the lent skip list gives a skip event, body unread; 0 there has no effect. Else .. the body"
unfoldable pub body_of : Sub → Pass → ℕ → State → Head → Reader Refusal Piece
body_of sub skips from st (head b w at n) =
    when eqb b 0 then (do
      xs ← within n (turns (λ k. info k w nothing (length st.shareds)))
      give (blockinfo from (head b w at n) xs)) else
    when skips from b then (do
      event_room from st
      within n (give (tt {0}))
      give (skipped from (head b w at n))) else (do
        xs ← sub from (head b w at n) st
        give (block from (head b w at n) xs))

unfoldable pub complete : Sub → Pass → State → Opening → Reader Refusal (Option Piece)
complete sub skips st ended = give nothing
complete sub skips st (defined a) = give (some (definition a))
complete sub skips st (recorded from b first r) = give (some (the_record from b first r))
complete sub skips st (headed from h) = do
  x ← body_of sub skips from st h
  give (some x)

-- ---- a whole item: nothing at the end
unfoldable pub item : Sub → Pass → Context → State → Reader Refusal (Option Piece)
item sub skips c st = do
  o ← opening c st
  complete sub skips st o

-- ---- the items of a block; `more` reads those behind a piece
unfoldable pub going_on : ℕ → Option Piece → (Piece → Reader Refusal Pieces) → Reader Refusal Pieces
going_on from nothing more = give (done from)
going_on from (some x) more = do
  xs ← more x
  give (◌then◌ x xs)

unfoldable pub items : ℕ → Sub → Pass → Context → State → Reader Refusal Pieces
items zero sub skips c st = stop (at_bit 0 buffer_overflow)
items (suc k) sub skips c st = do
  from ← here
  x ← item sub skips c st
  going_on from x (λ y. items k sub skips c (after y st))

-- ---- a block that is entered, with `d` levels to go: "16 if 32 are open, then 18, then the body. Entering a nested block is the same walk with one level less to go"
unfoldable pub nested : ℕ → Pass → Sub
nested zero skips from (head b w at n) st = stop (at_bit from (too_deep b))
nested (suc d) skips from (head b w at n) st = do
  event_room from st
  within n (turns (λ k. items k (nested d skips) skips (record { number = b; wide = w; top = false }) (entered b st)))
