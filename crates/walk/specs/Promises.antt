-- What the values, the tables and the stores of the code stand for: the relations that the walk's functions promise to each other. The public call's
-- contract cites only `answer` of these. Assumes nothing.
use Rattle.std.specs.Prelude.{◌≡◌, true, false, List, [], ◌∷◌, ◌++◌, ℕ, suc, ◌+◌, ◌-◌, ◌*◌, ◌/◌, ◌≤◌, ◌<◌, length, take, replicate, Result, Ok, Err}
use Rattle.std.proofs.Math.Option.{Option, none as nothing, some}
use Rattle.terms.specs.Limits.{event_size, max_shared, max_local}
use Rattle.terms.specs.Refusals.{No, Refusal, no_of, refusal_of}
use Rattle.terms.specs.declared.Reason.{Reason}
use Rattle.terms.specs.declared.Reason.TheVariants.{NoEventRoom}
use Rattle.terms.specs.declared.Refused.{Refused}
use Rattle.bits.specs.Reader.{Reader, Answer, got, refused, onward, ◌>>=◌, ◌>>◌, give, when◌then◌else◌, here, turns, placed}
use Rattle.bits.specs.Bits.{limit, read, vbr, align}
use Rattle.bits.specs.Told.{At, Off, Gives, of_read}
use Rattle.bits.specs.declared.Cursor.{Cursor}
use Rattle.bitcode.specs.declared.Signature.{Signature}
use Rattle.bitcode.specs.declared.ScalarOperand.{ScalarOperand}
use Rattle.abbrev.specs.Abbrev.{Payload, none, blob, array, Abbrev}
use Rattle.abbrev.specs.BlockInfo.{shared_for}
use Rattle.bitcode.specs.Scalar.{value}
use Rattle.abbrev.specs.Tables.{Tables, tables, shareds, block_rows, Below}
use Rattle.abbrev.specs.declared.Abbreviations.{Abbreviations}
use Rattle.walk.specs.Record.{Load, no_load, list_load, blob_load, Record, a_record, values, repeated, bytes, scalar_part, unabbreviated, array_kind, rest, load_list, record_list}
use Rattle.walk.specs.Piece.{Head, head, Piece, Pieces, Event, enter, leave, record_event, record_of, events, all_events, store, all_store, all_added, State, after}
use Rattle.walk.specs.Item.{Context, heading, Opening, headed, begun, fits, finish, opening, complete, items, nested}
use Rattle.walk.specs.Walk.{entry, entries, those, listed, top_items, filled, Result as Told}
use Rattle.walk.specs.declared.Accepted.{Accepted}
use Rattle.walk.specs.declared.Walked.{Walked}
use Rattle.walk.specs.declared.Marks.{Marks}
use Rattle.walk.specs.declared.Frame.{Frame}
use Rattle.walk.specs.declared.Block.{Block}
use Rattle.walk.specs.declared.RecordRead.{RecordRead}
use Rattle.walk.specs.declared.BlockHead.{BlockHead}
use Rattle.walk.specs.declared.Step.{Step}
use Rattle.walk.specs.declared.Step.TheVariants as S

-- ---- what the public call returns, of what the definition says
abbrev pub answer : Told → Walked
answer r = record {
  status = r.status;
  place = r.place;
  first = r.first;
  second = r.second;
  header = r.header;
  events = r.event_count;
  operands = r.operand_count;
}

-- ---- structs
-- a refusal inside an item that began at the bit `at`
abbrev pub placed_at : {A : Type 0} → ℕ → Result A Reason → Result A Refused
placed_at at (Ok a) = Ok a
placed_at at (Err why) = Err (record { reason = why; place = at })

abbrev pub held : Abbreviations → Tables
held a = tables a.kinds a.widths a.shapes a.owners

abbrev pub frame : ℕ → ℕ → ℕ → ℕ → ℕ → Frame
frame number width end left base = record { number = number; width = width; end = end; left = left; top = false; base = base }

abbrev pub marks : ℕ → ℕ → ℕ → ℕ → ℕ → Marks
marks at events operands shared local = record { at = at; events = events; operands = operands; shared = shared; local = local }

-- ---- the definition's state, computed from the marks, the tables and the sizes of the stores
abbrev pub context : Frame → Context
context f = record { number = f.number; wide = f.width; top = f.top }

abbrev pub state_of : Block → Marks → Tables → ℕ → ℕ → State
state_of B m t ne nops = record {
  shareds = shareds t 0 m.shared;
  mine = block_rows t B.own.now B.frame.base m.local;
  locals = m.local;
  room = (ne - m.events) / event_size;
  fill = m.operands;
  left = nops - m.operands;
}

-- where a block begins: "the shared ones for this block number as they stood when the block was entered"
abbrev pub start_of : Frame → Marks → Tables → ℕ → ℕ → State
start_of f m t ne nops = record {
  shareds = shareds t 0 m.shared;
  mine = shared_for f.number (shareds t 0 m.shared);
  locals = m.local;
  room = (ne - m.events) / event_size;
  fill = m.operands;
  left = nops - m.operands;
}

-- the marks lie in the stores and in the tables
pub record Sits (ne nops : ℕ) (f : Frame) (m : Marks) : Type 0 where
  pub events : m.events ≤ ne
  pub operands : m.operands ≤ nops
  pub shared : m.shared ≤ max_shared
  pub base : f.base ≤ m.local
  pub local : m.local ≤ max_local

-- the same for the block that is walked, and its shared rows are some of those that there are
abbrev pub Stands : Block → Marks → List ℕ → List ℕ → Type 0
Stands B m ev ops = Sits (length ev) (length ops) B.frame m × Below m.shared B.own.now

-- the marks m' are behind m: es more numbers are in the event store, os in the operand store
pub record Room (m m' : Marks) (ev ev' ops ops' es os : List ℕ) : Type 0 where
  pub events : take m'.events ev' ≡ take m.events ev ++ es
  pub operands : take m'.operands ops' ≡ take m.operands ops ++ os
  pub most_events : m'.events ≤ length ev'
  pub most_operands : m'.operands ≤ length ops'

-- what a block's END writes: the top level has no leave event
unfoldable pub closed : Frame → List Event
closed f = when f.top then [] else leave f.number ∷ []

-- a cursor of the block
abbrev pub Behind : Block → Cursor → Type 0
Behind B d = d.end ≡ B.frame.end

-- ---- one item: x is what its opening answers
abbrev pub completed : Block → State → Answer Refusal Opening → Answer Refusal (Option Piece)
completed B st x = onward x (λ o q. complete (nested B.frame.left (those B.skip.now)) (those B.skip.now) st o B.stream.now B.frame.end q)

abbrev pub opening_of : Block → Marks → Tables → ℕ → ℕ → Answer Refusal Opening
opening_of B m t ne nops = opening (context B.frame) (state_of B m t ne nops) B.stream.now B.frame.end m.at

-- its number has been read: n, and the cursor behind it
abbrev pub numbered : Context → State → ℕ → ℕ → Reader Refusal Opening
numbered c st from n = placed from (begun c st n) >>= finish c st from

abbrev pub numbered_of : Block → Marks → Tables → ℕ → ℕ → ℕ → Cursor → Answer Refusal Opening
numbered_of B m t ne nops n d = numbered (context B.frame) (state_of B m t ne nops) m.at n B.stream.now B.frame.end d.at

-- a block's head has been read
abbrev pub headed_at : Marks → ℕ → ℕ → ℕ → Cursor → Answer Refusal Opening
headed_at m b w n g = got (headed m.at (head b w (g.at / 8) n)) g.at

-- the walk goes on behind a piece
pub record Went (B : Block) (m m' : Marks) (t t' : Tables) (ev ev' ops ops' : List ℕ) (x : Answer Refusal Opening) : Type 0 where
  pub piece : Piece
  pub gives : completed B (state_of B m t (length ev) (length ops)) x ≡ got (some piece) m'.at
  pub state : state_of B m' t' (length ev) (length ops) ≡ after piece (state_of B m t (length ev) (length ops))
  pub room : Room m m' ev ev' ops ops' (entries (events piece)) (store piece)
  pub more : m.shared ≤ m'.shared
  pub sits : Sits (length ev') (length ops') B.frame m'

-- it goes into a block
pub record Entered (B : Block) (m m' : Marks) (b w n : ℕ) (ev ev' ops ops' : List ℕ) (x : Answer Refusal Opening) : Type 0 where
  pub opens : x ≡ got (headed m.at (head b w (m'.at / 8) n)) m'.at
  pub entered_is : (b ≡ 0 → ⊥) × (those B.skip.now m.at b ≡ false)
  pub levels : 0 < B.frame.left
  pub spare : 0 < (length ev - m.events) / event_size
  pub is : m' ≡ marks m'.at (m.events + event_size) m.operands m.shared m.local
  pub room : Room m m' ev ev' ops ops' (entry (enter b w (m'.at / 8) n)) []
  pub fits : m'.at + 8 * n ≤ limit B.stream.now B.frame.end

-- the block ends: its local abbreviations are free
pub record Ended (B : Block) (m m' : Marks) (t : Tables) (ev ev' ops ops' : List ℕ) (x : Answer Refusal Opening) : Type 0 where
  pub gives : completed B (state_of B m t (length ev) (length ops)) x ≡ got nothing m'.at
  pub room : Room m m' ev ev' ops ops' (entries (closed B.frame)) []
  pub shared : m'.shared ≡ m.shared
  pub freed : m'.local ≡ B.frame.base

abbrev pub Does : Block → Marks → Tables → Tables → List ℕ → List ℕ → List ℕ → List ℕ → Answer Refusal Opening → Result Step Refused → Type 0
Does B m t t' ev ev' ops ops' x (Ok (S.Go m')) = Went B m m' t t' ev ev' ops ops' x
Does B m t t' ev ev' ops ops' x (Ok (S.Into m' h)) = Entered B m m' h.block h.width h.length ev ev' ops ops' x
Does B m t t' ev ev' ops ops' x (Ok (S.End m')) = Ended B m m' t ev ev' ops ops' x
Does B m t t' ev ev' ops ops' x (Err r) =
    completed B (state_of B m t (length ev) (length ops)) x ≡ refused (refusal_of r)

-- what the next item of the block does
abbrev pub DoesNext : Block → Marks → Tables → Tables → List ℕ → List ℕ → List ℕ → List ℕ → Result Step Refused → Type 0
DoesNext B m t t' ev ev' ops ops' r = Does B m t t' ev ev' ops ops' (opening_of B m t (length ev) (length ops)) r

-- what it does from marks that stand in the block, where its number n has been read, and d is behind it
abbrev pub DoesNumber : Block → Marks → ℕ → Cursor → Tables → Tables → List ℕ → List ℕ → List ℕ → List ℕ → Result Step Refused → Type 0
DoesNumber B m n d t t' ev ev' ops ops' r =
    Stands B m ev ops → Does B m t t' ev ev' ops ops' (numbered_of B m t (length ev) (length ops) n d) r

-- and where a block's head has been read, and g is behind it
abbrev pub DoesHead : Block → Marks → BlockHead → Cursor → Tables → Tables → List ℕ → List ℕ → List ℕ → List ℕ → Result Step Refused → Type 0
DoesHead B m h g t t' ev ev' ops ops' r =
    Stands B m ev ops → Does B m t t' ev ev' ops ops' (headed_at m h.block h.width h.length g) r

-- the head is of a block that is passed over, or of one that is entered
abbrev pub Passing : Block → BlockHead → Type 0
Passing B h = (h.block ≡ 0 → ⊥) × (listed h.block B.skip.now ≡ true)

abbrev pub Entering : Block → BlockHead → Type 0
Entering B h = (h.block ≡ 0 → ⊥) × (listed h.block B.skip.now ≡ false)

-- ---- a whole block
abbrev pub body_answer : List ℕ → List ℕ → Frame → Marks → Tables → ℕ → ℕ → Answer Refusal Pieces
body_answer s skip f m t ne nops =
    turns (λ k. items k (nested f.left (those skip)) (those skip) (context f) (start_of f m t ne nops)) s f.end m.at

pub record Visited (s skip : List ℕ) (f : Frame) (m m' : Marks) (t t' : Tables) (ev ev' ops ops' : List ℕ) : Type 0 where
  pub pieces : Pieces
  pub gives : body_answer s skip f m t (length ev) (length ops) ≡ got pieces m'.at
  pub room : Room m m' ev ev' ops ops' (entries (all_events pieces) ++ entries (closed f)) (all_store pieces)
  pub shareds_are : shareds t' 0 m'.shared ≡ shareds t 0 m.shared ++ all_added pieces
  pub more : m.shared ≤ m'.shared
  pub most : m'.shared ≤ max_shared
  pub freed : m'.local ≡ f.base

abbrev pub Is : List ℕ → List ℕ → Frame → Marks → Tables → Tables → List ℕ → List ℕ → List ℕ → List ℕ → Result Marks Refused → Type 0
Is s skip f m t t' ev ev' ops ops' (Ok m') = Visited s skip f m m' t t' ev ev' ops ops'
Is s skip f m t t' ev ev' ops ops' (Err x) = body_answer s skip f m t (length ev) (length ops) ≡ refused (refusal_of x)

-- ---- the whole stream
pub record Streamed (s skip ev ev' ops ops' : List ℕ) (m : Marks) : Type 0 where
  pub pieces : Pieces
  pub gives : top_items (those skip) (length ev) (length ops) s (length s) 0 ≡ got pieces m.at
  pub events : take m.events ev' ≡ entries (all_events pieces)
  pub operands : take m.operands ops' ≡ all_store pieces
  pub most_events : m.events ≤ length ev'
  pub most_operands : m.operands ≤ length ops'

abbrev pub Streams : List ℕ → List ℕ → List ℕ → List ℕ → List ℕ → List ℕ → Result Marks Refused → Type 0
Streams s skip ev ev' ops ops' (Ok m) = Streamed s skip ev ev' ops ops' m
Streams s skip ev ev' ops ops' (Err x) = top_items (those skip) (length ev) (length ops) s (length s) 0 ≡ refused (refusal_of x)

-- the stores at the end
abbrev pub cleared : ℕ → List ℕ → List ℕ
cleared from xs = take from xs ++ replicate (length xs - from) 0

abbrev pub Denies : Refused → ℕ → ℕ → Result Accepted Refused → List ℕ → List ℕ → Type 0
Denies x ne nops r ev' ops' = (r ≡ Err x) × (ev' ≡ filled ne []) × (ops' ≡ filled nops [])

abbrev pub Accepts : Signature → Marks → List ℕ → List ℕ → Result Accepted Refused → List ℕ → List ℕ → Type 0
Accepts h m ev ops r ev' ops' =
    (r ≡ Ok (record { header = h; events = m.events / event_size; operands = m.operands }))
    × (ev' ≡ cleared m.events ev) × (ops' ≡ cleared m.operands ops)

-- an event's numbers behind the front of the store, where there is room
abbrev pub Written : ℕ → List ℕ → List ℕ → List ℕ → Result (Unit {0}) Reason → Type 0
Written at entry ev ev' (Ok u) = (at + event_size ≤ length ev) × (take (at + event_size) ev' ≡ take at ev ++ entry)
Written at entry ev ev' (Err why) = (why ≡ NoEventRoom) × (length ev - at < event_size)

-- ---- records
-- each call of a reader that is handed over answers what the definition reads for the operand k; `post` is what such a call is known by
abbrev pub ReadsEach : (Cursor → Result (ℕ × Cursor) Reason → Type 0) → List ℕ → ScalarOperand → Type 0
ReadsEach post s k = (c : Cursor) (r : Result (ℕ × Cursor) Reason) → post c r → Gives c s (value k) (of_read r)

-- a run of operands: the front of the store's rest
abbrev pub Runs : Cursor → List ℕ → Reader No (List ℕ) → ℕ → List ℕ → Result Cursor Reason → Type 0
Runs c s m count rest (Ok d) = At m s c.end c.at (take count rest) d × (count ≤ length rest)
Runs c s m count rest (Err why) = Off m s c.end c.at (no_of why)

-- the scalars of a record, as one run: the first is its code, for which there is always room, the others are the front of the store's rest
abbrev pub Scalars : Cursor → List ℕ → ℕ → List ScalarOperand → ℕ → List ℕ → Result (ℕ × Cursor) Reason → Type 0
Scalars c s left ks count rest (Ok (code, d)) =
    At (values (suc left) ks) s c.end c.at (code ∷ take (count - 1) rest) d × (count - 1 ≤ length rest)
Scalars c s left ks count rest (Err why) = Off (values (suc left) ks) s c.end c.at (no_of why)

-- a record, its scalar part and the rest
unfoldable pub plain : ℕ → Reader No Record
plain left = unabbreviated left >>= rest left

unfoldable pub abbreviated : ℕ → Abbrev → Reader No Record
abbreviated left a = scalar_part left a >>= rest left

pub record Reads (c : Cursor) (s : List ℕ) (m : Reader No Record) (fill : ℕ) (ops ops' : List ℕ) (r : RecordRead) (d : Cursor) : Type 0 where
  pub record_read : Record
  pub gives : At m s c.end c.at record_read d
  pub event : (b : ℕ) → record_of b fill record_read ≡ record_event b r.code fill r.count r.kind r.at r.length
  pub operands : take r.fill ops' ≡ take fill ops ++ record_list record_read
  pub most : r.fill ≤ length ops'

abbrev pub Recorded : Cursor → List ℕ → Reader No Record → ℕ → List ℕ → List ℕ → Result (RecordRead × Cursor) Reason → Type 0
Recorded c s m fill ops ops' (Ok (r, d)) = Reads c s m fill ops ops' r d
Recorded c s m fill ops ops' (Err why) = Off m s c.end c.at (no_of why)

-- a payload, behind a record's code and operands
unfoldable pub blob_bytes : ℕ → Reader No Load
blob_bytes n = do
  p ← here
  bs ← bytes n
  align
  give (blob_load (p / 8) bs)

unfoldable pub load : ℕ → Payload → Reader No Load
load left none = give no_load
load left (array k) = do
  n ← vbr 6
  xs ← repeated left n k
  give (list_load (array_kind k) xs)
load left blob = do
  n ← vbr 6
  align
  blob_bytes n

pub record Loads (c : Cursor) (s : List ℕ) (m : Reader No Load) (ops ops' : List ℕ) (r r' : RecordRead) (d : Cursor) : Type 0 where
  pub load_read : Load
  pub gives : At m s c.end c.at load_read d
  pub event : (b first : ℕ) (vs : List ℕ) → first + length vs ≡ r.fill → length vs ≡ r.count
      → record_of b first (a_record r.code vs load_read) ≡ record_event b r'.code first r'.count r'.kind r'.at r'.length
  pub operands : take r'.fill ops' ≡ take r.fill ops ++ load_list load_read
  pub most : r'.fill ≤ length ops'

abbrev pub Loaded : Cursor → List ℕ → Reader No Load → List ℕ → List ℕ → RecordRead → Result (RecordRead × Cursor) Reason → Type 0
Loaded c s m ops ops' r (Ok (r', d)) = Loads c s m ops ops' r r' d
Loaded c s m ops ops' r (Err why) = Off m s c.end c.at (no_of why)

-- a record's event: the marks behind it, or no room
abbrev pub Tells : Frame → Marks → RecordRead → ℕ → List ℕ → List ℕ → Result Step Reason → Type 0
Tells f m r at ev ev' (Ok (S.Go m')) =
    (m' ≡ marks at (m.events + event_size) r.fill m.shared m.local) × (m.events + event_size ≤ length ev)
    × (take (m.events + event_size) ev' ≡ take m.events ev ++ entry (record_event f.number r.code m.operands r.count r.kind r.at r.length))
Tells f m r at ev ev' (Ok (S.Into m' h)) = ⊥
Tells f m r at ev ev' (Ok (S.End m')) = ⊥
Tells f m r at ev ev' (Err why) = (why ≡ NoEventRoom) × (length ev - m.events < event_size)

-- ---- a head whose body fits, and its parts from the back
unfoldable pub head_length : ℕ → ℕ → Reader No Head
head_length b w = do
  n ← read 32
  p ← here
  fits (head b w (p / 8) (4 * n))
  give (head b w (p / 8) (4 * n))

unfoldable pub head_width : ℕ → Reader No Head
head_width b = do
  w ← vbr 4
  align
  head_length b w

unfoldable pub head_fits : Reader No Head
head_fits = do
  h ← heading
  fits h
  give h

abbrev pub Heads : Cursor → List ℕ → Reader No Head → Result (BlockHead × Cursor) Reason → Type 0
Heads c s m (Ok (h, d)) = At m s c.end c.at (head h.block h.width (d.at / 8) h.length) d × (d.at + 8 * h.length ≤ limit s c.end)
Heads c s m (Err why) = Off m s c.end c.at (no_of why)
