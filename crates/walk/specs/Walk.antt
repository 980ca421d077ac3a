-- The walk: the whole call (01, "Walk", "Refusal numbers"). Bytes, a skip list and the sizes of two stores in; status, place, details, header
-- numbers, counts and both stores out. Assumes nothing.
use Rattle.std.specs.Prelude.{Bool, true, false, List, [], ◌∷◌, ◌++◌, ℕ, ◌-◌, ◌/◌, length, replicate, ltb, eqb}
use Rattle.terms.specs.Limits.{max_input, max_open, event_size}
use Rattle.terms.specs.Refusals.{Refusal, refusal, at_bit, invalid_signature, input_too_long}
use Rattle.bits.specs.Reader.{Reader, Answer, got, refused, when◌then◌else◌, turns}
use Rattle.bitcode.specs.declared.Signature.{Signature}
use Rattle.bitcode.specs.Header.{Opened, unsigned, opened, signature}
use Rattle.walk.specs.Piece.{Event, enter, skip, leave, record_event, Pieces, all_events, all_store, State}
use Rattle.walk.specs.Item.{Context, Pass, items, nested}

-- ---- the top level: "Top-level records carry block 4294967295", "2 at top level", "which itself isn't an open block"
unfoldable pub top_level : Context
top_level = record { number = 4294967295; wide = 2; top = true }

-- "a lent event store of n numbers holds n/8 events, rounded down"
unfoldable pub start : ℕ → ℕ → State
start events_size operands_size =
    record { shareds = []; mine = []; locals = 0; room = events_size / event_size; fill = 0; left = operands_size }

unfoldable pub top_items : Pass → ℕ → ℕ → Reader Refusal Pieces
top_items skips n m = turns (λ k. items k (nested max_open skips) skips top_level (start n m))

-- ---- "Order: 15, then 1, then the walk in stream order". n and m are the sizes of the event store and of the operand store
pub data Outcome : Type 0 where
  denied : Refusal → Outcome
  accepted : Signature → Pieces → Outcome

unfoldable pub outcome : Signature → Answer Refusal Pieces → Outcome
outcome h (got xs q) = accepted h xs
outcome h (refused r) = denied r

unfoldable pub walk_stream : Opened → Pass → ℕ → ℕ → Outcome
walk_stream unsigned skips n m = denied (at_bit 0 invalid_signature)
walk_stream (opened h s) skips n m = outcome h (top_items skips n m s (length s) 0)

unfoldable pub walk_by : List ℕ → Pass → ℕ → ℕ → Outcome
walk_by bs skips n m = when ltb max_input (length bs) then denied (at_bit 0 input_too_long) else walk_stream (signature bs) skips n m

unfoldable pub listed : ℕ → List ℕ → Bool
listed b [] = false
listed b (x ∷ xs) = when eqb x b then true else listed b xs

-- those whose number is in the skip list
unfoldable pub those : List ℕ → Pass
those skips = λ from b. listed b skips

unfoldable pub walk : List ℕ → List ℕ → ℕ → ℕ → Outcome
walk bs skips n m = walk_by bs (those skips) n m

-- ---- the stores: "Event entries are eight 64-bit numbers", kind first; "Unused numbers are 0"
unfoldable pub entry : Event → List ℕ
entry (enter b w at n) = 1 ∷ b ∷ w ∷ at ∷ n ∷ 0 ∷ 0 ∷ 0 ∷ []
entry (leave b) = 2 ∷ b ∷ 0 ∷ 0 ∷ 0 ∷ 0 ∷ 0 ∷ 0 ∷ []
entry (record_event b code first many kind at n) = 3 ∷ b ∷ code ∷ first ∷ many ∷ kind ∷ at ∷ n ∷ []
entry (skip b w at n) = 4 ∷ b ∷ w ∷ at ∷ n ∷ 0 ∷ 0 ∷ 0 ∷ []

unfoldable pub entries : List Event → List ℕ
entries [] = []
entries (x ∷ xs) = entry x ++ entries xs

-- a store of n numbers: "zero behind the last event and operand"
unfoldable pub filled : ℕ → List ℕ → List ℕ
filled n xs = xs ++ replicate (n - length xs) 0

-- ---- what the call returns, and what both stores then hold
pub record Result : Type 0 where
  pub status : ℕ
  pub place : ℕ
  pub first : ℕ
  pub second : ℕ
  pub header : Signature
  pub event_count : ℕ
  pub operand_count : ℕ
  pub event_store : List ℕ
  pub operand_store : List ℕ

abbrev pub no_header : Signature
no_header = record { magic = 0; magic2 = 0; version = 0; offset = 0; size = 0; cpu = 0 }

-- "A refused walk returns number, place, details, zero events and zero header numbers, and both stores are all zero"; "0 is acceptance"
unfoldable pub result : ℕ → ℕ → Outcome → Result
result n m (denied (refusal number place first second)) = record {
  status = number;
  place = place;
  first = first;
  second = second;
  header = no_header;
  event_count = 0;
  operand_count = 0;
  event_store = filled n [];
  operand_store = filled m [];
}
result n m (accepted h xs) = record {
  status = 0;
  place = 0;
  first = 0;
  second = 0;
  header = h;
  event_count = length (all_events xs);
  operand_count = length (all_store xs);
  event_store = filled n (entries (all_events xs));
  operand_store = filled m (all_store xs);
}

-- DEMAND 2'S DEFINITION: what the walk call does, for every input, skip list and store size
unfoldable pub walked : List ℕ → List ℕ → ℕ → ℕ → Result
walked bs skips n m = result n m (walk bs skips n m)
