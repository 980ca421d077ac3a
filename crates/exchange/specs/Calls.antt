-- DEMAND 3 over the walk call: two calls with the same skip list and stores of the same sizes, one of an input, one of the input with two neighbouring blocks
-- exchanged; what they return, and what they leave in both stores. Assumes nothing.
use Rattle.std.specs.Prelude.{◌≡◌, List, ◌++◌, ℕ, ◌<◌, get_or, length}
use Rattle.bitcode.specs.declared.Signature.{Signature}
use Rattle.bitcode.specs.Header.{blob_of}
use Rattle.walk.specs.declared.Walked.{Walked}
use Rattle.walk.specs.Piece.{Piece, Event, events, store}
use Rattle.walk.specs.Shown.{all_shown}
use Rattle.walk.specs.Walk.{entries, filled}
use Rattle.walk.specs.Demands.{Meets}
use Rattle.relocation.specs.Spot.{Spot, byte_length, front, back, front_store, back_store}
use Rattle.exchange.specs.Input.{exchanged}
use Rattle.exchange.specs.Demand3.{Shifted, Each, Neighbours}

-- r, es, os: the first call's answer and stores; r', es', os': the second's
pub record CallsExchanged (bs : List ℕ) (n m : ℕ) (t : Spot) (a b : Piece) (r r' : Walked) (es es' os os' : List ℕ) : Type 0 where
  -- both accept, with the same header numbers and counts
  pub accepts : r.status ≡ 0
  pub same_answer : r' ≡ r
  -- the event store: the two groups have changed places, and but for byte places and operand places nothing else changed
  pub first : List Event
  pub second : List Event
  pub events_were : es ≡ filled n (entries (front t ++ events a ++ events b ++ back t))
  pub events_are : es' ≡ filled n (entries (front t ++ second ++ first ++ back t))
  pub first_moves : Each (Shifted (byte_length b) 0 (length (store b)) 0) (events a) first
  pub second_moves : Each (Shifted 0 (byte_length a) 0 (length (store a))) (events b) second
  -- the operand store
  pub operands_were : os ≡ filled m (front_store t ++ store a ++ store b ++ back_store t)
  pub operands_are : os' ≡ filled m (front_store t ++ store b ++ store a ++ back_store t)
  -- and every event, looked up in the lent store, a blob by the call `blob`, shows what it showed before
  pub shows : all_shown (blob_of (exchanged bs a b)) os' (front t ++ second ++ first ++ back t)
      ≡ all_shown (blob_of bs) os (front t) ++ all_shown (blob_of bs) os (events b) ++ all_shown (blob_of bs) os (events a)
      ++ all_shown (blob_of bs) os (back t)

-- whatever meets the walk call's contract. An input's numbers are bytes, as those of every `&[u8]` are. The proof is `demand_3_calls` in proofs/Calls.antt
abbrev pub Demand3Calls : Type 0
Demand3Calls =
    (bs skips : List ℕ) (n m : ℕ) (h : Signature) (t : Spot) (a b : Piece) → ((i : ℕ) → get_or bs i 0 < 256) → Neighbours bs skips n m h t a b
    → (r r' : Walked) (es es' os os' : List ℕ) → Meets bs skips n m r es os → Meets (exchanged bs a b) skips n m r' es' os'
    → CallsExchanged bs n m t a b r r' es es' os os'
