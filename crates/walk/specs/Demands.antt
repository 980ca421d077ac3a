-- Demands 1 and 2, over what the walk call returns and what the two lent stores then hold. Assumes nothing.
use Rattle.std.specs.Prelude.{List, ◌≡◌, ℕ, T, length, replicate}
use Rattle.terms.specs.Refusals.{refusal, walk_number}
use Rattle.walk.specs.Piece.{Pieces, all_events, all_store}
use Rattle.walk.specs.Walk.{denied, accepted, walk, entries, filled, no_header, walked}
use Rattle.walk.specs.Promises.{answer}
use Rattle.walk.specs.declared.Walked.{Walked}

-- DEMAND 2: what the contract of `walk::walk` says of an answer and of both stores, of n and m numbers
abbrev pub Meets : List ℕ → List ℕ → ℕ → ℕ → Walked → List ℕ → List ℕ → Type 0
Meets bs skip n m r es os =
    (r ≡ answer (walked bs skip n m)) × ((es ≡ (walked bs skip n m).event_store) × (os ≡ (walked bs skip n m).operand_store))

-- an accepted list of events: what the walk met, and everything that is shown of it; zero behind the last event and operand
pub record Accepts (bs skip : List ℕ) (n m : ℕ) (r : Walked) (es os : List ℕ) : Type 0 where
  pub pieces : Pieces
  pub gives : walk bs skip n m ≡ accepted r.header pieces
  pub status : r.status ≡ 0
  pub event_count : r.events ≡ length (all_events pieces)
  pub operand_count : r.operands ≡ length (all_store pieces)
  pub events : es ≡ filled n (entries (all_events pieces))
  pub operands : os ≡ filled m (all_store pieces)

-- or a numbered refusal with its bit place; both stores are all zero
pub record Refuses (bs skip : List ℕ) (n m : ℕ) (r : Walked) (es os : List ℕ) : Type 0 where
  pub gives : walk bs skip n m ≡ denied (refusal r.status r.place r.first r.second)
  pub number : T (walk_number r.status)
  pub header : r.header ≡ no_header
  pub event_count : r.events ≡ 0
  pub operand_count : r.operands ≡ 0
  pub events : es ≡ replicate n 0
  pub operands : os ≡ replicate m 0

pub data Ends (bs skip : List ℕ) (n m : ℕ) (r : Walked) (es os : List ℕ) : Type 0 where
  accepting : Accepts bs skip n m r es os → Ends bs skip n m r es os
  refusing : Refuses bs skip n m r es os → Ends bs skip n m r es os

-- DEMAND 1: any bytes at all, any skip list and any two stores. The proof is `demand_1` in proofs/Demands.antt
abbrev pub Demand1 : Type 0
Demand1 = (bs skip : List ℕ) (n m : ℕ) (r : Walked) (es os : List ℕ) → Meets bs skip n m r es os → Ends bs skip n m r es os
