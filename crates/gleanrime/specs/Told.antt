-- What the exported walk returns, and what it leaves in the three lent stores. Assumes nothing.
use Rattle.std.specs.Prelude.{◌≡◌, List, [], ◌∷◌, ◌++◌, ℕ, length, take, drop}
use Rattle.walk.specs.declared.Walked.{Walked}
use Rattle.walk.specs.Walk.{walked}
use Rattle.walk.specs.Promises.{answer}

-- the twelve numbers of what a walk returns: status, place and details; the header numbers; how many events and operands there are
unfoldable pub numbers : Walked → List ℕ
numbers w =
    w.status ∷ w.place ∷ w.first ∷ w.second
    ∷ w.header.magic ∷ w.header.magic2 ∷ w.header.version ∷ w.header.offset ∷ w.header.size ∷ w.header.cpu
    ∷ w.events ∷ w.operands ∷ []

-- a store with new numbers over its front: as many as fit, and behind them what stood there
unfoldable pub over : List ℕ → List ℕ → List ℕ
over new old = take (length old) new ++ drop (length new) old

-- what the contract of `gleanrime_walk` says of the status r and of the three stores: es of n numbers, os of m numbers, and ts, which held `old`
abbrev pub Returns : List ℕ → List ℕ → ℕ → ℕ → List ℕ → ℕ → List ℕ → List ℕ → List ℕ → Type 0
Returns bs skip n m old r es os ts =
    (r ≡ (walked bs skip n m).status)
    × ((es ≡ (walked bs skip n m).event_store)
    × ((os ≡ (walked bs skip n m).operand_store) × (ts ≡ over (numbers (answer (walked bs skip n m))) old)))
