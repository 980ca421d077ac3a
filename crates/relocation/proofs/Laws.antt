-- The laws of the definition, each in one statement: relocation, rooms, what a block leaves behind. Law.antt, Bodies.antt, Readers.antt and Moves.antt
-- prove the first reader by reader; Keep.antt has the forms where nothing moves. Assumes nothing.
use mathlib.Core.Path.{◌≡◌, ap, ◌∙◌}
use mathlib.Core.List.{List}
use Prim.Native.Nat.{ℕ, ◌≤◌}
use native.Mathlib.Omega.{arith}
use lib.ListN.{length}
use Rattle.bits.specs.Reader.{got}
use Rattle.walk.specs.Piece.{Piece, Pieces, store, State, after}
use Rattle.walk.specs.Item.{Context, Pass}
use Rattle.walk.proofs.Answers.{Holds}
use Rattle.relocation.specs.Spot.{IsBlock, Quiet}
use Rattle.relocation.proofs.Shift.{mv, move_pieces, Like}
use Rattle.relocation.proofs.Law.{Window, Exact, Passes, taken}
use Rattle.relocation.proofs.Moves.{items_move, nested_moves}
use Rattle.relocation.proofs.Apart.{many}
use Rattle.relocation.proofs.Keep.{zero_mv, zero_pieces, alone_to, still_exact, still_passes, items_facts}
use Rattle.relocation.proofs.Blocks.{own_block, added_quiet, leaves, at_places}

-- RELOCATION: an answer depends only on the bits between its place and its end, and on the place modulo 32. Two streams agree on the bits lo..hi of the
-- first, moved by a multiple of 32 (`Window`: up - down); their ends are moved too (`Exact`); blocks in those bits are passed over in both or in neither
-- (`Passes`); the two states have the same abbreviations, and fill marks that differ by og - oo (`Like`). Then the items that were got in the first,
-- within lo..hi, are got in the second with their places moved and all else the same, if its rooms hold them
pub relocation : {s s' : List ℕ} {lo hi up down : ℕ} (win : Window s s' lo hi up down) {skips skips' : Pass} → Passes win skips skips'
    → {og oo : ℕ} {st st' : State} → Like og oo st st' → {e e' : ℕ} → Exact win e e'
    → (d k : ℕ) (c : Context) {p q : ℕ} {xs : Pieces} → many skips d k c st s e p ≡ got xs q → lo ≤ p → q ≤ hi → Holds c.top st' xs
    → many skips' d k c st' s' e' (mv up down p) ≡ got (move_pieces up down og oo xs) (mv up down q)
relocation win ps l x d k c z h g f = (taken (items_move (nested_moves d ps) ps c k x l h) z).runs g f

-- ROOMS: fill marks only grow, and rooms only shrink
pub rooms_shrink : (x : Piece) (st : State) → (st.fill ≤ (after x st).fill) × ((after x st).left ≤ st.left) × ((after x st).room ≤ st.room)
unfolding after
rooms_shrink x st = (omega arith, omega arith, omega arith)

-- what is got has room, and no other room matters: a state with other rooms that hold it gets the same
pub rooms_hold : (skips : Pass) (s : List ℕ) (d k : ℕ) (c : Context) (st : State) (e p q : ℕ) (xs : Pieces)
    → many skips d k c st s e p ≡ got xs q → Holds c.top st xs
rooms_hold skips s d k c st e p q xs z = (items_facts skips s d c st e p k q xs z).2

pub rooms_enough : (skips : Pass) (s : List ℕ) (d k : ℕ) (c : Context) (st st' : State) (e p q : ℕ) (xs : Pieces)
    → Like 0 0 st st' → many skips d k c st s e p ≡ got xs q → Holds c.top st' xs → many skips d k c st' s e p ≡ got xs q
rooms_enough skips s d k c st st' e p q xs l z f =
    let win = alone_to s q in
    let y = relocation win (still_passes win skips) l (still_exact win e) d k c z (omega arith) (omega arith) f in
    at_places (many skips d k c st' s) e y (zero_mv p) (zero_mv q) ∙ ap (λ x. got x q) (zero_pieces xs)

-- WHAT A BLOCK LEAVES: no abbreviation to the block that it stands in and, where it is quiet, none to any other: but for the rooms the state behind it is
-- the state before it
pub block_leaves : (x : Piece) (st : State) → IsBlock x → Quiet x → Like (length (store x)) 0 st (after x st)
block_leaves x st b z = leaves x st (own_block x b) (added_quiet x z)
