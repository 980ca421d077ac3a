-- How many numbers of the operand store the events of a walk tell of, by its definition: as many as it holds at most. Assumes nothing.
use mathlib.Core.Bool.{Bool, true, false}
use mathlib.Core.List.{List, [], ◌∷◌, ◌++◌}
use mathlib.Core.Path.{◌≡◌, refl}
use Prim.Native.Nat.{ℕ, ◌+◌, ◌≤◌}
use native.Mathlib.Omega.{arith}
use lib.Dec.{eqb}
use lib.ListN.{length, length-append}
use Rattle.bits.specs.Reader.{when◌then◌else◌}
use Rattle.walk.specs.Record.{no_load, list_load, blob_load, Record, a_record, load_list, record_list}
use Rattle.walk.specs.Piece.{head, Head, Event, enter, skip, leave, record_event, record_of, entering, skipping, leaving, Piece, the_record, definition, blockinfo, skipped, block, Pieces, done, ◌then◌, events, all_events, store, all_store}

-- of a payload: its kind, and its length
unfoldable pub elements : ℕ → ℕ → ℕ
elements k n = when eqb k 1 then n else when eqb k 2 then n else 0

unfoldable pub weight : Event → ℕ
weight (enter b w at n) = 0
weight (leave b) = 0
weight (record_event b code first many kind at n) = many + elements kind n
weight (skip b w at n) = 0

unfoldable pub weights : List Event → ℕ
weights [] = 0
weights (x ∷ xs) = weight x + weights xs

weights_append : (xs ys : List Event) → weights (xs ++ ys) ≡ weights xs + weights ys
unfolding weights
weights_append [] ys = omega arith
weights_append (x ∷ xs) ys = omega (arith, weights_append xs ys)

elements_most : (k n : ℕ) → elements k n ≤ n
unfolding elements when◌then◌else◌
elements_most k n = by_tests (eqb k 1) (eqb k 2)
  where
    by_tests : (a b : Bool) → (when a then n else when b then n else 0) ≤ n
    by_tests true b = omega arith
    by_tests false true = omega arith
    by_tests false false = omega arith

blob_elements : (n : ℕ) → elements 3 n ≡ 0
unfolding elements when◌then◌else◌
blob_elements n = refl

record_weight : (b first : ℕ) (r : Record) → weight (record_of b first r) ≤ length (record_list r)
unfolding weight record_of record_list load_list
record_weight b first (a_record code vs no_load) = omega (arith, elements_most 0 0, length-append vs [])
record_weight b first (a_record code vs (list_load k xs)) = omega (arith, elements_most k (length xs), length-append vs xs)
record_weight b first (a_record code vs (blob_load at bs)) = omega (arith, blob_elements (length bs), length-append vs [])

enter_weight : (h : Head) → weight (entering h) ≡ 0
unfolding weight entering
enter_weight (head b w at n) = refl

leave_weight : (h : Head) → weight (leaving h) ≡ 0
unfolding weight leaving
leave_weight (head b w at n) = refl

skip_weight : (h : Head) → weight (skipping h) ≡ 0
unfolding weight skipping
skip_weight (head b w at n) = refl

mutual
  unfolding events all_events store all_store weights

  weights_of : (x : Piece) → weights (events x) ≤ length (store x)
  weights_of (the_record from b first r) = omega (arith, record_weight b first r)
  weights_of (definition a) = omega arith
  weights_of (blockinfo from h sh) = omega arith
  weights_of (skipped from h) = omega (arith, skip_weight h)
  weights_of (block from h inner) =
      omega (arith, weights_append (all_events inner) (leaving h ∷ []), enter_weight h, leave_weight h, weights_most inner)

  pub weights_most : (xs : Pieces) → weights (all_events xs) ≤ length (all_store xs)
  weights_most (done end) = omega arith
  weights_most (◌then◌ x xs) =
      omega (arith, weights_append (events x) (all_events xs), length-append (store x) (all_store xs), weights_of x, weights_most xs)
