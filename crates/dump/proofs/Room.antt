-- The room that the dump lends for its text holds the text of every input. Assumes nothing.
use mathlib.Core.Bool.{Bool, true, false}
use mathlib.Core.List.{List, [], ◌∷◌, ◌++◌, append_assoc}
use mathlib.Core.Path.{◌≡◌, refl}
use Prim.Native.Nat.{ℕ, zero, suc, ◌+◌, ◌-◌, ◌*◌, ◌/◌, ◌≤◌}
use native.Mathlib.Omega.{arith}
use lib.Dec.{ltb}
use lib.ListN.{length, take, drop, replicate}
use Rattle.terms.specs.Limits.{event_size}
use Rattle.terms.specs.Refusals.{refusal}
use Rattle.bits.specs.Reader.{when◌then◌else◌}
use Rattle.walk.specs.declared.Walked.{Walked}
use Rattle.walk.specs.Piece.{Event, enter, skip, leave, record_event, all_events, all_store}
use Rattle.walk.specs.Walk.{Outcome, denied, accepted, walk, entry, entries, filled, result, walked}
use Rattle.walk.proofs.Whole.{counts_events, entries_length, filled_length, Fits, walk_fits}
use Rattle.walk.proofs.Weights.{weight, weights, weights_most}
use Rattle.text.specs.Text.{Puts}
use Rattle.text.specs.Dump.{status_line, dump, shown as showing}
use Rattle.text.proofs.Puts.{puts_whole}
use Rattle.text.proofs.Lengths.{Most, more, status_most, entry_weight, entry_weights, entry_weights_front, dump_most}
use Rattle.dump.specs.Dumped.{too_long, shown, dumped}

-- ---- the store's first entries tell of no more than the events do
first_entry : (x : Event) (r : List ℕ) → entry_weight (take event_size (entry x ++ r)) ≡ weight x
unfolding entry entry_weight weight when◌then◌else◌
first_entry (enter b w at n) r = refl
first_entry (leave b) r = refl
first_entry (record_event b code first many kind at n) r = refl
first_entry (skip b w at n) r = refl

behind_entry : (x : Event) (r : List ℕ) → drop event_size (entry x ++ r) ≡ r
unfolding entry
behind_entry (enter b w at n) r = refl
behind_entry (leave b) r = refl
behind_entry (record_event b code first many kind at n) r = refl
behind_entry (skip b w at n) r = refl

no_entry : (l : List ℕ) → entry_weights 0 l ≡ 0
unfolding entry_weights
no_entry l = refl

entries_weigh : (n : ℕ) (xs : List Event) (r : List ℕ) → n ≤ length xs → entry_weights n (entries xs ++ r) ≤ weights xs
unfolding entries weights
entries_weigh zero xs r h = omega (arith, no_entry (entries xs ++ r))
entries_weigh (suc n) [] r h = absurd (omega arith)
entries_weigh (suc n) (x ∷ xs) r h =
    let e : entry_weights (suc n) (entry x ++ (entries xs ++ r)) ≡ weight x + entry_weights n (entries xs ++ r)
    = rw (entry_weights_front n (entry x ++ (entries xs ++ r)), first_entry x (entries xs ++ r), behind_entry x (entries xs ++ r)) in
    rw append_assoc (omega (arith, entries_weigh n xs r (omega arith)))

-- ---- the text of a store that holds these events
store_most : (w : Walked) (n m : ℕ) (xs : List Event) (ops : List ℕ) → w.events ≡ length xs → event_size * length xs ≤ n → weights xs ≤ m
    → Most (312 + 178 * (n / event_size) + 22 * m) (dump w (filled n (entries xs)) ops)
unfolding showing filled
store_most w n m xs ops e h l =
    let zeros : List ℕ = replicate (n - length (entries xs)) 0 in
    let size : length (entries xs ++ zeros) ≡ n = filled_length n (entries xs) (omega (arith, entries_length xs)) in
    let k : ℕ = showing w.events (length (entries xs ++ zeros)) in
    more (dump_most w (entries xs ++ zeros) ops) (omega (arith, entries_weigh k xs zeros (omega arith)))

-- ---- every outcome, and every input
shown_most : (n m : ℕ) (x : Outcome) → Fits n m x → Most (312 + 178 * (n / event_size) + 22 * m) (shown (result n m x))
unfolding shown result Fits entries weights
shown_most n m (accepted h xs) (i, j) =
    store_most _ n m (all_events xs) (filled m (all_store xs)) refl (omega (arith, counts_events xs)) (omega (arith, weights_most xs))
shown_most n m (denied (refusal k p a b)) f = store_most _ n m [] (filled m []) refl (omega arith) (omega arith)

walked_most : (input skips : List ℕ) (n m : ℕ) → Most (312 + 178 * (n / event_size) + 22 * m) (shown (walked input skips n m))
unfolding walked
walked_most input skips n m = shown_most n m (walk input skips n m) (walk_fits input skips n m)

pub dump_fits : (input : List ℕ) → length (dumped input) ≤ 524288
unfolding dumped when◌then◌else◌
dump_fits input = by_test (ltb 65536 (length input)) (more (walked_most input [] 8192 8192) (omega arith))
  where
    by_test : (t : Bool) {text : List ℕ} → Most 524288 text → length (when t then status_line too_long else text) ≤ 524288
    by_test true m = omega (arith, (status_most too_long).most)
    by_test false m = m.most

-- so what stands in the buffer behind `put_input` is the whole text, and nothing else is written
pub dump_whole : (input buffer after : List ℕ) (r : ℕ) → length buffer ≡ 524288 → Puts buffer after 0 r (dumped input) → take r after ≡ dumped input
dump_whole input buffer after r long p = puts_whole p (omega (arith, dump_fits input))
