-- The whole call, by its definition, for every input, skip list and store size: it fits the stores, which keep their sizes; it refuses by a walk's
-- number, never 0; and a refusal leaves nothing. Assumes nothing.
use mathlib.Core.Path.{◌≡◌, refl, ap}
use mathlib.Core.Bool.{Bool, true, false}
use mathlib.Core.List.{List, [], ◌∷◌}
use Prim.Native.Nat.{ℕ, ◌-◌, ◌*◌, ◌≤◌}
use native.Mathlib.Omega.{arith}
use native.Mathlib.Nat.{sub-zero}
use lib.Dec.{T, ltb}
use lib.ListN.{length, length-append, replicate, length-replicate}
use Rattle.terms.specs.Limits.{max_input, max_open, event_size}
use Rattle.terms.specs.Refusals.{Refusal, refusal, walk_number}
use Rattle.bits.specs.Reader.{Answer, got, refused, when◌then◌else◌}
use Rattle.bits.proofs.Answers.{KnownAt, Has, turned}
use Rattle.bitcode.specs.declared.Signature.{Signature}
use Rattle.bitcode.specs.Header.{Opened, unsigned, opened, signature}
use Rattle.walk.specs.Piece.{Event, enter, skip, leave, record_event, Piece, the_record, definition, blockinfo, skipped, block, Pieces, done, ◌then◌, leaving, events, all_events, counted, all_counted, all_store}
use Rattle.walk.specs.Item.{Pass, nested}
use Rattle.walk.specs.Walk.{top_level, start, top_items, Outcome, denied, accepted, outcome, walk_stream, walk_by, those, walk, entry, entries, filled, Result, no_header, result, walked}
use Rattle.walk.proofs.Answers.{tail, Holds, Lies, item_runs, nesteds}

-- ---- `counted` counts the events
mutual
  unfolding events all_events counted all_counted

  pub count_events : (x : Piece) → length (events x) ≡ counted x
  count_events (the_record from b first r) = refl
  count_events (definition a) = refl
  count_events (blockinfo from h sh) = refl
  count_events (skipped from h) = refl
  count_events (block from h inner) = omega (arith, length-append (all_events inner) (leaving h ∷ []), counts_events inner)

  pub counts_events : (xs : Pieces) → length (all_events xs) ≡ all_counted xs
  counts_events (done end) = refl
  counts_events (◌then◌ x xs) = omega (arith, length-append (events x) (all_events xs), count_events x, counts_events xs)

-- ---- the stores
entry_length : (x : Event) → length (entry x) ≡ event_size
unfolding entry
entry_length (enter b w at n) = refl
entry_length (leave b) = refl
entry_length (record_event b code first many kind at n) = refl
entry_length (skip b w at n) = refl

pub entries_length : (xs : List Event) → length (entries xs) ≡ event_size * length xs
unfolding entries
entries_length [] = refl
entries_length (x ∷ xs) = omega (arith, length-append (entry x) (entries xs), entry_length x, entries_length xs)

pub filled_length : (n : ℕ) (xs : List ℕ) → length xs ≤ n → length (filled n xs) ≡ n
unfolding filled
filled_length n xs h =
    let zeros : List ℕ = replicate (n - length xs) 0 in
    let long : length zeros ≡ n - length xs = length-replicate (n - length xs) 0 in
    omega (arith, length-append xs zeros)

-- ---- every outcome
unfoldable pub Fits : ℕ → ℕ → Outcome → Type 0
Fits n m (accepted h xs) = (event_size * all_counted xs ≤ n) × (length (all_store xs) ≤ m)
Fits n m (denied r) = KnownAt r

outcome_fits : (n m p : ℕ) (s : List ℕ) (h : Signature) (x : Answer Refusal Pieces) → Has s (length s) p (λ xs q. Lies s true (start n m) xs) KnownAt x → Fits n m (outcome h x)
unfolding outcome Has Holds start tail Fits
outcome_fits n m p s h (got xs q) (l, i, ((a, b), _)) = (omega arith, b)
outcome_fits n m p s h (refused r) k = k

stream_fits : (o : Opened) (skips : Pass) (n m : ℕ) → Fits n m (walk_stream o skips n m)
unfolding walk_stream top_items top_level Fits KnownAt
stream_fits unsigned skips n m = tt
stream_fits (opened h s) skips n m =
    outcome_fits n m 0 s h _ (turned (λ k. item_runs k (nested max_open skips) skips _ (start n m) s (length s) 0 (nesteds max_open skips))).has

by_fits : (b : Bool) (o : Opened) (skips : Pass) (n m : ℕ) → Fits n m (when b then denied (refusal 15 0 0 0) else walk_stream o skips n m)
unfolding when◌then◌else◌ Fits KnownAt
by_fits true o skips n m = tt
by_fits false o skips n m = stream_fits o skips n m

pub walk_fits : (bs skips : List ℕ) (n m : ℕ) → Fits n m (walk bs skips n m)
unfolding walk walk_by
walk_fits bs skips n m = by_fits (ltb max_input (length bs)) (signature bs) (those skips) n m

-- ---- what the call returns
-- the lent stores keep their sizes
result_sizes : (n m : ℕ) (x : Outcome) → Fits n m x → (length (result n m x).event_store ≡ n) × (length (result n m x).operand_store ≡ m)
unfolding result Fits
result_sizes n m (accepted h xs) (i, j) =
    (filled_length n (entries (all_events xs)) (omega (arith, entries_length (all_events xs), counts_events xs)), filled_length m (all_store xs) j)
result_sizes n m (denied (refusal k p x y)) h = (filled_length n [] (omega arith), filled_length m [] (omega arith))

pub sizes_kept : (bs skips : List ℕ) (n m : ℕ) → (length (walked bs skips n m).event_store ≡ n) × (length (walked bs skips n m).operand_store ≡ m)
unfolding walked
sizes_kept bs skips n m = result_sizes n m (walk bs skips n m) (walk_fits bs skips n m)

-- status 0 is acceptance, and acceptance is status 0
zero_accepts : (n m : ℕ) (x : Outcome) → Fits n m x → (result n m x).status ≡ 0 → (h : Signature) × (xs : Pieces) × (x ≡ accepted h xs)
unfolding result Fits KnownAt
zero_accepts n m (accepted h xs) f e = (h, xs, refl)
zero_accepts n m (denied (refusal k p x y)) f e = absurd (rw e at f)

pub status_zero : (bs skips : List ℕ) (n m : ℕ) → (walked bs skips n m).status ≡ 0 → (h : Signature) × (xs : Pieces) × (walk bs skips n m ≡ accepted h xs)
unfolding walked
status_zero bs skips n m e = zero_accepts n m (walk bs skips n m) (walk_fits bs skips n m) e

-- any other status is one of a walk's numbers; then there is no header, no event and no operand, and both stores are all zero
pub record Nothing (n m : ℕ) (r : Result) : Type 0 where
  pub number : T (walk_number r.status)
  pub header : r.header ≡ no_header
  pub events : r.event_count ≡ 0
  pub operands : r.operand_count ≡ 0
  pub event_zeros : r.event_store ≡ replicate n 0
  pub operand_zeros : r.operand_store ≡ replicate m 0

pub filled_zero : (n : ℕ) → filled n [] ≡ replicate n 0
unfolding filled
filled_zero n = ap (λ k. replicate k 0) (sub-zero n)

result_nothing : (n m : ℕ) (x : Outcome) → Fits n m x → ((result n m x).status ≡ 0 → ⊥) → Nothing n m (result n m x)
unfolding result Fits KnownAt
result_nothing n m (accepted h xs) f e = absurd (e refl)
result_nothing n m (denied (refusal k p x y)) f e =
    record { number = f; header = refl; events = refl; operands = refl; event_zeros = filled_zero n; operand_zeros = filled_zero m }

pub refused_nothing : (bs skips : List ℕ) (n m : ℕ) → ((walked bs skips n m).status ≡ 0 → ⊥) → Nothing n m (walked bs skips n m)
unfolding walked
refused_nothing bs skips n m e = result_nothing n m (walk bs skips n m) (walk_fits bs skips n m) e
