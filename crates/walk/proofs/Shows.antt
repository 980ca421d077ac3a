-- An accepted walk's events, looked up in its operand store and in the input, show what it met. Assumes nothing.
use mathlib.Core.Path.{◌≡◌, refl, ap, ◌∙◌}
use mathlib.Core.List.{List, [], ◌++◌}
use Prim.Native.Nat.{ℕ, ◌*◌}
use lib.ListN.{length}
use Rattle.terms.specs.Limits.{max_open}
use Rattle.bits.specs.Reader.{got}
use Rattle.bits.proofs.Answers.{when_got, turned}
use Rattle.bits.proofs.Laws.{Bytes}
use Rattle.bitcode.specs.declared.Signature.{Signature}
use Rattle.bitcode.specs.Header.{signature, stream, blob_of}
use Rattle.walk.specs.Record.{octets}
use Rattle.walk.specs.Piece.{Pieces, all_events, all_store}
use Rattle.walk.specs.Item.{Pass, nested}
use Rattle.walk.specs.Shown.{Blobs, bytes_at, all_shown}
use Rattle.walk.specs.Walk.{top_level, start, top_items, accepted, walk_by}
use Rattle.walk.proofs.Blobs.{blob_shown}
use Rattle.walk.proofs.Contents.{AllPlaced, all_held, Reads, shown_pieces}
use Rattle.walk.proofs.Answers.{item_runs, nesteds}
use Rattle.walk.proofs.Call.{walk_apart}

-- ---- the two ways to read a blob: as the definition does, and as the code's call does
pub reads_definition : (bs : List ℕ) → Reads (stream (signature bs)) (bytes_at bs)
unfolding bytes_at
reads_definition bs at n l = refl

pub reads_call : (bs : List ℕ) → Bytes (stream (signature bs)) → Reads (stream (signature bs)) (blob_of bs)
unfolding blob_of
reads_call bs b at n l = blob_shown (stream (signature bs)) at n b l

top_placed : (skips : Pass) (n m : ℕ) (s : List ℕ) (q : ℕ) (xs : Pieces) → top_items skips n m s (length s) 0 ≡ got xs q → AllPlaced s 0 xs
unfolding top_items top_level start
top_placed skips n m s q xs z =
    (when_got (turned (λ k. item_runs k (nested max_open skips) skips _ (start n m) s (length s) 0 (nesteds max_open skips))) z).2.1

-- whatever stands in the store behind what the walk left there
pub shows_met : (bs : List ℕ) (skips : Pass) (n m : ℕ) (h : Signature) (xs : Pieces) → walk_by bs skips n m ≡ accepted h xs
    → (blobs : Blobs) → Reads (stream (signature bs)) blobs → (behind : List ℕ)
    → all_shown blobs (all_store xs ++ behind) (all_events xs) ≡ all_held xs
unfolding stream
shows_met bs skips n m h xs z blobs reads behind =
    let (s, q, e₁, e₂, e₃) = walk_apart bs skips n m h xs z in
    let r : Reads s blobs = λ at n l. reads at n (rw e₂ l) ∙ ap (λ x. octets x (8 * at) n) (ap stream e₂) in
    shown_pieces s blobs r [] behind 0 xs refl (top_placed skips n m s q xs e₃)
