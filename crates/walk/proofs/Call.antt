-- The whole call, where it accepts, taken apart and put together: length, header, stream, items. Assumes nothing.
use mathlib.Core.Path.{◌≡◌, refl, ap, ◌∙◌}
use mathlib.Core.Bool.{Bool, true, false}
use mathlib.Core.List.{List}
use Prim.Native.Nat.{ℕ}
use native.Mathlib.Omega.{arith}
use lib.ListN.{length}
use lib.Dec.{ltb}
use Rattle.terms.specs.Limits.{max_input}
use Rattle.terms.specs.Refusals.{Refusal}
use Rattle.bits.specs.Reader.{Answer, got, refused, when◌then◌else◌}
use Rattle.bitcode.specs.declared.Signature.{Signature}
use Rattle.bitcode.specs.Header.{Opened, unsigned, opened, signature}
use Rattle.walk.specs.Piece.{Pieces}
use Rattle.walk.specs.Item.{Pass}
use Rattle.walk.specs.Walk.{top_items, Outcome, denied, accepted, outcome, walk_stream, walk_by}

-- ---- apart
outcome_apart : (h h' : Signature) (xs : Pieces) (x : Answer Refusal Pieces) → outcome h' x ≡ accepted h xs → (q : ℕ) × (h' ≡ h)
    × (x ≡ got xs q)
unfolding outcome
outcome_apart h h' xs (got ys q) z = (q, (cc), ap (λ y. got y q) (let w : ys ≡ xs = cc in w))
outcome_apart h h' xs (refused r) z = absurd (let y : ◌≡◌ {A = ℕ} 0 1 = cc in omega arith)

stream_apart : (skips : Pass) (n m : ℕ) (h : Signature) (xs : Pieces) (o : Opened) → walk_stream o skips n m ≡ accepted h xs
    → (s : List ℕ) × (q : ℕ) × (o ≡ opened h s) × (top_items skips n m s (length s) 0 ≡ got xs q)
unfolding walk_stream
stream_apart skips n m h xs unsigned z = absurd (let y : ◌≡◌ {A = ℕ} 0 1 = cc in omega arith)
stream_apart skips n m h xs (opened h' s) z =
    let (q, w₁, w₂) = outcome_apart h h' xs (top_items skips n m s (length s) 0) z in
    (s, q, ap (λ y. opened y s) w₁, w₂)

short_apart : {h : Signature} {xs : Pieces} (b : Bool) (r : Refusal) (o : Outcome) → (when b then denied r else o) ≡ accepted h xs
    → (b ≡ false) × (o ≡ accepted h xs)
unfolding when◌then◌else◌
short_apart true r o z = absurd (let y : ◌≡◌ {A = ℕ} 0 1 = cc in omega arith)
short_apart false r o z = (refl, z)

pub walk_apart : (bs : List ℕ) (skips : Pass) (n m : ℕ) (h : Signature) (xs : Pieces) → walk_by bs skips n m ≡ accepted h xs
    → (s : List ℕ) × (q : ℕ) × (ltb max_input (length bs) ≡ false) × (signature bs ≡ opened h s)
    × (top_items skips n m s (length s) 0 ≡ got xs q)
unfolding walk_by
walk_apart bs skips n m h xs z =
    let (e, z₁) = short_apart (ltb max_input (length bs)) _ _ z in
    let (s, q, z₂, z₃) = stream_apart skips n m h xs (signature bs) z₁ in
    (s, q, e, z₂, z₃)

-- ---- together
pub walk_make : (bs : List ℕ) (skips : Pass) (n m : ℕ) (h : Signature) (xs : Pieces) (s : List ℕ) (q : ℕ)
    → ltb max_input (length bs) ≡ false
    → signature bs ≡ opened h s → top_items skips n m s (length s) 0 ≡ got xs q → walk_by bs skips n m ≡ accepted h xs
unfolding walk_by walk_stream outcome when◌then◌else◌
walk_make bs skips n m h xs s q e₁ e₂ e₃ = rw e₁ (ap (λ o. walk_stream o skips n m) e₂ ∙ ap (λ x. outcome h x) e₃)
