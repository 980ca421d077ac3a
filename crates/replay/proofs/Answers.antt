-- Laws of the notation, and of an answer that is held against ours. Assumes nothing.
use mathlib.Core.Bool.{Bool}
use mathlib.Core.List.{List, [], ◌∷◌, ◌++◌, append-nil, append_assoc}
use mathlib.Core.Path.{◌≡◌, refl, sym, ap, ◌∙◌}
use Prim.Native.Nat.{ℕ, ◌+◌}
use native.Mathlib.Numerals.{add-one}
use native.Mathlib.Omega.{arith}
use lib.ListN.{length, get_or, take}
use lib.Seq.{length-sets}
use Rattle.text.specs.Text.{Puts, Tells}
use Rattle.text.specs.Dump.{named, entry}
use Rattle.text.proofs.Puts.{puts_whole}
use Rattle.text.proofs.Runs.{Text}
use Rattle.replay.specs.Answer.{behind_commas, event_text, event_texts, Holds}

-- ---- one number more behind its comma, and one event more
commas_more : (xs : List ℕ) (v : ℕ) → behind_commas (xs ++ (v ∷ [])) ≡ behind_commas xs ++ named "," v
unfolding behind_commas
commas_more [] v = append-nil (named "," v)
commas_more (x ∷ xs) v = rw (commas_more xs v) (sym (append_assoc (named "," x) (behind_commas xs) (named "," v)))

pub commas_text : Text behind_commas (λ i v. named "," v)
unfolding behind_commas
commas_text = record { none = refl; more = commas_more }

pub texts_more : (i : ℕ) (events ops input : List ℕ)
    → event_texts (i + 1) events ops input ≡ event_texts i events ops input ++ event_text (get_or (entry events i) 0 0) (entry events i) ops input
unfolding event_texts
texts_more i events ops input = rw (add-one i)

-- ---- our answer in its buffer, where it stands whole unless it fills it
room_kept : {buffer after ours : List ℕ} {n : ℕ} → Puts buffer after 0 n ours → length after ≡ length buffer
room_kept {buffer} {ours = ours} p = ap length p.bytes ∙ length-sets buffer 0 ours

pub holds_whole : {buffer after ours given : List ℕ} {n : ℕ} {told : Bool} → Puts buffer after 0 n ours → (n ≡ length after → ⊥) → Tells told (take n after) given
    → Holds told (length buffer) given ours
holds_whole {buffer} {after} {ours} {given} {n} p e t =
    let whole : take n after ≡ ours = puts_whole p (omega (arith, p.mark, room_kept p)) in
    record { if_told = λ h. sym (t.if_told h) ∙ whole; if_same = λ q h. t.if_same (whole ∙ sym q) }
