-- Parts of the stores, and the cases of a list, as the code tests them. Assumes nothing.
use mathlib.Core.List.{List, [], ◌∷◌, ◌++◌}
use mathlib.Core.Path.{◌≡◌, refl}
use Prim.Native.Nat.{ℕ, ◌+◌}
use native.Mathlib.Numerals.{add-one}
use native.Mathlib.Omega.{arith}
use lib.ListN.{length}
use Rattle.text.specs.Text.{items}
use Rattle.text.specs.Dump.{codes, listed, entry, event_line, event_lines}

pub listed_none : (xs : List ℕ) → length xs ≡ 0 → listed xs ≡ codes "-" ++ items 0 xs
unfolding listed items codes
listed_none [] h = refl
listed_none (v ∷ vs) h = absurd (omega arith)

pub listed_some : (xs : List ℕ) → (length xs ≡ 0 → ⊥) → listed xs ≡ items 0 xs
unfolding listed
listed_some [] h = absurd (h refl)
listed_some (v ∷ vs) h = refl

-- the lines of one event more
pub lines_more : (i : ℕ) (events ops : List ℕ) → event_lines (i + 1) events ops ≡ event_lines i events ops ++ event_line i (entry events i) ops
unfolding event_lines
lines_more i events ops = rw (add-one i)
