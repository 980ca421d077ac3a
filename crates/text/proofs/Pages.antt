-- How text goes onto a page piece by piece, and what that does to the buffer that it is a page of. Assumes nothing.
use mathlib.Core.List.{List, [], ◌++◌}
use mathlib.Core.Path.{◌≡◌, refl, sym, ◌∙◌}
use Prim.Native.Nat.{ℕ, ◌+◌, ◌<◌}
use denote.Ref.{MutBor}
use lib.ListN.{length, take, get_or}
use Rattle.text.specs.declared.page.Page.{Page}
use Rattle.text.specs.Text.{Puts}
use Rattle.text.specs.Page.{Opens, Writes}
use Rattle.text.proofs.Puts.{puts_none, puts_then}
use Rattle.text.proofs.Runs.{Text, run_more}

pub writes_none : (p : Page) → Writes p p []
writes_none p = record { same_buffer = refl; puts = puts_none _ _ }

pub writes_then : {p q r : Page} {a b : List ℕ} → Writes p q a → Writes q r b → Writes p r (a ++ b)
writes_then x y = record { same_buffer = y.same_buffer ∙ x.same_buffer; puts = puts_then x.puts y.puts }

-- a turn of a loop that writes a list element by element
module _ {all : List ℕ → List ℕ} {one : ℕ → ℕ → List ℕ} (t : Text all one) where
  pub writes_more : {p q r : Page} (s : List ℕ) (i : ℕ) → i < length s → Writes p q (all (take i s)) → Writes q r (one i (get_or s i 0)) → Writes p r (all (take (i + 1) s))
  writes_more s i h x y = record { same_buffer = y.same_buffer ∙ x.same_buffer; puts = run_more t s i h x.puts y.puts }

-- a buffer is put into as its page is written onto
pub page_puts : {p q : Page} {buffer : MutBor (List ℕ)} {after text : List ℕ} {fill : ℕ} → Opens p buffer fill → Writes p q text
    → (buffer.ghost_name ≡ q.bytes.ghost_name → after ≡ q.bytes.now) → Puts buffer.now after fill q.fill text
page_puts {q = q} o w e = rw (e (sym (w.same_buffer ∙ o.same_buffer)), ← o.bytes, ← o.fill) w.puts
