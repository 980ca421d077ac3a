-- The laws of the typed operands: what the next one is by its tests, and what a number below a power of 2 is made of, for every width at once.
-- Assumes nothing.
use mathlib.Core.List.{List}
use mathlib.Core.Path.{◌≡◌}
use Prim.Native.Nat.{ℕ, ◌+◌, ◌^◌, ◌≤◌, ◌<◌, min}
use lib.ListN.{get_or, length}
use borrow.Author.Tests.{lt-ltb, le-ltb, ltb-true}
use Rattle.terms.specs.Refusals.{No, no}
use Rattle.bits.specs.Reader.{got, when◌then◌else◌, give}
use Rattle.bits.specs.Told.{At, Off}
use Rattle.bits.specs.declared.Cursor.{Cursor}
use Rattle.bits.proofs.Steps.{on, then_off, off, ends, pass, fail, apart, passed, got_value}
use Rattle.bitcode.specs.Operands.{next, next_below}

module _ (s : List ℕ) (e p : ℕ) where
  pub next_off : min e (length s) ≤ p → Off next s e p (no 14 0 0)
  unfolding next when◌then◌else◌
  next_off h = record { why = rw (le-ltb _ _ h) }

  pub next_there : p < min e (length s) → next s e p ≡ got (get_or s p 0) (p + 1)
  unfolding next when◌then◌else◌
  next_there h = rw (lt-ltb _ _ h)

module _ {s : List ℕ} {e p : ℕ} (w : ℕ) where
  pub below_off : {r : No} → Off next s e p r → Off (next_below w) s e p r
  unfolding next_below
  below_off x = off _ x

  pub below_fits : {v b : ℕ} {d : Cursor} → At next s e p v d → b ≡ 2 ^ w → v < b → At (next_below w) s e p v d
  unfolding next_below
  below_fits x i h = on _ x (pass _ _ (lt-ltb _ _ (rw i at h)) ends)

  pub below_over : {v b : ℕ} {d : Cursor} → At next s e p v d → b ≡ 2 ^ w → b ≤ v → Off (next_below w) s e p (no 13 0 0)
  unfolding next_below
  below_over x i h = then_off _ x (fail _ (le-ltb _ _ (rw i at h)))

  -- and back: what is got has that width
  pub below_lt : {v : ℕ} {d : Cursor} → At (next_below w) s e p v d → v < 2 ^ w
  unfolding next_below give
  below_lt {v} {d} x =
      let a = apart _ _ s e p x.gives in
      let b = passed _ _ s e a.1 a.3 in
      let h = ltb-true a.0 (2 ^ w) b.0 in
      rw (got_value b.1) at h
