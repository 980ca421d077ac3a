-- A half, negated, as the machine does it, and the definition of a signed number by its cases. Assumes nothing.
use Prim.Native.Nat.{ℕ, zero, suc, ◌/◌, ◌%◌, ◌-◌, ◌<◌, ◌^◌}
use mathlib.Core.Path.{◌≡◌, ap, ◌∙◌}
use native.Mathlib.Omega.{arith}
use borrow.Author.Tests.{eq-eqb, ne_eqb}
use lib.IntN.{ℤ, pos, negsuc, neg_ℤ, ◌-ℤ◌, +ℤ_idl}
use mir.Syntax.{w64}
use mir.Val.{SFits, to_z, of_z}
use mir.ValLaws.{to_z_pos, to_z-of_z}
use Rattle.bits.specs.Reader.{when◌then◌else◌}
use Rattle.bits.specs.Bits.{signed_of}

-- the negation of a half fits a signed word
neg_fits : (h : ℕ) → h < 2 ^ 63 → SFits w64 (neg_ℤ (pos h))
neg_fits zero l = record { sfits = omega arith }
neg_fits (suc k) l = record { sfits = omega arith }

-- the machine's 0 - h, of a half in a word, is that negation
neg_half : (h : ℕ) → h < 2 ^ 63 → pos 0 -ℤ to_z w64 h ≡ neg_ℤ (pos h)
neg_half h l = ap (λ (z : ℤ). pos 0 -ℤ z) (to_z_pos w64 h l) ∙ +ℤ_idl (neg_ℤ (pos h))

-- so the difference does not overflow
pub half_fits : (h : ℕ) → h < 2 ^ 63 → SFits w64 (pos 0 -ℤ to_z w64 h)
half_fits h l = rw (neg_half h l) (neg_fits h l)

-- and so it is read back from the word
pub back : (h : ℕ) → h < 2 ^ 63 → to_z w64 (of_z w64 (pos 0 -ℤ to_z w64 h)) ≡ neg_ℤ (pos h)
back h l = to_z-of_z w64 _ (half_fits h l) ∙ neg_half h l

-- ---- the definition, by its cases
module _ (v : ℕ) where
  pub signed_even : v % 2 ≡ 0 → signed_of v ≡ pos (v / 2)
  unfolding signed_of when◌then◌else◌
  signed_even e = simp (eq-eqb _ _ e)

  pub signed_one : v ≡ 1 → signed_of v ≡ negsuc 9223372036854775807
  unfolding signed_of when◌then◌else◌
  signed_one e = rw e

  pub signed_odd : (v % 2 ≡ 0 → ⊥) → (v ≡ 1 → ⊥) → signed_of v ≡ neg_ℤ (pos (v / 2))
  unfolding signed_of when◌then◌else◌
  signed_odd o n =
      let h : (v - 1) / 2 ≡ v / 2 = omega arith in
      simp (ne_eqb _ _ o, ne_eqb _ _ n, h)
