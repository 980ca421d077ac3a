-- The text of a signed number of 64 bits by how far it is from 0, as the machine counts that. Assumes nothing.
use mathlib.Core.Bool.{true, false}
use mathlib.Core.List.{[], ◌∷◌, ◌++◌}
use mathlib.Core.Path.{◌≡◌, refl, ap}
use native.Mathlib.Omega.{arith}
use borrow.Author.Tests.{ltb-true}
use Prim.Native.Nat.{ℕ}
use lib.IntN.{ℤ, pos, negsuc, nat_abs}
use lib.Signed.{lt_z}
use mir.Syntax.{w64}
use mir.Val.{SFits, to_z, of_z}
use mir.ValLaws.{to_z-of_z}
use Rattle.text.specs.Text.{decimal, signed}

-- what the machine holds for a value
abbrev held : ℤ → ℤ
held v = to_z w64 (of_z w64 v)

less : (v : ℤ) → lt_z v (pos 0) ≡ true → signed v ≡ (45 ∷ []) ++ decimal (nat_abs v)
unfolding signed
less (pos n) t = absurd (omega (arith, ltb-true n 0 t))
less (negsuc n) t = refl

not_less : (v : ℤ) → lt_z v (pos 0) ≡ false → signed v ≡ decimal (nat_abs v)
unfolding signed
not_less (pos n) t = refl
not_less (negsuc n) t = let z : ◌≡◌ {A = ℕ} 0 1 = cc in absurd (omega arith)

pub signed_less : (v : ℤ) → SFits w64 v → lt_z (held v) (pos 0) ≡ true → signed v ≡ (45 ∷ []) ++ decimal (nat_abs v)
signed_less v f t = less v (rw (to_z-of_z w64 v f) at t)

pub signed_not_less : (v : ℤ) → SFits w64 v → lt_z (held v) (pos 0) ≡ false → signed v ≡ decimal (nat_abs v)
signed_not_less v f t = not_less v (rw (to_z-of_z w64 v f) at t)

pub held_abs : (v : ℤ) → SFits w64 v → nat_abs (held v) ≡ nat_abs v
held_abs v f = ap nat_abs (to_z-of_z w64 v f)
