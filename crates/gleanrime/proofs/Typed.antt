-- The exported typed operands, of what the calls of `bitcode` say. Assumes nothing.
use mathlib.Core.Bool.{Bool, true, false}
use mathlib.Core.Path.{◌≡◌, refl, sym, ◌∙◌}
use mathlib.Core.List.{List}
use Prim.Native.Nat.{ℕ, ◌+◌, ◌^◌, ◌≤◌, ◌<◌, min}
use native.Mathlib.Omega.{arith}
use lib.IntN.{ℤ, pos}
use lib.ListN.{length}
use Rattle.terms.specs.Refusals.{No, number_of}
use Rattle.bits.specs.Reader.{Reader, Answer, got, refused, onward, ◌>>=◌, give, require}
use Rattle.bits.specs.Told.{At, Off}
use Rattle.bits.specs.declared.Cursor.{Cursor}
use Rattle.bitcode.specs.declared.Operands.{Operands}
use Rattle.bitcode.specs.declared.Range.{Range}
use Rattle.bitcode.specs.Operands.{next, next_below, next_signed, next_range}
use Rattle.bitcode.proofs.Typed.{below_off, below_fits, below_over}
use Rattle.gleanrime.specs.Operands.{operand, status_of, value_or, no_range, ReturnsUnsigned, ReturnsSigned, ReturnsRange}

-- ---- a reader that answers the same up to either of two ends: where they cut the same part off the store
abbrev Same : {A : Type 0} → Reader No A → List ℕ → ℕ → ℕ → Type 0
Same m s e d = (p : ℕ) → m s e p ≡ m s d p

abbrev Alike : {A : Type 0} → Reader No A → List ℕ → Type 0
Alike m s = (e d : ℕ) → min e (length s) ≡ min d (length s) → Same m s e d

module _ (s : List ℕ) (e d : ℕ) where
  same_on : {A B : Type 0} (m : Reader No A) (f : A → Reader No B) → Same m s e d → ((a : A) → Same (f a) s e d) → Same (m >>= f) s e d
  unfolding ◌>>=◌ onward
  same_on {A} {B} m f x y p = rw (x p) (go (m s d p))
    where
      go : (z : Answer No A) → onward z (λ a q. f a s e q) ≡ onward z (λ a q. f a s d q)
      go (got a q) = y a q
      go (refused r) = refl

  same_give : {A : Type 0} (a : A) → Same (give a) s e d
  unfolding give
  same_give a p = refl

  same_require : (b : Bool) (r : No) → Same (require b r) s e d
  unfolding require
  same_require true r p = refl
  same_require false r p = refl

  same_next : min e (length s) ≡ min d (length s) → Same next s e d
  unfolding next
  same_next h p = rw h

module _ (s : List ℕ) where
  below_alike : (w : ℕ) → Alike (next_below w) s
  unfolding next_below
  below_alike w e d h = same_on s e d _ _ (same_next s e d h) (λ v. same_on s e d _ _ (same_require s e d _ _) (λ u. same_give s e d v))

  signed_alike : Alike next_signed s
  unfolding next_signed
  signed_alike e d h = same_on s e d _ _ (same_next s e d h) (λ v. same_give s e d _)

  range_alike : Alike next_range s
  unfolding next_range
  range_alike e d h =
      same_on s e d _ _ (same_next s e d h)
      (λ a. same_on s e d _ _ (same_next s e d h) (λ n. same_on s e d _ _ (same_require s e d _ _) (λ u. same_give s e d _)))

-- ---- of what `Operands::new` says, over a store s that a machine can hold
module _ (s : List ℕ) (first count : ℕ) (o : Operands)
    (new : (o.at ≡ first) × (o.end ≡ min (first + count) 18446744073709551615)) (short : length s ≤ 18446744073709551615) where
  module _ {A : Type 0} (m : Reader No A) (none : A) (alike : Alike m s) where
    -- an end that is cut off at the largest number is behind the store all the same
    uncut : (z : Answer No A) → m s o.end o.at ≡ z → operand m s first count ≡ z
    uncut z x = sym (alike (min (first + count) 18446744073709551615) (first + count) (omega arith) first) ∙ (rw (new.0, new.1) at x)

    refused_so : {k : No} → Off m s o.end o.at k
        → (number_of k ≡ status_of (operand m s first count)) × (none ≡ value_or none (operand m s first count))
    unfolding status_of value_or
    refused_so x = (rw (uncut _ x.why), rw (uncut _ x.why))

    got_so : {a : A} {d : Cursor} → At m s o.end o.at a d
        → (0 ≡ status_of (operand m s first count)) × (a ≡ value_or none (operand m s first count))
    unfolding status_of value_or
    got_so x = (rw (uncut _ x.gives), rw (uncut _ x.gives))

  -- `Operands::u64`, and the test of the width
  module _ (bits : ℕ) where
    pub unsigned_refused : {k : No} → Off next s o.end o.at k → ReturnsUnsigned s first count bits (number_of k) 0
    unsigned_refused x = refused_so (next_below bits) 0 (below_alike s bits) (below_off bits x)

    pub unsigned_got : {v : ℕ} {d : Cursor} → At next s o.end o.at v d → v < 2 ^ bits → ReturnsUnsigned s first count bits 0 v
    unsigned_got x h = got_so (next_below bits) 0 (below_alike s bits) (below_fits bits x refl h)

    pub unsigned_over : {v : ℕ} {d : Cursor} → At next s o.end o.at v d → 2 ^ bits ≤ v → ReturnsUnsigned s first count bits 13 0
    unsigned_over x h = refused_so (next_below bits) 0 (below_alike s bits) (below_over bits x refl h)

  -- `Operands::i64`
  pub signed_refused : {k : No} → Off next_signed s o.end o.at k → ReturnsSigned s first count (number_of k) (pos 0)
  signed_refused x = refused_so next_signed (pos 0) (signed_alike s) x

  pub signed_got : {v w : ℤ} {d : Cursor} → At next_signed s o.end o.at v d → w ≡ v → ReturnsSigned s first count 0 w
  signed_got x e = rw e (got_so next_signed (pos 0) (signed_alike s) x)

  -- `Operands::range`
  pub range_refused : {k : No} → Off next_range s o.end o.at k → ReturnsRange s first count (number_of k) 0 0
  range_refused x = let r = refused_so next_range no_range (range_alike s) x in (r.0, (rw (← r.1), rw (← r.1)))

  pub range_got : (v : Range) {d : Cursor} → At next_range s o.end o.at v d → ReturnsRange s first count 0 v.start v.end
  range_got v x = let r = got_so next_range no_range (range_alike s) x in (r.0, (rw (← r.1), rw (← r.1)))
