-- No second outcome of the exported calls: for each, two results with what the lent stores and numbers hold behind each, that both meet its contract,
-- are equal. Assumes nothing.
use mathlib.Core.List.{List}
use mathlib.Core.Path.{◌≡◌}
use Prim.Native.Nat.{ℕ}
use lib.IntN.{ℤ}
use Rattle.bits.proofs.Once.{same_once}
use Rattle.gleanrime.specs.Told.{Returns}
use Rattle.gleanrime.specs.Header.{ReturnsHeader, ReturnsBlob}
use Rattle.gleanrime.specs.Operands.{ReturnsUnsigned, ReturnsSigned, ReturnsRange}

pub gleanrime_walk_once : (bs skip : List ℕ) (n m : ℕ) (old : List ℕ) (r r' : ℕ) (es es' os os' ts ts' : List ℕ) → Returns bs skip n m old r es os ts
    → Returns bs skip n m old r' es' os' ts' → (r ≡ r') × (es ≡ es') × (os ≡ os') × (ts ≡ ts')
gleanrime_walk_once bs skip n m old r r' es es' os os' ts ts' x y =
    (same_once x.0 y.0, same_once x.1.0 y.1.0, same_once x.1.1.0 y.1.1.0, same_once x.1.1.1 y.1.1.1)

module _ (bs : List ℕ) where
  pub gleanrime_header_once : (old : List ℕ) (r r' : ℕ) (ts ts' : List ℕ) → ReturnsHeader bs old r ts → ReturnsHeader bs old r' ts'
      → (r ≡ r') × (ts ≡ ts')
  gleanrime_header_once old r r' ts ts' x y = (same_once x.0 y.0, same_once x.1 y.1)

  pub gleanrime_blob_once : (place n r r' f f' : ℕ) → ReturnsBlob bs place n r f → ReturnsBlob bs place n r' f' → (r ≡ r') × (f ≡ f')
  gleanrime_blob_once place n r r' f f' x y = (same_once x.0 y.0, same_once x.1 y.1)

module _ (s : List ℕ) (first count : ℕ) where
  pub gleanrime_unsigned_once : (bits r r' v v' : ℕ) → ReturnsUnsigned s first count bits r v → ReturnsUnsigned s first count bits r' v'
      → (r ≡ r') × (v ≡ v')
  gleanrime_unsigned_once bits r r' v v' x y = (same_once x.0 y.0, same_once x.1 y.1)

  pub gleanrime_signed_once : (r r' : ℕ) (v v' : ℤ) → ReturnsSigned s first count r v → ReturnsSigned s first count r' v' → (r ≡ r') × (v ≡ v')
  gleanrime_signed_once r r' v v' x y = (same_once x.0 y.0, same_once x.1 y.1)

  pub gleanrime_range_once : (r r' a a' e e' : ℕ) → ReturnsRange s first count r a e → ReturnsRange s first count r' a' e'
      → (r ≡ r') × (a ≡ a') × (e ≡ e')
  gleanrime_range_once r r' a a' e e' x y = (same_once x.0 y.0, same_once x.1.0 y.1.0, same_once x.1.1 y.1.1)
