-- What every run of a scalar operand obeys. Assumes nothing.
use mathlib.Core.List.{List}
use Prim.Native.Nat.{ℕ}
use Rattle.bits.proofs.Answers.{Answers, Known, on, gives, weaker, reads, vbrs}
use Rattle.bitcode.specs.Scalar.{value}
use Rattle.bitcode.specs.declared.ScalarOperand.{ScalarOperand}
use Rattle.bitcode.specs.declared.ScalarOperand.TheVariants.{Literal, Fixed, Vbr, Char6}

pub scalars : (k : ScalarOperand) {s : List ℕ} {e p : ℕ} → Answers (value k) s e p (λ v q. Unit {0}) Known
unfolding value
scalars (Literal v) = gives _ tt
scalars (Fixed w) = weaker (reads w) (λ v q l h. tt)
scalars (Vbr w) = weaker (vbrs w) (λ v q l h. tt)
scalars Char6 = on _ (reads 6) (λ v q l h. gives _ tt)
