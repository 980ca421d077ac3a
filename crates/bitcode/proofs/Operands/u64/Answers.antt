-- `bitcode::Operands::u64` meets its contract: the two tests say that the place is below the end and inside the store. Assumes nothing.
use mathlib.Core.Path.{refl}
use native.Mathlib.Omega.{arith}
use Rattle.bitcode.proofs.Typed.{next_off, next_there}
use Rattle.bitcode.proofs.Operands.u64.Goals as goal

pub returns-then-self-at : goal.returns-then-self-at
returns-then-self-at c = next_off _ _ _ (omega arith)

pub returns-then-store-at : goal.returns-then-store-at
returns-then-store-at c = next_off _ _ _ (omega arith)

pub returns : goal.returns
returns c = record { gives = next_there _ _ _ (omega arith); ends = refl }
