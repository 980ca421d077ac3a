-- `bits::Cursor::take_slice` meets its contract: off a 32-bit boundary it refuses, and else it tells what `skip_bytes` tells. Assumes nothing.
use Rattle.bits.proofs.Laws.{skip_inside, part_odd, part_off, part_to}
use Rattle.bits.specs.Told.{Parts}
use Rattle.bits.proofs.Steps.{handed}
use mathlib.Core.Path.{refl}
use native.Mathlib.Omega.{arith}
use Rattle.bits.proofs.Cursor.take_slice.Goals as goal

pub returns-then-at-ne0 : goal.returns-then-at-ne0
returns-then-at-ne0 c = part_odd _ (λ h. omega arith)

pub overflow_add-part : goal.overflow_add-part
overflow_add-part c =
    let m = skip_inside _ (c.in_ok-behind.ensures) in
    omega arith

pub returns-in_err-behind : goal.returns-in_err-behind
returns-in_err-behind c = handed (Parts _ _ _) _ c.from_residual.ensures.1 (part_off _ (omega arith) c.in_err-behind.ensures)

pub returns : goal.returns
returns c =
    (part_to _ (omega arith) (omega arith) (c.in_ok-behind.ensures), refl)
