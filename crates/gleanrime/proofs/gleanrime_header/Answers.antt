-- `gleanrime::gleanrime_header` meets its contract: the header that `parse` gives, or zeros, over the front of `told`. Assumes nothing.
use mathlib.Core.Path.{sym, ◌∙◌}
use Rattle.gleanrime.proofs.Parts.{header_refused, header_signed}
use Rattle.gleanrime.proofs.gleanrime_header.Goals as goal

pub returns-in-Err : goal.returns-in-Err
returns-in-Err c =
    let all = header_refused _ _ _ (sym c.parse.ensures ∙ c.in-Err.is) c.put_front.ensures in
    record { status = c.number.ensures ∙ all.0; told = all.1 }

pub returns-in-Ok : goal.returns-in-Ok
returns-in-Ok c =
    let all = header_signed _ _ _ (sym c.parse.ensures ∙ c.in-Ok.is)
    (rw c.six_of.ensures at c.put_front-in-Ok.ensures) in
    record { status = all.0; told = all.1 }
