-- No second outcome of the walk: two answers, and what the two lent stores hold behind each, that both meet the contract of `walk::walk` are equal.
-- Assumes nothing.
use mathlib.Core.List.{List}
use mathlib.Core.Path.{◌≡◌, refl, sym, ap, ◌∙◌}
use Rattle.std.specs.Prelude.{Result, Ok, Err, eqb, if◌then◌else◌}
use Rattle.terms.specs.Refusals.{no, no_of}
use Rattle.terms.specs.declared.Refused.{Refused}
use Rattle.terms.proofs.Once.{reason_of, reason_back, never_zero, no_whole}
use Prim.Native.Nat.{ℕ}
use Rattle.bits.proofs.Once.{same_once}
use Rattle.walk.specs.declared.Walked.{Walked}
use Rattle.walk.specs.declared.Accepted.{Accepted}
use Rattle.walk.specs.Demands.{Meets}
use Rattle.walk.specs.Numbers.{numbers_of}

pub walk_once : (bs skip : List ℕ) (n m : ℕ) (r r' : Walked) (es es' os os' : List ℕ) → Meets bs skip n m r es os → Meets bs skip n m r' es' os'
    → (r ≡ r') × (es ≡ es') × (os ≡ os')
walk_once bs skip n m r r' es es' os os' x y = (same_once x.0 y.0, same_once x.1.0 y.1.0, same_once x.1.1 y.1.1)

-- what the numbers tell is had back from them, so that the call's own answer is told once too
abbrev from_numbers : Walked → Result Accepted Refused
from_numbers w =
    if eqb w.status 0 then Ok (record { header = w.header; events = w.events; operands = w.operands })
    else Err (record { reason = reason_of (no w.status w.first w.second); place = w.place })

numbers_back : (r : Result Accepted Refused) → from_numbers (numbers_of r) ≡ r
numbers_back (Ok a) = refl
numbers_back (Err r) = rw (never_zero r.reason, no_whole (no_of r.reason), reason_back r.reason) refl

pub walk_result_once : (bs skip : List ℕ) (n m : ℕ) (r r' : Result Accepted Refused) (es es' os os' : List ℕ) → Meets bs skip n m (numbers_of r) es os
    → Meets bs skip n m (numbers_of r') es' os' → (r ≡ r') × (es ≡ es') × (os ≡ os')
walk_result_once bs skip n m r r' es es' os os' x y =
    let z = walk_once bs skip n m _ _ _ _ _ _ x y in
    (sym (numbers_back r) ∙ ap from_numbers z.0 ∙ numbers_back r', z.1, z.2)
