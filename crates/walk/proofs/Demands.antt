-- The theorem: demand 1 holds of whatever meets the walk call's contract. Assumes nothing.
use mathlib.Core.List.{List}
use mathlib.Core.Path.{◌≡◌, refl, sym, ap, ◌∙◌}
use Prim.Native.Nat.{ℕ}
use lib.Dec.{T}
use Rattle.terms.specs.Refusals.{refusal, walk_number}
use Rattle.bits.proofs.Answers.{KnownAt}
use Rattle.bitcode.specs.declared.Signature.{Signature}
use Rattle.walk.specs.Piece.{Pieces}
use Rattle.walk.specs.Walk.{Outcome, denied, accepted, walk, result, walked}
use Rattle.walk.specs.Promises.{answer}
use Rattle.walk.specs.Demands.{Meets, Accepts, Refuses, Ends, accepting, refusing, Demand1}
use Rattle.walk.specs.declared.Walked.{Walked}
use Rattle.walk.proofs.Whole.{Fits, walk_fits, filled_zero}

module _ (bs skip : List ℕ) (n m : ℕ) (r : Walked) (es os : List ℕ) (meets : Meets bs skip n m r es os) where
  of_accepted : (h : Signature) (xs : Pieces) → walk bs skip n m ≡ accepted h xs → Accepts bs skip n m r es os
  unfolding walked result
  of_accepted h xs z =
      let i = meets.0 ∙ ap (λ x. answer (result n m x)) z in
      record {
        pieces = xs;
        gives = z ∙ ap (λ g. accepted g xs) (ap (λ a. a.header) (sym i));
        status = ap (λ a. a.status) i;
        event_count = ap (λ a. a.events) i;
        operand_count = ap (λ a. a.operands) i;
        events = meets.1.0 ∙ ap (λ x. (result n m x).event_store) z;
        operands = meets.1.1 ∙ ap (λ x. (result n m x).operand_store) z;
      }

  of_denied : (k p x y : ℕ) → walk bs skip n m ≡ denied (refusal k p x y) → T (walk_number k) → Refuses bs skip n m r es os
  unfolding walked result
  of_denied k p x y z known =
      let i = meets.0 ∙ ap (λ x. answer (result n m x)) z in
      rw i (record {
        gives = z;
        number = known;
        header = refl;
        event_count = refl;
        operand_count = refl;
        events = meets.1.0 ∙ ap (λ x. (result n m x).event_store) z ∙ filled_zero n;
        operands = meets.1.1 ∙ ap (λ x. (result n m x).operand_store) z ∙ filled_zero m;
      })

  of_any : (x : Outcome) → walk bs skip n m ≡ x → Fits n m x → Ends bs skip n m r es os
  unfolding Fits KnownAt
  of_any (accepted h xs) z f = accepting (of_accepted h xs z)
  of_any (denied (refusal k p x y)) z f = refusing (of_denied k p x y z f)

pub demand_1 : Demand1
demand_1 bs skip n m r es os meets = of_any bs skip n m r es os meets (walk bs skip n m) refl (walk_fits bs skip n m)
