-- No second outcome: two sums that meet the contract of an exported loop are equal; the four loops differ in the reader alone. Assumes nothing.
use Rattle.std.proofs.Common.{◌≡◌, ℕ, List}
use Rattle.terms.specs.Refusals.{No}
use Rattle.bits.specs.Reader.{Reader}
use Rattle.bits.proofs.Once.{same_once}
use Rattle.tally.specs.Total.{total}

pub tally_once : (m : Reader No ℕ) (s : List ℕ) (r r' : ℕ) → r ≡ total m s → r' ≡ total m s → r ≡ r'
tally_once m s r r' x y = same_once x y
