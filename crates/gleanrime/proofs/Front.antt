-- Numbers put over the front of a store, one after the other: what stands in the store meanwhile. Assumes nothing.
use mathlib.Core.List.{List, ◌++◌}
use Prim.Native.Nat.{ℕ}
use lib.ListN.{take, drop}

-- the first i numbers have been put
abbrev pub so_far : ℕ → List ℕ → List ℕ → List ℕ
so_far i new old = take i new ++ drop i old
