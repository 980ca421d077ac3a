-- `walk::clear` meets its contract: the part behind the place is filled with zeros, and the front stays. Assumes nothing.
use Rattle.walk.proofs.Stores.{put_zeros}
use Rattle.walk.proofs.clear.Goals as goal

pub returns : goal.returns
returns c =
    let a = c.args in
    put_zeros a.from a.store.now c.requires (c.fill.ensures.after (λ x i. i))
