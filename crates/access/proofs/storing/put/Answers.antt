use Rattle.std.proofs.Common.{◌+◌, arith, length}
use Rattle.access.proofs.Stored.{part-back}
use Rattle.access.proofs.storing.put.Goals as goal

pub returns : goal.returns
returns c =
    let k = c.args.k in
    rw c.copy_from_slice.ensures.after (part-back k (k + length c.args.numbers.now) c.args.t.now c.args.numbers.now (omega arith) c.requires (omega arith))
