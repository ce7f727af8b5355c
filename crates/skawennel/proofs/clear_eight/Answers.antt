use Rattle.std.proofs.Common.{◌+◌, arith, replicate}
use Rattle.access.proofs.Stored.{part-back}
use Rattle.skawennel.proofs.clear_eight.Goals as goal

pub returns : goal.returns
returns c =
    let k = c.args.from in
    rw c.copy_from_slice.ensures.after (part-back k (k + 8) c.args.tables.now (replicate 8 0) (omega arith) (omega arith) (omega arith))
