use native.Mathlib.Omega.{arith}
use Rattle.std.proofs.Common.{rules}
use Rattle.formed.specs.Block.{entry_formed}
use Rattle.formed.proofs.Runs.{tail, every_from_on}
use Rattle.formed.proofs.Issued.entries_formed.Goals as goal

pub returns : goal.returns
returns c =
    let f = entry_formed c.args.self.now.lasts in
    let e = every_from_on f 5 16 5 c.args.x.now _ c.each.result (omega arith) (omega arith) (c.each.ensures f (λ y r q k. search rules)) c.as_chunks.ensures.front in
    rw (e, c.are_distinct.ensures, c.column-names.ensures, tail 5 80 c.args.x.now (omega arith))
