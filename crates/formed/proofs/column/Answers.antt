use native.Mathlib.Omega.{arith}
use lib.ListN.{get_or}
use Prim.Native.Nat.{◌+◌, ◌*◌}
use Rattle.std.proofs.Common.{rules}
use Rattle.formed.proofs.Runs.{column-is, made}
use Rattle.formed.proofs.column.Goals as goal

pub returns : goal.returns
returns g c =
    column-is g.row.N c.args.w c.args.k c.args.x.now c.from_fn.result c.from_fn.ensures.items.long (omega arith)
    (made _ _ (λ i. get_or c.args.x.now (c.args.w * i + c.args.k) 0) c.from_fn.result (λ i r q h. search rules) g.row.N c.from_fn.ensures.items.each)
