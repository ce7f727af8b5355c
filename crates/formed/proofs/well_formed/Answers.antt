use native.Mathlib.Omega.{arith}
use mathlib.Core.Path.{◌≡◌, ◌∙◌}
use Prim.Native.Nat.{◌/◌}
use lib.ListN.{length}
use Rattle.std.proofs.Common.{rules}
use Rattle.formed.specs.Block.{package_formed}
use Rattle.formed.proofs.Runs.{every_block}
use Rattle.formed.proofs.Packages.{tables-formed, lasts-column}
use Rattle.formed.proofs.well_formed.Goals as goal

pub returns : goal.returns
returns c =
    let n : length c.args.t.now / 1409 ≡ 8 = omega arith in
    let f = package_formed c.column.result in
    let e = every_block f 8 1409 c.args.t.now _ c.each.result (c.each.ensures f (λ y r q k. search rules)) (rw n at c.as_chunks.ensures.front) in
    rw (e, c.column.ensures ∙ lasts-column c.args.t.now) (tables-formed c.args.t.now (omega arith))
