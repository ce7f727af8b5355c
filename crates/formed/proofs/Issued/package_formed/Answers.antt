use native.Mathlib.Omega.{arith}
use mathlib.Core.Path.{◌≡◌}
use lib.ListN.{length, get_or, drop, take, length-drop}
use lib.Seq.{length-take-le}
use Rattle.std.proofs.Common.{rules}
use Rattle.formed.specs.Block.{place_formed}
use Rattle.formed.proofs.Runs.{tail, every_from_on, blocks_of_part}
use Rattle.formed.proofs.Packages.{package-formed}
use Rattle.formed.proofs.Issued.package_formed.Goals as goal

pub returns : goal.returns
returns c =
    let x = c.args.x.now in
    let d : length (drop 1 x) ≡ 1408 = rw (length-drop 1 x) (omega arith) in
    let m : length (take 48 (drop 1 x)) ≡ 48 = length-take-le 48 (drop 1 x) (omega arith) in
    let f = place_formed c.args.self.now.lasts (get_or x 0 0) in
    let e = every_from_on f 49 16 85 x _ c.each.result (omega arith) (omega arith) (c.each.ensures f (λ y r q k. search rules)) c.as_chunks.ensures.front in
    rw (c.capabilities_formed.ensures, m, blocks_of_part 16 3 (drop 1 x), e, c.are_distinct.ensures, c.column-serials.ensures, tail 49 1360 x (omega arith))
    (package-formed c.args.self.now.lasts x (omega arith) (c.fits-x 0))
