use mathlib.Core.List.{List}
use Prim.Native.Nat.{ℕ, ◌/◌}
use lib.ListN.{length}
use Rattle.std.proofs.Common.{rules}
use Rattle.rules.specs.Sound.{capability_sound}
use Rattle.tables.specs.Layout.{capability_from}
use Rattle.formed.specs.Block.{known_by}
use Rattle.formed.proofs.Runs.{every_block}
use Rattle.formed.proofs.Issuing.{capabilities_tested}
use Rattle.formed.proofs.Issued.capabilities_formed.Goals as goal

pub returns : goal.returns
returns c =
    let f = λ (y : List ℕ). capability_sound (known_by c.args.self.now.lasts) (capability_from y) in
    capabilities_tested c.args.self.now.lasts (length c.args.x.now / 3) c.args.x.now c.each.result
    (every_block f (length c.args.x.now / 3) 3 c.args.x.now _ c.each.result (c.each.ensures f (λ y r q k. search rules)) c.as_chunks.ensures.front)
