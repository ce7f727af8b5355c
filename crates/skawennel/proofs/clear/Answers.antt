use native.Mathlib.Omega.{arith}
use Rattle.std.proofs.Common.{◌*◌}
use Rattle.skawennel.proofs.Furnishing.{zeros_all}
use Rattle.skawennel.proofs.clear.Goals as goal

pub returns : goal.returns
returns c = zeros_all c.loop-k.tables (8 * c.loop-k.k) (omega arith) c.loop-k.invariant.0 c.loop-k.invariant.1
