use Rattle.std.proofs.Common.{◌≡◌}
use Rattle.skawennel.proofs.Furnishing.{furnished}
use Rattle.skawennel.proofs.fill.Given as goal

abbrev pub invariant-loop-number : goal.invariant-loop-number
invariant-loop-number l = l.tables ≡ furnished l.number
