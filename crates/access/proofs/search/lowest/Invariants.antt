use Rattle.std.proofs.Common.{ℕ, false, ◌<◌}
use Rattle.access.proofs.search.lowest.Given as goal

abbrev pub invariant-loop-i : goal.invariant-loop-i
invariant-loop-i g l = (k : ℕ) → k < l.i → goal.F-post g l.passes k false
