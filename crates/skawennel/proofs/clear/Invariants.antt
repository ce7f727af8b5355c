use Rattle.std.proofs.Common.{◌≡◌, ◌*◌, length}
use Rattle.tables.specs.Layout.{tables_size}
use Rattle.skawennel.proofs.Furnishing.{Zeros}
use Rattle.skawennel.proofs.clear.Given as goal

abbrev pub invariant-loop-k : goal.invariant-loop-k
invariant-loop-k l = (length l.tables ≡ tables_size) × Zeros (8 * l.k) l.tables
