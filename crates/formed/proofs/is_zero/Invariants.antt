use mathlib.Core.Path.{◌≡◌}
use lib.ListN.{take}
use lib.Bits.{bit_or}
use Rattle.std.specs.List.{fold}
use Rattle.formed.proofs.is_zero.Given as goal

abbrev pub invariant-loop-n : goal.invariant-loop-n
invariant-loop-n l = l.any ≡ fold bit_or 0 (take l.n-index l.x)
