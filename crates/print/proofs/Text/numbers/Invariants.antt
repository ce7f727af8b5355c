use Rattle.print.specs.Writing.{pair_then}
use Rattle.print.proofs.Writing.{Sofar}
use Rattle.print.proofs.Text.numbers.Given as goal

abbrev pub invariant-loop-n : goal.invariant-loop-n
invariant-loop-n l = Sofar pair_then l.numbers (0, 0) l.initial.self l.self l.n-index
