use Rattle.text.specs.Tree.{tree}
use Rattle.access.specs.Shown.{shown}
use Rattle.print.proofs.Writing.{Sofar}
use Rattle.listing.proofs.Bound.{eight}
use Rattle.listing.proofs.trees_of.Given as goal

abbrev pub invariant-loop-number : goal.invariant-loop-number
invariant-loop-number l = Sofar (tree (shown l.tables)) eight 0 l.initial.text l.text l.number
