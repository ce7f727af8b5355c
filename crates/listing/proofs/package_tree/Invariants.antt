use Rattle.access.specs.Shown.{shown}
use Rattle.listing.specs.Walking.{part}
use Rattle.listing.proofs.Going.{Going, none, slots}
use Rattle.listing.proofs.package_tree.Given as goal

abbrev pub invariant-loop-number : goal.invariant-loop-number
invariant-loop-number l = Going (part (shown l.tables) 0) (slots l.tables l.p) l.initial.text l.text none l.marks l.number
