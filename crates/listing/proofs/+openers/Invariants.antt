use Rattle.std.proofs.Common.{◌+◌, ◌*◌}
use Rattle.rules.specs.Machine.{inside}
use Rattle.text.specs.Tree.{within}
use Rattle.access.specs.Shown.{shown}
use Rattle.listing.specs.Walking.{part, unopened}
use Rattle.listing.proofs.Going.{Going}
use Rattle.listing.proofs.+openers.Given as goal

-- Each opener is called on a place that was just marked, so fewer places are unopened; and shows each of what is inside.
abbrev pub decreases-show : goal.decreases-show
decreases-show l = 2 * unopened l.marks

abbrev pub decreases-open_directory : goal.decreases-open_directory
decreases-open_directory l = 2 * unopened l.marks + 1

abbrev pub decreases-open_extended : goal.decreases-open_extended
decreases-open_extended l = 2 * unopened l.marks + 1

abbrev pub invariant-open_directory-loop-number : goal.invariant-open_directory-loop-number
invariant-open_directory-loop-number l =
    Going (part (shown l.tables) l.depth) (within (inside (shown l.tables) l.fn.at.maker l.fn.at.number)) l.initial.text l.text l.fn.marks l.marks l.number

abbrev pub invariant-open_extended-loop-number : goal.invariant-open_extended-loop-number
invariant-open_extended-loop-number l =
    Going (part (shown l.tables) l.depth) (within (inside (shown l.tables) l.fn.at.maker l.fn.at.number)) l.initial.text l.text l.fn.marks l.marks l.number
