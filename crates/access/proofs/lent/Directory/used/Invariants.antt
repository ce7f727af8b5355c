use Rattle.std.proofs.Common.{◌≡◌, ◌≤◌, take}
use Rattle.things.specs.Lists.{how_many}
use Rattle.rules.specs.Machine.{is_used}
use Rattle.access.specs.Shown.{listed_in}
use Rattle.access.proofs.lent.Directory.used.Given as goal

abbrev pub invariant-loop-number : goal.invariant-loop-number
invariant-loop-number l = (l.n ≤ l.number) × (l.n ≡ how_many is_used (take l.number (listed_in l.self)))
