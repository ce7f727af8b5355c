use mathlib.Core.Path.{◌∙◌}
use borrow.Author.Tests.{tests}
use Rattle.std.proofs.Common.{rules}
use Rattle.formed.proofs.Runs.{at_most_once, distinct-by}
use Rattle.formed.proofs.are_distinct.Goals as goal

pub returns : goal.returns
returns c = c.each.ensures (at_most_once c.args.ns.now) (λ n r q k. search (rules, tests)) ∙ distinct-by c.args.ns.now
