use Rattle.rules.specs.Machine.{slot_of}
use Rattle.rules.specs.Checks.{checked}
use Rattle.access.specs.Shown.{shown}
use Rattle.checks.proofs.Deciding.{ends_early, ends-done}
use Rattle.checks.proofs.Leaving.{as_is}
use Rattle.directories.proofs.Results.{chosen, count-done}
use Rattle.directories.proofs.count.Goals as goal

pub returns-in_err-directory : goal.returns-in_err-directory
unfolding Rattle.rules.specs.Calls.count
returns-in_err-directory c =
    let M = shown c.args.tables.now in
    ends_early (checked M (slot_of M c.args.p.number c.args.a.number) 0 2) _ _ _ _ _ c.in_err-directory.ensures c.from_residual.ensures.1

pub returns : goal.returns
returns c =
    let t = c.args.tables.now in
    let o = chosen t.numbers.now t.lent c.args.p.number c.args.a.number 0 c.in_ok-directory.directory c.args.p.in_range c.in_ok-directory.ensures in
    rw c.used.ensures (ends-done _ _ _ _ _ (count-done _ _ _ _ o) (as_is t.numbers.now t.lent _))
