use Rattle.std.proofs.Common.{◌∙◌}
use Rattle.rules.specs.Machine.{slot_of}
use Rattle.rules.specs.Checks.{checked}
use Rattle.tables.specs.Layout.{machine}
use Rattle.checks.proofs.Deciding.{ends_early, ends-refused, ends-done}
use Rattle.checks.proofs.Leaving.{slot-left}
use Rattle.directories.proofs.Results.{chosen, fetch-missing, fetch-done}
use Rattle.directories.proofs.fetch.Goals as goal

pub returns-in_err-directory : goal.returns-in_err-directory
unfolding Rattle.rules.specs.Calls.fetch
returns-in_err-directory c =
    let M = machine c.args.t.now in
    ends_early (checked M (slot_of M c.args.p.number c.args.a.number) 4 2) _ _ _ _ _ c.in_err-directory.ensures c.from_residual.ensures.1

pub returns-in_default : goal.returns-in_default
returns-in_default c =
    let o = chosen c.args.t.now c.requires c.args.p.number c.args.a.number 4 c.in_ok-directory.directory c.args.p.in_range c.in_ok-directory.ensures in
    ends-refused _ _ _ (fetch-missing _ _ _ _ _ _ o c.in_default.ensures)

pub returns : goal.returns
returns c =
    let o = chosen c.args.t.now c.requires c.args.p.number c.args.a.number 4 c.in_ok-directory.directory c.args.p.in_range c.in_ok-directory.ensures in
    ends-done _ _ _ _ _ (fetch-done _ _ _ _ _ c.in-Some.position c.in-Some.ensures _ o)
    ((rw c.capability-listed.ensures at c.put_slot.ensures) ∙ slot-left c.args.t.now c.requires 0 _ _ _ c.args.p.in_range c.args.c.in_range)
