use Rattle.std.proofs.Common.{sym, ◌∙◌}
use Rattle.rules.specs.Machine.{slot_of}
use Rattle.rules.specs.Checks.{checked}
use Rattle.tables.specs.Layout.{machine}
use Rattle.checks.proofs.Deciding.{ends_early, ends-refused, ends-done}
use Rattle.checks.proofs.Leaving.{entry-left}
use Rattle.directories.proofs.Results.{chosen, drop-entry-missing, drop-entry-wrong, drop-entry-done}
use Rattle.directories.proofs.drop_entry.Goals as goal

pub returns-in_err-directory : goal.returns-in_err-directory
unfolding Rattle.rules.specs.Calls.drop_entry
returns-in_err-directory c =
    let M = machine c.args.t.now in
    ends_early (checked M (slot_of M c.args.p.number c.args.a.number) 16 2) _ _ _ _ _ c.in_err-directory.ensures c.from_residual.ensures.1

pub returns-in_default : goal.returns-in_default
returns-in_default c =
    let o = chosen c.args.t.now c.requires c.args.p.number c.args.a.number 16 c.in_ok-directory.directory c.args.p.in_range c.in_ok-directory.ensures in
    ends-refused _ _ _ (drop-entry-missing _ _ _ _ _ o c.in_default.ensures)

pub returns-then-is_distinguished : goal.returns-then-is_distinguished
returns-then-is_distinguished c =
    let o = chosen c.args.t.now c.requires c.args.p.number c.args.a.number 16 c.in_ok-directory.directory c.args.p.in_range c.in_ok-directory.ensures in
    ends-refused _ _ _ (drop-entry-wrong _ _ _ _ _ c.in-Some.position c.in-Some.ensures o (sym c.is_distinguished.ensures ∙ c.if-is_distinguished.true))

pub returns : goal.returns
returns c =
    let o = chosen c.args.t.now c.requires c.args.p.number c.args.a.number 16 c.in_ok-directory.directory c.args.p.in_range c.in_ok-directory.ensures in
    let at = c.in_ok-directory.directory.at in
    ends-done _ _ _ _ _ (drop-entry-done _ _ _ _ _ c.in-Some.position c.in-Some.ensures o (sym c.is_distinguished.ensures ∙ c.if-is_distinguished.false))
    ((rw (c.none.ensures.0, c.none.ensures.1, c.none.ensures.2) at c.put_entry.ensures)
    ∙ entry-left c.args.t.now c.requires 0 _ _ _ _ at.maker_in_range at.in_range c.in-Some.position.in_range o.kind-is)
