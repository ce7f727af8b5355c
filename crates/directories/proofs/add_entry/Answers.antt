use Rattle.std.proofs.Common.{sym, ◌∙◌}
use Rattle.rules.specs.Machine.{slot_of}
use Rattle.rules.specs.Checks.{checked}
use Rattle.tables.specs.Layout.{machine}
use Rattle.checks.proofs.Deciding.{handed_on, ends_early, ends-refused, ends-done}
use Rattle.checks.proofs.Leaving.{entry-left}
use Rattle.directories.proofs.Results.{chosen, add-entry-empty, add-entry-full, add-entry-done}
use Rattle.directories.proofs.add_entry.Goals as goal

pub returns-in_err-directory : goal.returns-in_err-directory
unfolding Rattle.rules.specs.Calls.add_entry
returns-in_err-directory c =
    let M = machine c.args.t.now in
    ends_early (checked M (slot_of M c.args.p.number c.args.a.number) 8 2) _ _ _ _ _ c.in_err-directory.ensures c.from_residual.ensures.1

pub returns-then-is_null : goal.returns-then-is_null
returns-then-is_null c =
    let o = chosen c.args.t.now c.requires c.args.p.number c.args.a.number 8 c.in_ok-directory.directory c.args.p.in_range c.in_ok-directory.ensures in
    ends-refused _ _ _ (add-entry-empty _ _ _ _ _ _ o ((rw c.slot-capability.ensures at (sym c.is_null.ensures)) ∙ c.if-is_null.true))

pub returns-in_err-position : goal.returns-in_err-position
returns-in_err-position c =
    let o = chosen c.args.t.now c.requires c.args.p.number c.args.a.number 8 c.in_ok-directory.directory c.args.p.in_range c.in_ok-directory.ensures in
    rw (handed_on _ _ c.from_residual-in_err-position.ensures.1)
    (ends-refused _ _ _ (add-entry-full _ _ _ _ _ _ o _ ((rw c.slot-capability.ensures at (sym c.is_null.ensures)) ∙ c.if-is_null.false) (rw c.slot-capability.ensures at c.in_err-position.ensures)))

pub returns : goal.returns
returns c =
    let o = chosen c.args.t.now c.requires c.args.p.number c.args.a.number 8 c.in_ok-directory.directory c.args.p.in_range c.in_ok-directory.ensures in
    let at = c.in_ok-directory.directory.at in
    ends-done _ _ _ _ _
    (add-entry-done _ _ _ _ _ _ o c.in_ok-position.position ((rw c.slot-capability.ensures at (sym c.is_null.ensures)) ∙ c.if-is_null.false) (rw c.slot-capability.ensures at c.in_ok-position.ensures))
    ((rw c.slot-capability.ensures at c.put_entry.ensures) ∙ entry-left c.args.t.now c.requires 0 _ _ _ _ at.maker_in_range at.in_range c.in_ok-position.position.in_range o.kind-is)
