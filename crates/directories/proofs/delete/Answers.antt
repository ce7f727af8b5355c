use Rattle.std.proofs.Common.{◌∙◌}
use Rattle.rules.specs.Machine.{slot_of}
use Rattle.rules.specs.Checks.{checked}
use Rattle.tables.specs.Layout.{machine}
use Rattle.checks.proofs.Deciding.{handed_on, ends_early, ends-refused, ends-done}
use Rattle.directories.proofs.Results.{chosen}
use Rattle.directories.proofs.Deleting.{delete-refused, delete-done, delete-left}
use Rattle.directories.proofs.delete.Goals as goal

pub returns-in_err-directory : goal.returns-in_err-directory
unfolding Rattle.rules.specs.Calls.delete
returns-in_err-directory c =
    let M = machine c.args.t.now in
    ends_early (checked M (slot_of M c.args.p.number c.args.a.number) 16 2) _ _ _ _ _ c.in_err-directory.ensures c.from_residual.ensures.1

pub returns-in_err-doomed : goal.returns-in_err-doomed
returns-in_err-doomed c =
    let o = chosen c.args.t.now c.requires.lent c.args.p.number c.args.a.number 16 c.in_ok-directory.directory c.args.p.in_range c.in_ok-directory.ensures in
    rw (handed_on _ _ c.from_residual-in_err-doomed.ensures.1) (ends-refused _ _ _ (delete-refused _ _ _ _ _ o _ c.in_err-doomed.ensures))

pub returns : goal.returns
returns c =
    let o = chosen c.args.t.now c.requires.lent c.args.p.number c.args.a.number 16 c.in_ok-directory.directory c.args.p.in_range c.in_ok-directory.ensures in
    let at = c.in_ok-directory.directory.at in
    let z = c.in_ok-doomed.doomed in
    ends-done _ _ _ _ _ (delete-done _ _ _ _ _ o z c.in_ok-doomed.ensures)
    ((rw (c.put_entry.ensures, c.none.ensures.0, c.none.ensures.1, c.none.ensures.2) at c.clear_place.ensures)
    ∙ delete-left c.args.t.now c.requires.lent 0 _ _ _ _ _ at.maker_in_range at.in_range z.position.in_range o.kind-is z.place.maker_in_range z.place.in_range)
