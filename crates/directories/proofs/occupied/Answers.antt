use Rattle.std.proofs.Common.{sym, ◌∙◌}
use Rattle.rules.specs.Machine.{inside}
use Rattle.access.specs.Shown.{shown}
use Rattle.directories.proofs.Deleting.{never-used, kind-told, any-used}
use Rattle.directories.proofs.occupied.Goals as goal

pub returns-then-not-is_kind : goal.returns-then-not-is_kind
returns-then-not-is_kind c =
    never-used (inside (shown c.args.t.now) c.args.at.maker c.args.at.number) (sym c.is_kind.ensures ∙ c.if-not-is_kind.true)

pub directory-requires : goal.directory-requires
directory-requires c =
    kind-told (inside (shown c.args.t.now) c.args.at.maker c.args.at.number) (sym c.is_kind.ensures ∙ c.if-not-is_kind.false)

pub returns : goal.returns
returns c =
    any-used (inside (shown c.args.t.now) c.args.at.maker c.args.at.number) _ (rw (c.directory.ensures.0, c.directory.ensures.1) at c.used.ensures)
