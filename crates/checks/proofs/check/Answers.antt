use Rattle.std.proofs.Common.{sym, ◌∙◌}
use Rattle.checks.proofs.Checking.{lives, lives-at, lost, maker-in, kind-at, verdict-null, verdict-unable, verdict-gone, verdict-kind, verdict-good}
use Rattle.checks.proofs.check.Goals as goal

pub returns-then-is_null : goal.returns-then-is_null
returns-then-is_null c = verdict-null _ _ _ _ (sym c.is_null.ensures ∙ c.if-is_null.true)

pub returns-then-not-has_right : goal.returns-then-not-has_right
returns-then-not-has_right c =
    verdict-unable _ _ _ _ (sym c.is_null.ensures ∙ c.if-is_null.false) (sym c.has_right.ensures ∙ c.if-not-has_right.true)

pub find_place-requires : goal.find_place-requires
find_place-requires c =
    maker-in c.args.t.now.numbers.now c.args.t.now.lent c.args.c c.requires (sym c.is_null.ensures ∙ c.if-is_null.false)

pub returns-in_default : goal.returns-in_default
returns-in_default c =
    verdict-gone _ _ _ _ (sym c.is_null.ensures ∙ c.if-is_null.false) (sym c.has_right.ensures ∙ c.if-not-has_right.false)
    (lost c.args.t.now.numbers.now c.args.t.now.lent c.args.c.object (maker-in c.args.t.now.numbers.now c.args.t.now.lent c.args.c c.requires (sym c.is_null.ensures ∙ c.if-is_null.false)) c.in_default.ensures)

pub returns-then-not-is_kind : goal.returns-then-not-is_kind
returns-then-not-is_kind c =
    verdict-kind _ _ _ _ (sym c.is_null.ensures ∙ c.if-is_null.false) (sym c.has_right.ensures ∙ c.if-not-has_right.false)
    (lives c.args.t.now.numbers.now c.args.t.now.lent c.args.c.object (maker-in c.args.t.now.numbers.now c.args.t.now.lent c.args.c c.requires (sym c.is_null.ensures ∙ c.if-is_null.false)) c.in-Some.at.number c.in-Some.ensures.1 c.in-Some.at.in_range)
    (kind-at c.args.t.now.numbers.now c.args.t.now.lent c.args.c.object _ c.in-Some.at.maker c.in-Some.at.number c.in-Some.ensures.0 c.in-Some.ensures.1 _ (sym c.is_kind.ensures ∙ c.if-not-is_kind.true))

pub returns : goal.returns
returns c =
    let kind = sym c.is_kind.ensures ∙ c.if-not-is_kind.false in
    let passed =
    verdict-good _ _ _ _ (sym c.is_null.ensures ∙ c.if-is_null.false) (sym c.has_right.ensures ∙ c.if-not-has_right.false)
    (lives c.args.t.now.numbers.now c.args.t.now.lent c.args.c.object (maker-in c.args.t.now.numbers.now c.args.t.now.lent c.args.c c.requires (sym c.is_null.ensures ∙ c.if-is_null.false)) c.in-Some.at.number c.in-Some.ensures.1 c.in-Some.at.in_range)
    (kind-at c.args.t.now.numbers.now c.args.t.now.lent c.args.c.object _ c.in-Some.at.maker c.in-Some.at.number c.in-Some.ensures.0 c.in-Some.ensures.1 _ kind) in
    (passed, lives-at _ _ _ c.in-Some.at c.in-Some.ensures.0 c.in-Some.ensures.1 kind)
