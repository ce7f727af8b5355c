use Rattle.std.proofs.Common.{sym, ◌∙◌}
use Rattle.tables.proofs.Laws.{decide-formed}
use Rattle.access.proofs.View.{lent}
use Rattle.checks.proofs.Deciding.{ends-refused, ends_by}
use Rattle.skawennel.proofs.Decided.{decide-damaged, other-length}
use Rattle.skawennel.proofs.step.Goals as goal

pub returns-in_default : goal.returns-in_default
returns-in_default c = ends-refused _ _ _ (decide-damaged _ _ (other-length _ c.in_default.ensures.cases))

pub returns-then-not-well_formed : goal.returns-then-not-well_formed
returns-then-not-well_formed c =
    rw (← c.in-Some.ensures.cases.same) (ends-refused _ _ _ (decide-damaged _ _ (sym c.well_formed-2.ensures ∙ c.if-not-well_formed.true)))

pub step_formed-requires : goal.step_formed-requires
step_formed-requires c = lent _ (sym c.well_formed-2.ensures ∙ c.if-not-well_formed.false)

pub returns : goal.returns
returns c =
    rw (← c.in-Some.ensures.cases.same) (ends_by _ _ _ _ _ (decide-formed _ _ (sym c.well_formed-2.ensures ∙ c.if-not-well_formed.false)) c.step_formed.ensures)
