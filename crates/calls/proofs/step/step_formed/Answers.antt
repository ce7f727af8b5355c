use Rattle.std.proofs.Common.{sym, ◌∙◌}
use Rattle.checks.proofs.Deciding.{handed_on, ends-refused, ends_by}
use Rattle.calls.proofs.ByRow.{good-by, step-unlisted, step-bad, step-good}
use Rattle.calls.proofs.step.step_formed.Goals as goal

pub returns-in_err-which : goal.returns-in_err-which
returns-in_err-which c =
    rw (handed_on _ _ c.from_residual.ensures.1, c.in_err-which.ensures.0) (ends-refused _ _ _ (step-unlisted _ c.args.x c.in_err-which.ensures.1))

pub returns-then-not-row_takes : goal.returns-then-not-row_takes
returns-then-not-row_takes c =
    ends-refused _ _ _ (step-bad _ c.args.x (good-by c.args.x _ _ c.in_ok-which.ensures (sym c.row_takes.ensures ∙ c.if-not-row_takes.true)))

pub returns : goal.returns
returns c =
    ends_by _ _ _ _ _ (step-good _ c.args.x (good-by c.args.x _ _ c.in_ok-which.ensures (sym c.row_takes.ensures ∙ c.if-not-row_takes.false))) c.obey.ensures
