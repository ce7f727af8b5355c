use Rattle.std.proofs.Common.{refl, sym, ap, ◌∙◌}
use Rattle.rules.specs.Checks.{answer_of}
use Rattle.rules.proofs.Decide.{by-package, slot-in}
use Rattle.tables.proofs.Laws.{decide-formed}
use Rattle.access.proofs.View.{lent}
use Rattle.calls.proofs.ByRow.{step-bad, step-good, deed-17, good-at}
use Rattle.calls.specs.ByNumber.{call}
use Rattle.tables.specs.Call.{answer}
use Rattle.skawennel.proofs.Decided.{decide-damaged, other-length}
use Rattle.skawennel.proofs.count.Goals as goal

pub returns-in_default : goal.returns-in_default
returns-in_default c = ap answer_of (sym (decide-damaged _ _ (other-length _ c.in_default.ensures.cases)))

pub returns-then-not-well_formed : goal.returns-then-not-well_formed
returns-then-not-well_formed c =
    rw (← c.in-Some.ensures.cases.same) (ap answer_of (sym (decide-damaged _ _ (sym c.well_formed-2.ensures ∙ c.if-not-well_formed.true))))

pub returns-then-not-good_numbers : goal.returns-then-not-good_numbers
returns-then-not-good_numbers c =
    rw (← c.in-Some.ensures.cases.same)
    (ap answer_of (sym (decide-formed _ _ (sym c.well_formed-2.ensures ∙ c.if-not-well_formed.false) ∙ step-bad _ _ (sym c.good_numbers.ensures ∙ c.if-not-good_numbers.true))))

pub invariant_of-count : goal.invariant_of-count
invariant_of-count c = record { lent = lent _ (sym c.well_formed-2.ensures ∙ c.if-not-well_formed.false) }

pub invariant_of-package : goal.invariant_of-package
unfolding Rattle.rules.specs.Step.rows
invariant_of-package c =
    let g = good-at (call c.args.caller 17 c.args.slot 0 0 0 0) 17 refl (sym c.good_numbers.ensures ∙ c.if-not-good_numbers.false) in
    record { in_range = by-package _ g.caller }

pub invariant_of-slot : goal.invariant_of-slot
unfolding Rattle.rules.specs.Step.rows
invariant_of-slot c =
    let g = good-at (call c.args.caller 17 c.args.slot 0 0 0 0) 17 refl (sym c.good_numbers.ensures ∙ c.if-not-good_numbers.false) in
    record { in_range = slot-in _ g.a }

pub returns : goal.returns
returns c =
    c.count.ensures.answered
    ∙ ap answer_of
    (sym (deed-17 _ (call c.args.caller 17 c.args.slot 0 0 0 0) refl)
    ∙ sym (step-good _ _ (sym c.good_numbers.ensures ∙ c.if-not-good_numbers.false))
    ∙ sym (decide-formed _ _ (sym c.well_formed-2.ensures ∙ c.if-not-well_formed.false)))
    ∙ ap (λ t. answer t (call c.args.caller 17 c.args.slot 0 0 0 0)) c.in-Some.ensures.cases.same
