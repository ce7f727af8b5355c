use Rattle.std.proofs.Common.{ap, ◌∙◌}
use Rattle.calls.specs.ByNumber.{deed_number}
use Rattle.calls.proofs.ByRow.{good-at, by_caller, deed-3}
use Rattle.rules.proofs.Decide.{slot-in, package-in}
use Rattle.checks.proofs.Deciding.{ends_by}
use Rattle.calls.proofs.step.obey.Goals as goal

pub package-requires : goal.package-requires
unfolding Rattle.rules.specs.Step.rows
package-requires c =
    let g = good-at c.args.x 3 (c.requires.numbered ∙ ap deed_number c.in-Hand.is) c.requires.good in
    package-in _ g.a

pub slot-requires : goal.slot-requires
unfolding Rattle.rules.specs.Step.rows
slot-requires c =
    let g = good-at c.args.x 3 (c.requires.numbered ∙ ap deed_number c.in-Hand.is) c.requires.good in
    slot-in _ g.b

pub package-requires-in-Hand : goal.package-requires-in-Hand
unfolding Rattle.rules.specs.Step.rows
package-requires-in-Hand c =
    let g = good-at c.args.x 3 (c.requires.numbered ∙ ap deed_number c.in-Hand.is) c.requires.good in
    package-in _ g.c

pub slot-requires-in-Hand : goal.slot-requires-in-Hand
unfolding Rattle.rules.specs.Step.rows
slot-requires-in-Hand c =
    let g = good-at c.args.x 3 (c.requires.numbered ∙ ap deed_number c.in-Hand.is) c.requires.good in
    slot-in _ g.d

pub returns-in-Hand : goal.returns-in-Hand
returns-in-Hand c =
    ends_by _ _ _ _ _ (deed-3 _ c.args.x (c.requires.numbered ∙ ap deed_number c.in-Hand.is)) (rw (c.«package».ensures, c.slot.ensures, c.package-in-Hand.ensures, c.slot-in-Hand.ensures) at c.hand.ensures)

pub package-requires-in_default : goal.package-requires-in_default
package-requires-in_default c = (by_caller c.args.which c.args.x c.requires.numbered c.requires.good c.in_default.not-Hand).0

pub slot-requires-in_default : goal.slot-requires-in_default
slot-requires-in_default c = (by_caller c.args.which c.args.x c.requires.numbered c.requires.good c.in_default.not-Hand).1
