use Rattle.things.specs.declared.Capability.{Capability}
use Rattle.things.specs.Rights.{is_null, has_right}
use mathlib.Core.Bool.{not}
use Rattle.checks.proofs.Leaving.{slot-left}
use Rattle.checks.proofs.Deciding.{ends-done, ends-refused, refusing, letting, acting}
use mathlib.Core.Path.{sym, ap, ◌∙◌}
use Rattle.calls.proofs.slots.hand.Goals as goal

pub returns-then-is_null : goal.returns-then-is_null
unfolding Rattle.rules.specs.Calls.hand
returns-then-is_null c =
    ends-refused _ _ _ (refusing _ _ _ (ap is_null (sym c.slot-held.ensures) ∙ sym c.is_null.ensures ∙ c.if-is_null.true))

pub returns-then-not-has_right : goal.returns-then-not-has_right
unfolding Rattle.rules.specs.Calls.hand
returns-then-not-has_right c =
    ends-refused _ _ _
    (letting _ _ _ (ap is_null (sym c.slot-held.ensures) ∙ sym c.is_null.ensures ∙ c.if-is_null.false)
    ∙ refusing _ _ _
    (ap not (ap (λ (y : Capability). has_right y 1) (sym c.slot-held.ensures) ∙ sym c.has_right.ensures ∙ c.if-not-has_right.true)))

pub returns : goal.returns
unfolding Rattle.rules.specs.Calls.hand
returns c =
    ends-done _ _ _ 0 _
    (letting _ _ _ (ap is_null (sym c.slot-held.ensures) ∙ sym c.is_null.ensures ∙ c.if-is_null.false)
    ∙ letting _ _ _
    (ap not (ap (λ (y : Capability). has_right y 1) (sym c.slot-held.ensures) ∙ sym c.has_right.ensures ∙ c.if-not-has_right.false))
    ∙ acting _) ((rw c.slot-held.ensures at c.put_slot.ensures) ∙ slot-left c.args.t.now c.requires 0 c.args.c.number c.args.d.number _ c.args.c.in_range c.args.d.in_range)
