use Rattle.std.proofs.Common.{◌∙◌}
use Rattle.rules.specs.Calls.{opens}
use Rattle.tables.specs.Layout.{machine}
use Rattle.checks.proofs.Deciding.{ends_early, ends-refused, ends-done, passed}
use Rattle.checks.proofs.Leaving.{inner-left}
use Rattle.objects.proofs.Opening.{set-inner-refused, set-inner-done, second-opened}
use Rattle.objects.proofs.set_inner.Goals as goal

pub returns-in_err-object : goal.returns-in_err-object
unfolding Rattle.rules.specs.Calls.set_inner_place
returns-in_err-object c =
    ends_early (opens (machine c.args.t.now) c.args.p.number c.args.a.number c.args.b.number) _ _ _ _ _ c.in_err-object.ensures c.from_residual.ensures.1

pub returns-then-not-is_null-addable : goal.returns-then-not-is_null-addable
returns-then-not-is_null-addable c =
    let s = c.in_ok-object.ensures in
    let f = passed (opens (machine c.args.t.now) c.args.p.number c.args.a.number c.args.b.number) s.0 in
    let o = second-opened c.args.t.now c.requires c.args.p.number c.args.b.number _ _ c.args.p.in_range s.1.0 s.1.1 c.args.a.number f in
    ends-refused _ _ _
    (set-inner-refused _ _ _ _ _ _ o _ _ f (rw (c.is_null.ensures, c.addable.ensures, c.permits.ensures, c.slot-put.ensures) at c.if-not-is_null-addable.true))

pub returns : goal.returns
returns c =
    let s = c.in_ok-object.ensures in
    let f = passed (opens (machine c.args.t.now) c.args.p.number c.args.a.number c.args.b.number) s.0 in
    let o = second-opened c.args.t.now c.requires c.args.p.number c.args.b.number _ _ c.args.p.in_range s.1.0 s.1.1 c.args.a.number f in
    ends-done _ _ _ _ _
    (set-inner-done _ _ _ _ _ _ o _ _ f (rw (c.is_null.ensures, c.addable.ensures, c.permits.ensures, c.slot-put.ensures) at c.if-not-is_null-addable.false))
    ((rw c.slot-put.ensures at c.put_inner.ensures) ∙ inner-left c.args.t.now c.requires 0 _ _ _ _ o.maker-below o.place-below c.args.c.in_range o.kind-is)
