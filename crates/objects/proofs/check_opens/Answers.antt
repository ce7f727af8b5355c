use Rattle.std.proofs.Common.{◌∙◌}
use Rattle.checks.proofs.Deciding.{handed_on}
use Rattle.objects.proofs.Opening.{opens-first, opens-second, opens-wrong, opens-good, other_type, second-by}
use Rattle.objects.proofs.check_opens.Goals as goal

pub returns-in_err-check_slot : goal.returns-in_err-check_slot
returns-in_err-check_slot c = rw (handed_on _ _ c.from_residual.ensures.1) (opens-first _ _ _ _ _ c.in_err-check_slot.ensures)

pub returns-in_err-object : goal.returns-in_err-object
returns-in_err-object c =
    rw (handed_on _ _ c.from_residual-in_err-object.ensures.1) (opens-second _ _ _ _ _ c.in_ok-check_slot.ensures.0 c.in_err-object.ensures)

pub returns-then-ne : goal.returns-then-ne
returns-then-ne c =
    let t = c.args.t.now in
    let s = c.in_ok-object.ensures in
    opens-wrong _ _ _ _ _ _ (second-by t.numbers.now t.lent c.args.p.number c.args.b.number _ _ c.args.p.in_range s.1.0 s.1.1 s.0) c.in_ok-check_slot.ensures.0 s.0
    ((rw (c.type_number.ensures, c.slot.ensures) at (other_type c.type_number.result c.slot.result.object _ c.ne.ensures)) ∙ c.if-ne.true)

pub returns : goal.returns
returns c =
    let t = c.args.t.now in
    let s = c.in_ok-object.ensures in (
      opens-good _ _ _ _ _ _ (second-by t.numbers.now t.lent c.args.p.number c.args.b.number _ _ c.args.p.in_range s.1.0 s.1.1 s.0) c.in_ok-check_slot.ensures.0 s.0
          ((rw (c.type_number.ensures, c.slot.ensures) at (other_type c.type_number.result c.slot.result.object _ c.ne.ensures)) ∙ c.if-ne.false),
      s.1,
    )
