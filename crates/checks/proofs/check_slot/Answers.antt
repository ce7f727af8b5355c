use Rattle.checks.proofs.Checking.{slot-sound-shown}
use Rattle.checks.proofs.check_slot.Goals as goal

pub check-requires : goal.check-requires
check-requires c =
    rw c.slot.ensures (slot-sound-shown c.args.t.now.numbers.now c.args.t.now.lent c.args.p.number c.args.a.number c.args.p.in_range)
