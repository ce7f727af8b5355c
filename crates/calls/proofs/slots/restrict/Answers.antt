use Rattle.std.proofs.Common.{refl}
use Rattle.checks.proofs.Deciding.{ends-done}
use Rattle.checks.proofs.Leaving.{slot-left}
use Rattle.calls.proofs.slots.restrict.Goals as goal

pub returns : goal.returns
unfolding Rattle.rules.specs.Calls.restrict
returns c =
    ends-done _ _ _ _ _ refl (rw (c.put_slot.ensures, c.restrict.ensures, c.slot-held.ensures) (slot-left c.args.t.now c.requires 0 _ _ _ c.args.p.in_range c.args.c.in_range))
