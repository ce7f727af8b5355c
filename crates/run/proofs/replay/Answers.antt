use mathlib.Core.Path.{◌∙◌}
use Rattle.records.proofs.Running.{running_start, running_given}
use Rattle.run.proofs.replay.Goals as goal

pub loop-record-init : goal.loop-record-init
loop-record-init c =
    (c.requires.0, running_start c.type_inv.bytes (c.into_iter-record-iterator.ensures.into_iter_gives ∙ c.new-record-items.ensures) c.requires.1)

pub loop-record-preserved : goal.loop-record-preserved
loop-record-preserved c =
    (c.obey.ensures.again, running_given c.loop-record.invariant.1 _ c.in-Some.ensures.steps c.in-Ok.is c.obey.ensures.shown)
