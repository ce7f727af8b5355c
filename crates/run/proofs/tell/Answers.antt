use mathlib.Core.Path.{◌∙◌}
use native.Mathlib.Omega.{arith}
use Rattle.records.proofs.Telling.{telling_start, telling_given, telling_end, telling_stop}
use Rattle.run.proofs.tell.Goals as goal

pub loop-record-init : goal.loop-record-init
loop-record-init c =
    let start = c.into_iter-record-iterator.ensures.into_iter_gives ∙ c.new-record-items.ensures in
    (c.requires.0, telling_start c.type_inv.bytes c.requires.2 c.new-text.ensures (omega arith) start c.requires.1)

pub loop-record-preserved : goal.loop-record-preserved
loop-record-preserved c =
    let said = c.obey-answer.ensures in
    (said.again, telling_given c.loop-record.invariant.1 _ c.in-Some.ensures.steps c.in-Ok.is said.answered said.shown c.tape_line.ensures)

pub returns-in_default : goal.returns-in_default
returns-in_default c =
    telling_stop c.loop-record.invariant.1 _ c.in-Some.ensures.steps c.in_default.is c.new-text.ensures c.stop_line.ensures c.len.ensures

pub returns : goal.returns
returns c = telling_end c.loop-record.invariant.1 _ c.in-None.ensures.steps c.new-text.ensures c.end_line.ensures c.len-2.ensures
