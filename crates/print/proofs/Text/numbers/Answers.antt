use Rattle.print.specs.Writing.{pair_then}
use Rattle.print.proofs.Writing.{sofar-room, sofar-more, sofar-end}
use Rattle.print.proofs.Text.numbers.Goals as goal

pub number-requires : goal.number-requires
number-requires c = sofar-room pair_then _ _ _ c.loop-n.invariant c.loop-n-test.true

pub loop-n-preserved : goal.loop-n-preserved
loop-n-preserved c = sofar-more pair_then _ _ _ c.loop-n.invariant c.loop-n-test.true c.number.ensures

pub returns : goal.returns
returns c = sofar-end pair_then _ (0, 0) _ c.loop-n.invariant c.loop-n-test.false
