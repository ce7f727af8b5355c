use Rattle.text.specs.Text.{number}
use Rattle.text.specs.Tape.{ending}
use Rattle.print.proofs.Writing.{first, rest, then}
use Rattle.print.proofs.Text.end_line.Goals as goal

pub bytes-requires : goal.bytes-requires
unfolding ending number
bytes-requires c = first _ _ c.requires

pub number-requires : goal.number-requires
unfolding ending number
number-requires c = rest _ _ c.bytes.ensures c.requires

pub returns : goal.returns
unfolding ending number
returns c = then _ _ c.requires c.bytes.ensures c.number.ensures
