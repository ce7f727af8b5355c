use native.Mathlib.Numerals.{add-one}
use Rattle.text.specs.Text.{number}
use Rattle.text.specs.Tape.{ending}
use Rattle.print.proofs.Writing.{first, rest, then}
use Rattle.print.proofs.Text.stop_line.Goals as goal

pub bytes-requires : goal.bytes-requires
unfolding ending number
bytes-requires c = first _ _ c.requires.room

pub number-requires : goal.number-requires
unfolding ending number
number-requires c = rw add-one (rest _ _ c.bytes.ensures c.requires.room)

pub returns : goal.returns
unfolding ending number
returns c = then _ _ c.requires.room c.bytes.ensures (rw add-one at c.number.ensures)
