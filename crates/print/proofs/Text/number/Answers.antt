use Rattle.print.proofs.Writing.{first, rest, then}
use Rattle.print.proofs.Text.number.Goals as goal

pub decimal-requires : goal.decimal-requires
decimal-requires c = first _ _ c.requires

pub byte-requires : goal.byte-requires
byte-requires c = rest _ _ c.decimal.ensures c.requires

pub returns : goal.returns
returns c = then _ _ c.requires c.decimal.ensures c.byte.ensures
