use Rattle.print.proofs.Decimal.{text-is}
use Rattle.print.proofs.Text.decimal.Goals as goal

pub bytes-requires : goal.bytes-requires
bytes-requires c = rw (text-is _ _ _ c.ranges.n.fits c.decimal-count.ensures.len c.decimal-count.ensures.digits) c.requires

pub returns : goal.returns
returns c = rw (text-is _ _ _ c.ranges.n.fits c.decimal-count.ensures.len c.decimal-count.ensures.digits) at c.bytes.ensures
