use Rattle.print.proofs.Writing.{written-part}
use Rattle.print.proofs.Text.bytes.Goals as goal

pub returns : goal.returns
returns c = rw (written-part _ _ c.copy_from_slice.ensures.after c.requires.fits)
