use native.Mathlib.Omega.{arith}
use Rattle.run.proofs.Obeying.{obeyed}
use Rattle.run.proofs.obey.Goals as goal

pub returns : goal.returns
returns c =
    obeyed c.requires (record { a = omega arith; b = omega arith; c = omega arith; d = omega arith; e = omega arith }) c.step_formed.ensures
