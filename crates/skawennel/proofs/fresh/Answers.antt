use Rattle.skawennel.proofs.Freshening.{other_length, right-length}
use Rattle.skawennel.proofs.fresh.Goals as goal

pub returns-in-None : goal.returns-in-None
returns-in-None c = other_length _ c.in-None.ensures.cases

pub returns-in-Some : goal.returns-in-Some
returns-in-Some c = right-length _ _ c.in-Some.ensures.cases.long c.fill.ensures
