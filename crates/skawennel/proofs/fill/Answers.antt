use Rattle.std.proofs.Common.{◌∙◌}
use Rattle.skawennel.proofs.Furnishing.{furnished_none}
use Rattle.skawennel.proofs.fill.Goals as goal

pub loop-number-init : goal.loop-number-init
loop-number-init c = c.clear.ensures ∙ furnished_none
