-- 01's worked cases hold of the definition, by computing.
-- Assumes nothing.
use mathlib.Core.Path.{◌≡◌, refl}
use mathlib.Core.Bool.{true}
use Rattle.rules.specs.Machine.{fresh}
use Rattle.rules.specs.Sound.{sound}
use Rattle.rules.specs.Step.{answers}
use Rattle.rules.specs.Cases.{Hold, cases, orders, tell, fourteen}
use Rattle.rules.proofs.Computes.{computes}

-- P1 to P12.
pub cases-hold : Hold cases
unfolding computes
cases-hold = (refl, (refl, (refl, (refl, (refl, (refl, (refl, (refl, (refl, (refl, (refl, (refl, tt))))))))))))

-- The order of the refusals, where two apply; and what P1 to P12 don't show.
pub orders-hold : Hold orders
unfolding computes
orders-hold =
    (refl, (refl, (refl, (refl, (refl, (refl, (refl, (refl, (refl, (refl, (refl, (refl, tt))))))))))))

-- Places are used again, and serials are not.
pub fourteen-holds : tell (answers fresh fourteen.calls) ≡ fourteen.told
unfolding computes
fourteen-holds = refl

-- The fresh machine is sound.
pub fresh-sound : sound fresh ≡ true
unfolding computes
fresh-sound = refl
