-- How delete's inner checks answer.
-- Assumes nothing.
use Rattle.std.specs.Prelude.{ℕ, ◌≡◌, not, List, [], ◌∷◌}
use Rattle.things.specs.declared.Refusal.TheVariants.{NoEntry, WrongEntry, NoAbility, Gone, Occupied}
use Rattle.things.specs.Lists.{some}
use Rattle.things.specs.Rights.{has_right, DELETE}
use Rattle.rules.specs.Machine.{Place, Machine, entries_of, place_of, living, is_used, has_entry, entry_of, entry_named}
use Rattle.rules.specs.Checks.{Check, ◌when◌, gone}
use Rattle.directories.specs.declared.doomed.Doomed.{Doomed}

-- The checks of delete after those of its slot, on the directory that the slot names.
abbrev pub own_checks : Machine → Place → ℕ → List Check
own_checks M x b =
    (NoEntry when not (has_entry x b))
    ∷ (WrongEntry when not (entry_named x b).distinguished)
    ∷ (NoAbility when not (has_right (entry_named x b).capability DELETE))
    ∷ (Gone when gone M (entry_named x b).capability.object)
    ∷ (Occupied when some is_used (entries_of (living M (entry_named x b).capability.object)))
    ∷ []

-- Where the entry and its own object are.
abbrev pub IsDoomed : Machine → Place → ℕ → Doomed → Type 0
IsDoomed M x b d =
    (d.position.number ≡ entry_of x b)
    × (d.place.maker ≡ (entry_named x b).capability.object.0)
    × (d.place.number ≡ place_of M (entry_named x b).capability.object)
