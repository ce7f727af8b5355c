-- Worked cases of the list, computed: the slots of package 5 of the fresh machine, whole and damaged.
-- Assumes nothing.
use Prim.Native.Nat.{ℕ}
use mathlib.Core.Path.{◌≡◌, refl}
use mathlib.Core.List.{List}
use lib.ListN.{set, take}
use Rattle.things.specs.declared.Capability.{Capability}
use Rattle.things.specs.declared.Refusal.TheVariants.{BadTables, BadNumber}
use Rattle.std.specs.Prelude.{Ok, Err}
use Rattle.things.specs.Rights.{object, capability, null}
use Rattle.rules.specs.Machine.{fresh_package}
use Rattle.rules.proofs.Computes.{computes}
use Rattle.slots.specs.Slots.{could_be_issued, slots_sound, to_restrict, to_drop, decide, answer, next}

abbrev slots : List Capability
slots = (fresh_package 5).slots

-- The list with this record in slot 15.
abbrev last : ℕ → ℕ → ℕ → List Capability
last maker serial rights = set slots 15 (capability (object maker serial) rights)

-- Done: the slot that changes, and no other.
pub changed : (next slots (to_restrict 0 247 3) ≡ set slots 3 (capability (object 5 1) 247))
    × (next slots (to_restrict 1 15 1) ≡ set slots 1 (capability (object 5 2) 12))
    × (next slots (to_restrict 9 255 0) ≡ set slots 0 null)
    × (next slots (to_drop 1) ≡ set slots 1 null)
unfolding computes could_be_issued slots_sound decide next
changed = (refl, refl, refl, refl)

-- "Another length, a field out of range, or serial 0 in a record that isn't all zero is BAD TABLES", and before BAD NUMBER.
pub damaged : (answer (take 15 slots) (to_drop 0) ≡ Err BadTables)
    × (answer (last 8 1 0) (to_drop 0) ≡ Err BadTables)
    × (answer (last 7 1 256) (to_drop 0) ≡ Err BadTables)
    × (answer (last 7 0 0) (to_drop 0) ≡ Err BadTables)
    × (answer (last 0 0 1) (to_drop 16) ≡ Err BadTables)
unfolding computes could_be_issued slots_sound decide answer
damaged = (refl, refl, refl, refl, refl)

-- "Whether a serial was issued isn't looked at there."
pub unissued : answer (last 7 65535 255) (to_drop 0) ≡ Ok 0
unfolding computes could_be_issued slots_sound decide answer
unissued = refl

pub misnumbered : (answer slots (to_drop 16) ≡ Err BadNumber)
    × (answer slots (to_restrict 16 0 0) ≡ Err BadNumber)
    × (answer slots (to_restrict 0 256 0) ≡ Err BadNumber)
    × (answer slots (to_restrict 0 0 16) ≡ Err BadNumber)
unfolding computes could_be_issued slots_sound decide answer
misnumbered = (refl, refl, refl, refl)
