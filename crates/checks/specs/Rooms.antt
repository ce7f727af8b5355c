-- Where a checked object lives, and what a new one takes.
-- Assumes nothing.
use Rattle.std.specs.Prelude.{ℕ, ◌≡◌}
use Rattle.things.specs.declared.ObjectNumber.{ObjectNumber}
use Rattle.rules.specs.Machine.{Machine, inside, kind_of, place_of, empty_place, empty_entry}
use Rattle.rules.specs.Calls.{next_serial}
use Rattle.access.specs.declared.which.Place.{Place}
use Rattle.access.specs.declared.which.Package.{Package}
use Rattle.access.specs.declared.lent.Directory.{Directory}
use Rattle.access.specs.Shown.{lies_in}
use Rattle.checks.specs.declared.room.Room.{Room}

-- The object lives in this place, and is of this kind.
abbrev pub LivesAt : Machine → ObjectNumber → ℕ → Place → Type 0
LivesAt M o kind at = (at.maker ≡ o.0) × (at.number ≡ place_of M o) × (kind_of (inside M at.maker at.number) ≡ kind)

-- The next object of package p takes the directory's lowest empty position, the package's lowest empty place and its next serial.
abbrev pub RoomFor : Machine → Package → Directory → Room → Type 0
RoomFor M p d room = (room.position.number ≡ empty_entry (lies_in d)) × (room.place.maker ≡ p.number) × (room.place.number ≡ empty_place M p.number) × (room.serial ≡ next_serial M p.number)
