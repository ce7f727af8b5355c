-- Capabilities, rights, permits and addable (01, "Things and their numbers").
-- Assumes nothing.
use Rattle.std.specs.Prelude.{ℕ, ◌+◌, ◌-◌, Bool, ◌&&◌, ◌||◌, List, [], ◌∷◌, eqb}
use Rattle.std.specs.Int.Bits.{bit_and}
use Rattle.things.specs.declared.ObjectNumber.{ObjectNumber}
use Rattle.things.specs.declared.Capability.{Capability}
use Rattle.things.specs.Lists.{every}

-- "An object number is a maker (0 to 7) and a serial (1 to 65,535)."
abbrev pub object : ℕ → ℕ → ObjectNumber
object maker serial = record { 0 = maker; 1 = serial }

abbrev pub maker : ObjectNumber → ℕ
maker o = o.0

abbrev pub serial : ObjectNumber → ℕ
serial o = o.1

-- "A capability is an object number with rights 0 to 255."
abbrev pub capability : ObjectNumber → ℕ → Capability
capability o rights = record { object = o; rights = rights }

-- "The null capability is all zero."
abbrev pub null : Capability
null = capability (object 0 0) 0

unfoldable pub is_null : Capability → Bool
is_null c = eqb (maker c.object) 0 && eqb (serial c.object) 0 && eqb c.rights 0

-- "Rights: 1 and 2 store permissions, 4 read, 8 write (in a directory: add), 16 remove entries, 32 delete, 64 make
-- (of a type), 128 open (of a type)."
abbrev pub STORE : ℕ
STORE = 1

abbrev pub KEEP : ℕ
KEEP = 2

abbrev pub READ : ℕ
READ = 4

abbrev pub WRITE : ℕ
WRITE = 8

abbrev pub REMOVE : ℕ
REMOVE = 16

abbrev pub DELETE : ℕ
DELETE = 32

abbrev pub MAKE : ℕ
MAKE = 64

abbrev pub OPEN : ℕ
OPEN = 128

-- No right is asked.
abbrev pub NONE : ℕ
NONE = 0

abbrev pub store_permissions : List ℕ
store_permissions = STORE ∷ KEEP ∷ []

-- Each of the asked rights is had.
unfoldable pub has_right : Capability → ℕ → Bool
has_right c asked = eqb (bit_and c.rights asked) asked

-- Call 1: "rights a AND b"; the object stays, and null gives null.
unfoldable pub restricted : Capability → ℕ → Capability
restricted c mask = capability c.object (bit_and c.rights mask)

-- A store permission that the capability has, or that is set in the container's permits.
unfoldable pub takes : ℕ → Capability → ℕ → Bool
takes permits c permission = has_right c permission || eqb (bit_and permits permission) permission

-- "Addable: a container takes a capability if each store permission the capability lacks is set in the container's
-- permits."
unfoldable pub addable : Capability → ℕ → Bool
addable c permits = every (takes permits c) store_permissions

-- "A make with permits s (0 to 3) gives a capability with rights 252 + (3 - s)": all but the store permissions that s
-- withholds.
abbrev pub made_rights : ℕ → ℕ
made_rights s = 252 + (3 - s)
