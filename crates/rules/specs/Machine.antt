-- Packages, places and what lies in them (01, "Things and their numbers" and "Fresh machine").
-- Assumes nothing.
use Rattle.std.specs.Prelude.{ℕ, Bool, true, false, not, List, [], ◌∷◌, get_or, replicate, eqb}
use Rattle.things.specs.declared.ObjectNumber.{ObjectNumber}
use Rattle.things.specs.declared.Capability.{Capability}
use Rattle.things.specs.Lists.{some, how_many, first, up_from}
use Rattle.things.specs.Rights.{object, maker, serial, capability, null}

-- "Packages 0 to 7. The host is caller 8. Each package has slots 0 to 15." "Each package has 16 places."
abbrev pub PACKAGES : ℕ
PACKAGES = 8

abbrev pub HOST : ℕ
HOST = 8

abbrev pub SLOTS : ℕ
SLOTS = 16

abbrev pub PLACES : ℕ
PLACES = 16

abbrev pub WORDS : ℕ
WORDS = 32

abbrev pub ENTRIES : ℕ
ENTRIES = 16

abbrev pub INNERS : ℕ
INNERS = 4

-- Words, names and serials are below this.
abbrev pub NUMBERS : ℕ
NUMBERS = 65536

abbrev pub LAST_SERIAL : ℕ
LAST_SERIAL = 65535

-- "An entry has a name 1 to 65,535, a capability and a distinguished flag. An empty one is all zero."
pub record Entry : Type 0 where
  pub name : ℕ
  pub capability : Capability
  pub distinguished : Bool

abbrev pub no_entry : Entry
no_entry = record { name = 0; capability = null; distinguished = false }

-- "Segment (kind 1): 32 words. Directory (kind 2): 16 entries and permits 0 to 3. Type (kind 3): nothing inside.
-- Extended object (kind 4): its type's number, permits 0 to 3, and 4 inner capabilities."
pub data Body : Type 0 where
  segment : List ℕ → Body
  directory : ℕ → List Entry → Body
  type : Body
  extended : ObjectNumber → ℕ → List Capability → Body

-- A place for a living object, of which it has the serial: its maker is the package whose place it is.
pub data Place : Type 0 where
  empty : Place
  holding : ℕ → Body → Place

pub record Package : Type 0 where
  pub last : ℕ
  pub slots : List Capability
  pub places : List Place

abbrev pub Machine : Type 0
Machine = List Package

-- The kinds' numbers; 0 is no object's.
abbrev pub SEGMENT : ℕ
SEGMENT = 1

abbrev pub DIRECTORY : ℕ
DIRECTORY = 2

abbrev pub TYPE : ℕ
TYPE = 3

abbrev pub EXTENDED : ℕ
EXTENDED = 4

abbrev pub kind_of_body : Body → ℕ
kind_of_body (segment ws) = SEGMENT
kind_of_body (directory m es) = DIRECTORY
kind_of_body type = TYPE
kind_of_body (extended o m cs) = EXTENDED

unfoldable pub kind_of : Place → ℕ
kind_of empty = 0
kind_of (holding s b) = kind_of_body b

-- What stands in a package.
abbrev pub nobody : Package
nobody = record { last = 0; slots = []; places = [] }

unfoldable pub package_of : Machine → ℕ → Package
package_of M p = get_or M p nobody

unfoldable pub last_of : Machine → ℕ → ℕ
last_of M p = (package_of M p).last

unfoldable pub slot_of : Machine → ℕ → ℕ → Capability
slot_of M p i = get_or (package_of M p).slots i null

unfoldable pub places_of : Machine → ℕ → List Place
places_of M p = (package_of M p).places

-- What lies in a package's place; nothing where there is no such place.
abbrev pub inside : Machine → ℕ → ℕ → Place
inside M p i = get_or (places_of M p) i empty

-- What lies in a place; nothing of what its kind lacks.
unfoldable pub is_empty : Place → Bool
is_empty empty = true
is_empty (holding s b) = false

unfoldable pub serial_of : Place → ℕ
serial_of empty = 0
serial_of (holding s b) = s

unfoldable pub words_of : Place → List ℕ
words_of empty = []
words_of (holding s (segment ws)) = ws
words_of (holding s (directory m es)) = []
words_of (holding s type) = []
words_of (holding s (extended o m cs)) = []

unfoldable pub entries_of : Place → List Entry
entries_of empty = []
entries_of (holding s (segment ws)) = []
entries_of (holding s (directory m es)) = es
entries_of (holding s type) = []
entries_of (holding s (extended o m cs)) = []

unfoldable pub inners_of : Place → List Capability
inners_of empty = []
inners_of (holding s (segment ws)) = []
inners_of (holding s (directory m es)) = []
inners_of (holding s type) = []
inners_of (holding s (extended o m cs)) = cs

abbrev pub permits_of_body : Body → ℕ
permits_of_body (segment ws) = 0
permits_of_body (directory m es) = m
permits_of_body type = 0
permits_of_body (extended o m cs) = m

unfoldable pub permits_of : Place → ℕ
permits_of empty = 0
permits_of (holding s b) = permits_of_body b

abbrev pub type_of_body : Body → ObjectNumber
type_of_body (segment ws) = object 0 0
type_of_body (directory m es) = object 0 0
type_of_body type = object 0 0
type_of_body (extended o m cs) = o

unfoldable pub type_of : Place → ObjectNumber
type_of empty = object 0 0
type_of (holding s b) = type_of_body b

-- Where an object lives: the place of its maker that holds its serial, and what lies there; empty where none holds it.
unfoldable pub holds : ℕ → Place → Bool
holds n empty = false
holds n (holding s b) = eqb s n

unfoldable pub place_of : Machine → ObjectNumber → ℕ
place_of M o = first (holds (serial o)) (places_of M (maker o))

unfoldable pub living : Machine → ObjectNumber → Place
living M o = get_or (places_of M (maker o)) (place_of M o) empty

-- "A new object takes the maker's lowest empty place."
unfoldable pub empty_place : Machine → ℕ → ℕ
empty_place M p = first is_empty (places_of M p)

-- A directory's entries: one by its name, the used ones, and the lowest empty position, where a new entry goes.
unfoldable pub is_named : ℕ → Entry → Bool
is_named b e = eqb e.name b

unfoldable pub is_used : Entry → Bool
is_used e = not (eqb e.name 0)

unfoldable pub has_entry : Place → ℕ → Bool
has_entry x b = some (is_named b) (entries_of x)

unfoldable pub entry_of : Place → ℕ → ℕ
entry_of x b = first (is_named b) (entries_of x)

unfoldable pub entry_named : Place → ℕ → Entry
entry_named x b = get_or (entries_of x) (entry_of x b) no_entry

unfoldable pub empty_entry : Place → ℕ
empty_entry x = entry_of x 0

unfoldable pub used_entries : Place → ℕ
used_entries x = how_many is_used (entries_of x)

-- "Each package has made a shelf (directory, serial 1, permits 0, place 0, slot 0 with rights 255) and a desk
-- (directory, serial 2, permits 3, place 1, slot 1 with rights 252). Last serial 2. All else zero."
abbrev pub empty_directory : ℕ → Body
empty_directory permits = directory permits (replicate ENTRIES no_entry)

abbrev pub fresh_package : ℕ → Package
fresh_package p =
    record {
      last = 2;
      slots = capability (object p 1) 255 ∷ capability (object p 2) 252 ∷ replicate 14 null;
      places = holding 1 (empty_directory 0) ∷ holding 2 (empty_directory 3) ∷ replicate 14 empty;
    }

unfoldable pub fresh : Machine
fresh = up_from PACKAGES 0 fresh_package
