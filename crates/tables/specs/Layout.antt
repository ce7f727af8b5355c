-- The lent tables are one list of 16-bit numbers, laid out by package. docs/TABLES.md shows it as a picture; here it is
-- written as `numbers`, and read back by `machine`. The sizes stand here once.
-- Assumes nothing.
use Rattle.std.specs.Prelude.{ℕ, zero, suc, ◌+◌, ◌*◌, ◌-◌, Bool, true, false, List, [], ◌∷◌, ◌++◌, map, get_or, take, drop, replicate, eqb}
use Rattle.things.specs.declared.Capability.{Capability}
use Rattle.things.specs.Lists.{flat}
use Rattle.things.specs.Rights.{object, maker, serial, capability}
use Rattle.rules.specs.Machine.{PACKAGES, SLOTS, PLACES, WORDS, ENTRIES, INNERS, Entry, Body, segment, directory, type, extended, Place, empty, holding, Package, Machine, kind_of_body, permits_of_body, type_of_body}

-- ---- sizes
abbrev pub capability_size : ℕ
capability_size = 3

abbrev pub entry_size : ℕ
entry_size = 2 + capability_size

-- kind, serial, permits, the type's maker and serial
abbrev pub head_size : ℕ
head_size = 5

-- as much as the largest kind needs
abbrev pub inside_size : ℕ
inside_size = ENTRIES * entry_size

abbrev pub place_size : ℕ
place_size = head_size + inside_size

abbrev pub slots_size : ℕ
slots_size = SLOTS * capability_size

abbrev pub block_size : ℕ
block_size = 1 + slots_size + PLACES * place_size

abbrev pub tables_size : ℕ
tables_size = PACKAGES * block_size

-- ---- writing
unfoldable pub capability_numbers : Capability → List ℕ
capability_numbers c = maker c.object ∷ serial c.object ∷ c.rights ∷ []

abbrev pub flag : Bool → ℕ
flag true = 1
flag false = 0

unfoldable pub entry_numbers : Entry → List ℕ
entry_numbers e = e.name ∷ capability_numbers e.capability ++ (flag e.distinguished ∷ [])

-- "Unused fields are zero."
unfoldable pub inside_numbers : Body → List ℕ
inside_numbers (segment ws) = ws ++ replicate (inside_size - WORDS) 0
inside_numbers (directory m es) = flat entry_numbers es
inside_numbers type = replicate inside_size 0
inside_numbers (extended o m cs) = flat capability_numbers cs ++ replicate (inside_size - INNERS * capability_size) 0

unfoldable pub place_numbers : Place → List ℕ
place_numbers empty = replicate place_size 0
place_numbers (holding s b) = kind_of_body b ∷ s ∷ permits_of_body b ∷ maker (type_of_body b) ∷ serial (type_of_body b) ∷ inside_numbers b

unfoldable pub package_numbers : Package → List ℕ
package_numbers P = P.last ∷ flat capability_numbers P.slots ++ flat place_numbers P.places

-- The numbers of a machine, package by package.
unfoldable pub numbers : Machine → List ℕ
numbers M = flat package_numbers M

-- ---- reading
-- n blocks of w numbers each
unfoldable pub blocks : ℕ → ℕ → List ℕ → List (List ℕ)
blocks zero w t = []
blocks (suc n) w t = take w t ∷ blocks n w (drop w t)

unfoldable pub capability_from : List ℕ → Capability
capability_from x = capability (object (get_or x 0 0) (get_or x 1 0)) (get_or x 2 0)

unfoldable pub entry_from : List ℕ → Entry
entry_from x = record { name = get_or x 0 0; capability = capability_from (drop 1 x); distinguished = eqb (get_or x 4 0) 1 }

-- the kinds 0 to 4; a number that is no kind shows nothing
abbrev pub place_by : ℕ → List ℕ → Place
place_by zero x = empty
place_by (suc zero) x = holding (get_or x 1 0) (segment (take WORDS (drop head_size x)))
place_by (suc (suc zero)) x = holding (get_or x 1 0) (directory (get_or x 2 0) (map entry_from (blocks ENTRIES entry_size (drop head_size x))))
place_by (suc (suc (suc zero))) x = holding (get_or x 1 0) type
place_by (suc (suc (suc (suc zero)))) x =
    holding (get_or x 1 0)
    (extended (object (get_or x 3 0) (get_or x 4 0)) (get_or x 2 0) (map capability_from (blocks INNERS capability_size (drop head_size x))))
place_by (suc (suc (suc (suc (suc n))))) x = empty

unfoldable pub place_from : List ℕ → Place
place_from x = place_by (get_or x 0 0) x

unfoldable pub package_from : List ℕ → Package
package_from x =
    record {
      last = get_or x 0 0;
      slots = map capability_from (blocks SLOTS capability_size (drop 1 x));
      places = map place_from (blocks PLACES place_size (drop (1 + slots_size) x));
    }

-- The machine that a list of numbers shows.
unfoldable pub machine : List ℕ → Machine
machine t = map package_from (blocks PACKAGES block_size t)
