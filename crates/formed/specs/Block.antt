-- What the test of a block of the tables answers: `well_formed`, said of one package, place, entry or capability. A reader needs
-- to believe `well_formed` alone: these are the steps between it and the code, and laws join them.
-- Assumes nothing.
use Rattle.std.specs.Prelude.{ℕ, Bool, ◌&&◌, List, ◌∷◌, map, length, get_or, take, drop, replicate, ltb, leb}
use Rattle.things.specs.declared.ObjectNumber.{ObjectNumber}
use Rattle.things.specs.Lists.{every, distinct}
use Rattle.things.specs.Rights.{object, maker, serial}
use Rattle.rules.specs.Machine.{PACKAGES, WORDS, ENTRIES, INNERS, Body, segment, directory, type, extended, Package, Machine, permits_of_body, type_of_body}
use Rattle.rules.specs.Sound.{capability_sound, entry_sound, body_sound, place_sound, package_sound}
use Rattle.tables.specs.Layout.{capability_size, entry_size, entry_numbers, inside_numbers, place_numbers, package_numbers, blocks, capability_from, entry_from, place_from, package_from}
use Rattle.tables.specs.WellFormed.{same}

-- The block is the numbers of what it shows, and that is sound.
unfoldable pub formed_as : {A : Type 0} → (A → List ℕ) → (List ℕ → A) → (A → Bool) → List ℕ → Bool
formed_as written shown is_sound x = same x (written (shown x)) && is_sound (shown x)

-- All of the numbers are zero.
unfoldable pub is_zero : List ℕ → Bool
is_zero x = same x (replicate (length x) 0)

-- The last serial of each package, and what is issued by them.
unfoldable pub last_serials : Machine → List ℕ
last_serials M = map (λ (P : Package). P.last) M

unfoldable pub known_by : List ℕ → ObjectNumber → Bool
known_by lasts o = ltb (maker o) PACKAGES && (ltb 0 (serial o) && leb (serial o) (get_or lasts (maker o) 0))

-- Number k of each block.
unfoldable pub column : ℕ → List (List ℕ) → List ℕ
column k xs = map (λ (x : List ℕ). get_or x k 0) xs

-- A place's body is what follows its kind and serial.
unfoldable pub body_numbers : Body → List ℕ
body_numbers b = permits_of_body b ∷ maker (type_of_body b) ∷ serial (type_of_body b) ∷ inside_numbers b

unfoldable pub segment_from : List ℕ → Body
segment_from x = segment (take WORDS (drop 3 x))

unfoldable pub directory_from : List ℕ → Body
directory_from x = directory (get_or x 0 0) (map entry_from (blocks ENTRIES entry_size (drop 3 x)))

unfoldable pub type_from : List ℕ → Body
type_from x = type

unfoldable pub extended_from : List ℕ → Body
extended_from x =
    extended (object (get_or x 1 0) (get_or x 2 0)) (get_or x 0 0) (map capability_from (blocks INNERS capability_size (drop 3 x)))

-- Here `lasts` are the last serials.
module _ (lasts : List ℕ) where
  abbrev pub capabilities_formed : ℕ → List ℕ → Bool
  capabilities_formed n x = every (capability_sound (known_by lasts)) (map capability_from (blocks n capability_size x))

  abbrev pub entry_formed : List ℕ → Bool
  entry_formed x = formed_as entry_numbers entry_from (entry_sound (known_by lasts)) x

  abbrev pub entries_formed : List ℕ → Bool
  entries_formed x = every entry_formed (blocks ENTRIES entry_size x) && distinct (column 0 (blocks ENTRIES entry_size x))

  abbrev pub body_formed : (List ℕ → Body) → List ℕ → Bool
  body_formed shown x = formed_as body_numbers shown (body_sound (known_by lasts)) x

  abbrev pub place_formed : ℕ → List ℕ → Bool
  place_formed last x = formed_as place_numbers place_from (place_sound (known_by lasts) last) x

  abbrev pub package_formed : List ℕ → Bool
  package_formed x = formed_as package_numbers package_from (package_sound (known_by lasts)) x
