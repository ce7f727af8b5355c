-- What holds of the machine that well-formed tables show (01, "Well formed", sentence by sentence). That the tables have
-- their length and zeros where nothing is used is said of the tables.
-- Assumes nothing.
use Rattle.std.specs.Prelude.{ℕ, Bool, true, not, ◌&&◌, ◌||◌, List, map, length, eqb, ltb, leb}
use Rattle.things.specs.declared.ObjectNumber.{ObjectNumber}
use Rattle.things.specs.declared.Capability.{Capability}
use Rattle.things.specs.Lists.{pick, every, distinct}
use Rattle.things.specs.Rights.{maker, serial, is_null}
use Rattle.rules.specs.Machine.{PACKAGES, SLOTS, PLACES, WORDS, ENTRIES, INNERS, NUMBERS, Entry, Body, segment, directory, type, extended, Place, empty, holding, Package, Machine, last_of, serial_of}

-- An issued number: a maker, and a serial from 1 to the maker's last.
unfoldable pub issued : Machine → ObjectNumber → Bool
issued M o = ltb (maker o) PACKAGES && (ltb 0 (serial o) && leb (serial o) (last_of M (maker o)))

-- "Every field is in range": a word or a name, a capability's rights, permits.
unfoldable pub is_number : ℕ → Bool
is_number n = ltb n NUMBERS

abbrev pub is_rights : ℕ → Bool
is_rights n = ltb n 256

abbrev pub is_permits : ℕ → Bool
is_permits n = ltb n 4

abbrev pub is_many : {A : Type 0} → ℕ → List A → Bool
is_many n xs = eqb (length xs) n

abbrev pub entry_names : List Entry → List ℕ
entry_names es = map (λ (e : Entry). e.name) es

abbrev pub serials : List Place → List ℕ
serials xs = map serial_of xs

-- Here `known` is the test for an issued number.
module _ (known : ObjectNumber → Bool) where
  abbrev pub names : Capability → Bool
  names c = known c.object && is_rights c.rights

  -- "Every capability is null or names an issued serial."
  unfoldable pub capability_sound : Capability → Bool
  capability_sound c = is_null c || names c

  -- "Used entries have .. a capability that isn't null." An empty entry is all zero.
  unfoldable pub entry_sound : Entry → Bool
  entry_sound e =
      pick (eqb e.name 0)
      (is_null e.capability && not e.distinguished)
      (is_number e.name && names e.capability)

  -- "Used entries have distinct names in their directory." "An object's type is an issued number."
  unfoldable pub body_sound : Body → Bool
  body_sound (segment ws) = is_many WORDS ws && every is_number ws
  body_sound (directory m es) = is_permits m && (is_many ENTRIES es && (every entry_sound es && distinct (entry_names es)))
  body_sound type = true
  body_sound (extended o m cs) = known o && (is_permits m && (is_many INNERS cs && every capability_sound cs))

  -- "A place is all zero or holds an object made by that place's package, with a serial not above its last."
  unfoldable pub place_sound : ℕ → Place → Bool
  place_sound last empty = true
  place_sound last (holding s b) = (ltb 0 s && leb s last) && body_sound b

  -- ".. no two places hold one number."
  unfoldable pub package_sound : Package → Bool
  package_sound P =
      is_number P.last
      && ((is_many SLOTS P.slots && every capability_sound P.slots)
      && ((is_many PLACES P.places && every (place_sound P.last) P.places)
      && distinct (serials P.places)))

unfoldable pub sound : Machine → Bool
sound M = is_many PACKAGES M && every (package_sound (issued M)) M
