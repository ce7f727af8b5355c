-- What the tree program prints.
-- Assumes nothing.
use Rattle.std.specs.Prelude.{ℕ, zero, suc, ◌+◌, ◌-◌, ◌*◌, Bool, true, false, List, [], ◌∷◌, ◌++◌, map, get_or, set, replicate}
use Prim.Native.String.{String}
use Rattle.things.specs.declared.ObjectNumber.{ObjectNumber}
use Rattle.things.specs.declared.Capability.{Capability}
use Rattle.things.specs.Lists.{pick, up_from}
use Rattle.things.specs.Rights.{maker, serial, null, is_null}
use Rattle.rules.specs.Machine.{PACKAGES, PLACES, Entry, segment, directory, type, extended, Place, empty, holding, Machine, package_of, kind_of, entries_of, inners_of, place_of, living, is_used, fresh}
use Rattle.rules.specs.Step.{run}
use Rattle.text.specs.Text.{say, number, texts, ◌▹◌}
use Rattle.text.specs.Tape.{tape, unless_long}

-- What a part of a listing prints, and the marks after it.
pub record Listing : Type 0 where
  pub text : List ℕ
  pub marks : List Bool

abbrev pub printed : List ℕ → List Bool → Listing
printed t m = record { text = t; marks = m }

abbrev pub quiet : List Bool → Listing
quiet m = printed [] m

-- One part, and another from the marks that it leaves.
unfoldable pub and_then : Listing → (List Bool → Listing) → Listing
and_then a f = record { text = a.text ▹ (f a.marks).text; marks = (f a.marks).marks }

unfoldable pub each : (Capability → List Bool → Listing) → List Capability → List Bool → Listing
each f [] m = quiet m
each f (c ∷ cs) m = and_then (f c m) (each f cs)

-- "Sign `+` opened here, `=` opened before, `-` segment or type, `x` gone (kind 0)."
pub data Sign : Type 0 where
  here before leaf lost : Sign

abbrev pub sign_text : Sign → String
sign_text here = "+"
sign_text before = "="
sign_text leaf = "-"
sign_text lost = "x"

unfoldable pub sign_of : Place → Bool → Sign
sign_of empty marked = lost
sign_of (holding s (segment ws)) marked = leaf
sign_of (holding s (directory m es)) marked = pick marked before here
sign_of (holding s type) marked = leaf
sign_of (holding s (extended o m cs)) marked = pick marked before here

-- "one mark for each of the 128 places"
abbrev pub all_places : ℕ
all_places = PACKAGES * PLACES

abbrev pub place_number : Machine → ObjectNumber → ℕ
place_number M o = PLACES * maker o + place_of M o

-- "A line is depth (0 for a slot), `maker.serial`, kind, rights and a sign."
unfoldable pub line : ℕ → Capability → ℕ → Sign → List ℕ
line depth c kind sign =
    number depth " " ▹ number (maker c.object) "." ▹ number (serial c.object) " " ▹ number kind " " ▹ number c.rights " " ▹ say (sign_text sign) ▹ say "\n"

-- "Opening a directory lists its used entries by position, and opening an extended object its inner places that aren't
-- null": an unused entry shows null, and null is left out.
abbrev pub shown_by : Entry → Capability
shown_by e = pick (is_used e) e.capability null

unfoldable pub within : Place → List Capability
within x = map shown_by (entries_of x) ++ inners_of x

-- A capability's line. With `+` the object is marked, and what opening it shows follows, one deeper.
unfoldable pub shown : (Place → List Bool → Listing) → Machine → ℕ → Capability → List Bool → Sign → Listing
shown opener M depth c m here =
    and_then (printed (line depth c (kind_of (living M c.object)) here) (set m (place_number M c.object) true)) (opener (living M c.object))
shown opener M depth c m before = printed (line depth c (kind_of (living M c.object)) before) m
shown opener M depth c m leaf = printed (line depth c (kind_of (living M c.object)) leaf) m
shown opener M depth c m lost = printed (line depth c 0 lost) m

unfoldable pub item : (Place → List Bool → Listing) → Machine → ℕ → Capability → List Bool → Listing
item opener M depth c m =
    pick (is_null c) (quiet m)
    (shown opener M depth c m (sign_of (living M c.object) (get_or m (place_number M c.object) false)))

-- What opening an object shows at a depth. Each opening marks a place, so no path is longer than the number of places.
unfoldable pub opened_in : ℕ → Machine → ℕ → Place → List Bool → Listing
opened_in zero M depth x m = quiet m
opened_in (suc most) M depth x m = each (item (opened_in most M (depth + 1)) M depth) (within x) m

unfoldable pub opened : Machine → ℕ → Place → List Bool → Listing
opened M depth x m = opened_in (all_places + 1 - depth) M depth x m

-- "for each package it prints `P` and its number and lists its slots in order, null ones left out"
unfoldable pub tree : Machine → ℕ → List ℕ
tree M p =
    say "P " ▹ number p "\n" ▹ (each (item (opened M 1) M 0) (package_of M p).slots (replicate all_places false)).text

unfoldable pub trees : Machine → List ℕ
trees M = texts (tree M) (up_from PACKAGES 0 (λ p. p))

-- "The tree program runs a tape up to its end or stop without printing it."
unfoldable pub tree_text : List ℕ → List ℕ
tree_text bs = unless_long bs (trees (run fresh (tape bs).calls))
