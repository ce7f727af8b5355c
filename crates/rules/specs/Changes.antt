-- What a call does, as data: each change stores one thing in one package.
-- Assumes nothing.
use Rattle.std.specs.Prelude.{ℕ, List, [], ◌∷◌, get_or, set}
use Rattle.things.specs.declared.Capability.{Capability}
use Rattle.rules.specs.Machine.{Entry, segment, directory, type, extended, Place, empty, holding, Package, Machine, package_of}

-- Package, then the slot or place, then the position inside, then what is stored.
pub data Change : Type 0 where
  set_last : ℕ → ℕ → Change
  set_slot : ℕ → ℕ → Capability → Change
  set_place : ℕ → ℕ → Place → Change
  set_entry : ℕ → ℕ → ℕ → Entry → Change
  set_inner : ℕ → ℕ → ℕ → Capability → Change
  set_word : ℕ → ℕ → ℕ → ℕ → Change

abbrev pub target : Change → ℕ
target (set_last p n) = p
target (set_slot p i c) = p
target (set_place p i x) = p
target (set_entry p i j e) = p
target (set_inner p i j c) = p
target (set_word p i j w) = p

unfoldable pub with_entry : ℕ → Entry → Place → Place
with_entry j e empty = empty
with_entry j e (holding s (segment ws)) = holding s (segment ws)
with_entry j e (holding s (directory m es)) = holding s (directory m (set es j e))
with_entry j e (holding s type) = holding s type
with_entry j e (holding s (extended o m cs)) = holding s (extended o m cs)

unfoldable pub with_inner : ℕ → Capability → Place → Place
with_inner j c empty = empty
with_inner j c (holding s (segment ws)) = holding s (segment ws)
with_inner j c (holding s (directory m es)) = holding s (directory m es)
with_inner j c (holding s type) = holding s type
with_inner j c (holding s (extended o m cs)) = holding s (extended o m (set cs j c))

unfoldable pub with_word : ℕ → ℕ → Place → Place
with_word j w empty = empty
with_word j w (holding s (segment ws)) = holding s (segment (set ws j w))
with_word j w (holding s (directory m es)) = holding s (directory m es)
with_word j w (holding s type) = holding s type
with_word j w (holding s (extended o m cs)) = holding s (extended o m cs)

abbrev pub slotted : ℕ → Capability → Package → Package
slotted i c P = record { last = P.last; slots = set P.slots i c; places = P.places }

abbrev pub placed : ℕ → Place → Package → Package
placed i x P = record { last = P.last; slots = P.slots; places = set P.places i x }

abbrev pub place_at : Package → ℕ → Place
place_at P i = get_or P.places i empty

unfoldable pub changed : Package → Change → Package
changed P (set_last p n) = record { last = n; slots = P.slots; places = P.places }
changed P (set_slot p i c) = slotted i c P
changed P (set_place p i x) = placed i x P
changed P (set_entry p i j e) = placed i (with_entry j e (place_at P i)) P
changed P (set_inner p i j c) = placed i (with_inner j c (place_at P i)) P
changed P (set_word p i j w) = placed i (with_word j w (place_at P i)) P

unfoldable pub apply : Machine → Change → Machine
apply M x = set M (target x) (changed (package_of M (target x)) x)

-- One change after another.
unfoldable pub apply_all : Machine → List Change → Machine
apply_all M [] = M
apply_all M (x ∷ xs) = apply_all (apply M x) xs
