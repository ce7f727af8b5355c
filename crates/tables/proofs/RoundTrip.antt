-- A sound machine is read back from its numbers.
-- Assumes nothing.
use Prim.Native.Nat.{ℕ, ◌*◌, ◌-◌}
use mathlib.Core.Path.{◌≡◌, refl, ◌∙◌}
use mathlib.Core.Bool.{Bool, true, false, ◌&&◌}
use mathlib.Core.List.{List, [], ◌++◌, map, append-nil}
use lib.ListN.{length, drop, replicate, length-append}
use lib.Seq.{take_at, drop_at}
use lib.Dec.{eqb, ltb, leb}
use borrow.Author.Tests.{eqb-true}
use Rattle.things.specs.declared.ObjectNumber.{ObjectNumber}
use Rattle.things.specs.declared.Capability.{Capability}
use Rattle.things.specs.Lists.{every, flat}
use Rattle.things.proofs.ListLaws.{and_parts}
use Rattle.rules.specs.Machine.{PACKAGES, SLOTS, PLACES, WORDS, ENTRIES, INNERS, Entry, Body, segment, directory, type, extended, Place, empty, holding, Package, Machine}
use Rattle.rules.specs.Sound.{issued, is_many, is_permits, capability_sound, entry_sound, body_sound, place_sound, package_sound, sound}
use Rattle.rules.proofs.Parts.{package-parts, sound-eight, sound-each}
use Rattle.tables.specs.Layout.{capability_size, entry_size, inside_size, place_size, slots_size, block_size, tables_size, flag, capability_numbers, entry_numbers, inside_numbers, place_numbers, package_numbers, numbers, blocks, capability_from, entry_from, place_from, package_from, machine}
use Rattle.tables.proofs.Blocks.{flat-length, read-flat}

-- As read-flat, of a list of known length.
read-many : {A : Type 0} (f : A → List ℕ) (ok : A → Bool) (w : ℕ) (wide : (x : A) → ok x ≡ true → length (f x) ≡ w) (g : List ℕ → A) →
    ((x : A) → ok x ≡ true → g (f x) ≡ x) → (n : ℕ) (xs : List A) → length xs ≡ n → every ok xs ≡ true → (rest : List ℕ) → map g (blocks n w (flat f xs ++ rest)) ≡ xs
read-many f ok w wide g back n xs l h rest = rw (← l) (read-flat f ok w wide g back xs h rest)

pub many : {A : Type 0} (n : ℕ) (xs : List A) → is_many n xs ≡ true → length xs ≡ n
many n xs h = eqb-true (length xs) n h

module _ (known : ObjectNumber → Bool) where
  pub capability-wide : (c : Capability) → capability_sound known c ≡ true → length (capability_numbers c) ≡ capability_size
  unfolding capability_numbers
  capability-wide c h = refl

  capability-back : (c : Capability) → capability_sound known c ≡ true → capability_from (capability_numbers c) ≡ c
  unfolding capability_numbers capability_from
  capability-back c h = refl

  pub entry-wide : (e : Entry) → entry_sound known e ≡ true → length (entry_numbers e) ≡ entry_size
  unfolding entry_numbers capability_numbers
  entry-wide e h = refl

  flag-back : (b : Bool) → eqb (flag b) 1 ≡ b
  flag-back true = refl
  flag-back false = refl

  entry-back : (e : Entry) → entry_sound known e ≡ true → entry_from (entry_numbers e) ≡ e
  unfolding entry_numbers entry_from capability_numbers capability_from
  entry-back e h = rw (flag-back e.distinguished)

  pub inside-wide : (b : Body) → body_sound known b ≡ true → length (inside_numbers b) ≡ inside_size
  unfolding inside_numbers body_sound
  inside-wide (segment ws) h =
      let p = and_parts (is_many WORDS ws) _ h in
      let l = many WORDS ws p.0 in
      length-append ws (replicate (inside_size - WORDS) 0) ∙ rw l
  inside-wide (directory m es) h =
      let p = and_parts (is_permits m) _ h in
      let q = and_parts (is_many ENTRIES es) _ p.1 in
      let r = and_parts (every (entry_sound known) es) _ q.1 in
      flat-length entry_numbers (entry_sound known) entry_size entry-wide es r.0 ∙ rw (many ENTRIES es q.0)
  inside-wide type h = refl
  inside-wide (extended o m cs) h =
      let p = and_parts (known o) _ h in
      let q = and_parts (is_permits m) _ p.1 in
      let r = and_parts (is_many INNERS cs) (every (capability_sound known) cs) q.1 in
      length-append (flat capability_numbers cs) (replicate (inside_size - INNERS * capability_size) 0)
      ∙ rw (flat-length capability_numbers (capability_sound known) capability_size capability-wide cs r.1, many INNERS cs r.0)

  pub place-wide : (last : ℕ) (x : Place) → place_sound known last x ≡ true → length (place_numbers x) ≡ place_size
  unfolding place_numbers place_sound
  place-wide last empty h = refl
  place-wide last (holding s b) h =
      let p = and_parts (ltb 0 s && leb s last) (body_sound known b) h in
      rw (inside-wide b p.1)

  place-back : (last : ℕ) (x : Place) → place_sound known last x ≡ true → place_from (place_numbers x) ≡ x
  unfolding place_numbers place_from place_sound inside_numbers body_sound
  place-back last empty h = refl
  place-back last (holding s (segment ws)) h =
      let p = and_parts (ltb 0 s && leb s last) _ h in
      let q = and_parts (is_many WORDS ws) _ p.1 in
      rw (take_at ws (replicate (inside_size - WORDS) 0) WORDS (many WORDS ws q.0))
  place-back last (holding s (directory m es)) h =
      let p = and_parts (ltb 0 s && leb s last) _ h in
      let q = and_parts (is_permits m) _ p.1 in
      let r = and_parts (is_many ENTRIES es) _ q.1 in
      let u = and_parts (every (entry_sound known) es) _ r.1 in
      let v = read-many entry_numbers (entry_sound known) entry_size entry-wide entry_from entry-back ENTRIES es (many ENTRIES es r.0) u.0 [] in
      let w : map entry_from (blocks ENTRIES entry_size (flat entry_numbers es)) ≡ es = rw append-nil at v in
      rw w
  place-back last (holding s type) h = refl
  place-back last (holding s (extended o m cs)) h =
      let p = and_parts (ltb 0 s && leb s last) _ h in
      let q = and_parts (known o) _ p.1 in
      let r = and_parts (is_permits m) _ q.1 in
      let u = and_parts (is_many INNERS cs) (every (capability_sound known) cs) r.1 in
      rw (read-many capability_numbers (capability_sound known) capability_size capability-wide capability_from capability-back INNERS cs (many INNERS cs u.0) u.1 (replicate (inside_size - INNERS * capability_size) 0))

  pub slots-wide : (P : Package) → package_sound known P ≡ true → length (flat capability_numbers P.slots) ≡ slots_size
  slots-wide P h =
      let p = package-parts known P h in
      flat-length capability_numbers (capability_sound known) capability_size capability-wide P.slots p.each-slot ∙ rw p.slots

  pub package-wide : (P : Package) → package_sound known P ≡ true → length (package_numbers P) ≡ block_size
  unfolding package_numbers
  package-wide P h =
      let p = package-parts known P h in
      let a = slots-wide P h in
      let b = flat-length place_numbers (place_sound known P.last) place_size (place-wide P.last) P.places p.each-place in
      let c = length-append (flat capability_numbers P.slots) (flat place_numbers P.places) in
      rw (c, a, b, p.places)

  pub package-back : (P : Package) → package_sound known P ≡ true → package_from (package_numbers P) ≡ P
  unfolding package_numbers package_from
  package-back P h =
      let p = package-parts known P h in
      let a : map capability_from (blocks SLOTS capability_size (flat capability_numbers P.slots ++ flat place_numbers P.places)) ≡ P.slots =
      read-many capability_numbers (capability_sound known) capability_size capability-wide capability_from capability-back SLOTS P.slots p.slots p.each-slot (flat place_numbers P.places) in
      let b = read-many place_numbers (place_sound known P.last) place_size (place-wide P.last) place_from (place-back P.last) PLACES P.places p.places p.each-place [] in
      let b' : map place_from (blocks PLACES place_size (flat place_numbers P.places)) ≡ P.places = rw append-nil at b in
      let c : drop slots_size (flat capability_numbers P.slots ++ flat place_numbers P.places) ≡ flat place_numbers P.places = drop_at (flat capability_numbers P.slots) (flat place_numbers P.places) slots_size (slots-wide P h) in
      rw (c, b', a)

-- The numbers of a sound machine show that machine, and have the tables' length.
pub read_back : (M : Machine) → sound M ≡ true → machine (numbers M) ≡ M
unfolding machine numbers
read_back M h =
    let v = read-many package_numbers (package_sound (issued M)) block_size (package-wide (issued M)) package_from (package-back (issued M)) PACKAGES M (sound-eight M h) (sound-each M h) [] in
    rw append-nil at v

pub numbers-length : (M : Machine) → sound M ≡ true → length (numbers M) ≡ tables_size
unfolding numbers
numbers-length M h =
    flat-length package_numbers (package_sound (issued M)) block_size (package-wide (issued M)) M (sound-each M h) ∙ rw (sound-eight M h)
