-- What stands at each position of a sound machine's numbers.
-- Assumes nothing.
use Prim.Native.Nat.{ℕ, suc, ◌+◌, ◌*◌, ◌<◌}
use native.Mathlib.Omega.{arith}
use mathlib.Core.Path.{◌≡◌, refl, ap, ◌∙◌}
use mathlib.Core.Bool.{Bool, true, false, ◌&&◌}
use mathlib.Core.List.{◌++◌}
use lib.ListN.{length, get_or, get_or-append}
use lib.Seq.{get_or-append-add}
use lib.Dec.{eqb, ltb, leb}
use Rattle.things.specs.declared.ObjectNumber.{ObjectNumber}
use Rattle.things.specs.Lists.{every, flat}
use Rattle.things.specs.Rights.{null}
use Rattle.things.proofs.ListLaws.{and_parts}
use Rattle.rules.specs.Machine.{PACKAGES, SLOTS, PLACES, ENTRIES, WORDS, INNERS, SEGMENT, DIRECTORY, EXTENDED, no_entry, segment, directory, type, extended, Place, empty, holding, Machine, nobody, package_of, last_of, slot_of, places_of, kind_of, serial_of, permits_of, type_of, words_of, entries_of, inners_of}
use Rattle.rules.specs.Sound.{issued, is_many, is_permits, capability_sound, entry_sound, body_sound, place_sound, package_sound, sound}
use Rattle.rules.proofs.Parts.{sound-eight, sound-each, sound-package}
use Rattle.rules.proofs.Keep.{inside, place-sound}
use Rattle.tables.specs.Layout.{capability_size, entry_size, head_size, place_size, slots_size, block_size, capability_numbers, entry_numbers, inside_numbers, place_numbers, package_numbers, numbers}
use Rattle.tables.specs.Positions.{last_pos, slot_pos, place_pos, capability_at}
use Rattle.tables.proofs.Blocks.{flat-length}
use Rattle.tables.proofs.RoundTrip.{many, capability-wide, entry-wide, place-wide, package-wide}
use Rattle.tables.proofs.At.{flat-at}

-- ---- in a package
module _ (M : Machine) (h : sound M ≡ true) (p : ℕ) (l : p < PACKAGES) where
  pub package-at : (k : ℕ) → k < block_size → get_or (numbers M) (block_size * p + k) 0 ≡ get_or (package_numbers (package_of M p)) k 0
  unfolding numbers package_of
  package-at k g = flat-at package_numbers (package_sound (issued M)) block_size (package-wide (issued M)) M nobody p k (sound-each M h) (rw (sound-eight M h) l) g

  pub last-at : get_or (numbers M) (last_pos p) 0 ≡ last_of M p
  unfolding package_numbers last_of
  last-at = let e : last_pos p ≡ block_size * p + 0 = omega arith in rw e (package-at 0 (omega arith))

  pub slots_length : length (flat capability_numbers (package_of M p).slots) ≡ slots_size
  slots_length =
      flat-length capability_numbers (capability_sound (issued M)) capability_size (capability-wide (issued M)) (package_of M p).slots (sound-package M h p l).each-slot
      ∙ rw (sound-package M h p l).slots

  pub slot_at : (i j : ℕ) → i < SLOTS → j < capability_size → get_or (numbers M) (slot_pos p i + j) 0 ≡ get_or (capability_numbers (slot_of M p i)) j 0
  unfolding package_numbers slot_of
  slot_at i j g k =
      let s = sound-package M h p l in
      let e : slot_pos p i + j ≡ block_size * p + suc (capability_size * i + j) = omega arith in
      rw e
      (package-at (suc (capability_size * i + j)) (omega arith)
      ∙ get_or-append (flat capability_numbers (package_of M p).slots) (flat place_numbers (package_of M p).places) 0 (capability_size * i + j) (rw slots_length (omega arith))
      ∙ flat-at capability_numbers (capability_sound (issued M)) capability_size (capability-wide (issued M)) (package_of M p).slots null i j s.each-slot (rw s.slots g) k)

  pub place_at_lem : (i j : ℕ) → i < PLACES → j < place_size → get_or (numbers M) (place_pos p i + j) 0 ≡ get_or (place_numbers (inside M p i)) j 0
  unfolding package_numbers places_of
  place_at_lem i j g k =
      let s = sound-package M h p l in
      let e : place_pos p i + j ≡ block_size * p + suc (slots_size + (place_size * i + j)) = omega arith in
      let a : slots_size + (place_size * i + j) ≡ length (flat capability_numbers (package_of M p).slots) + (place_size * i + j) = rw slots_length in
      rw e
      (package-at (suc (slots_size + (place_size * i + j))) (omega arith)
      ∙ ap (λ (n : ℕ). get_or (flat capability_numbers (package_of M p).slots ++ flat place_numbers (package_of M p).places) n 0) a
      ∙ get_or-append-add (flat capability_numbers (package_of M p).slots) (flat place_numbers (package_of M p).places) (place_size * i + j) 0
      ∙ flat-at place_numbers (place_sound (issued M) (package_of M p).last) place_size (place-wide (issued M) (package_of M p).last) (package_of M p).places empty i j s.each-place (rw s.places g) k)

  pub slot_seen : (i : ℕ) → i < SLOTS → capability_at (numbers M) (slot_pos p i) ≡ slot_of M p i
  unfolding capability_at capability_numbers
  slot_seen i g =
      let e : slot_pos p i ≡ slot_pos p i + 0 = omega arith in
      let a : get_or (numbers M) (slot_pos p i) 0 ≡ (slot_of M p i).object.0 = ap (λ (n : ℕ). get_or (numbers M) n 0) e ∙ slot_at i 0 g (omega arith) in
      let b = slot_at i 1 g (omega arith) in
      let d = slot_at i 2 g (omega arith) in
      rw (a, b, d)

-- ---- in a place
place-kind : (x : Place) → get_or (place_numbers x) 0 0 ≡ kind_of x
unfolding place_numbers kind_of
place-kind empty = refl
place-kind (holding s b) = refl

place-serial : (x : Place) → get_or (place_numbers x) 1 0 ≡ serial_of x
unfolding place_numbers serial_of
place-serial empty = refl
place-serial (holding s b) = refl

place-permits : (x : Place) → get_or (place_numbers x) 2 0 ≡ permits_of x
unfolding place_numbers permits_of
place-permits empty = refl
place-permits (holding s b) = refl

place-type : (x : Place) → (get_or (place_numbers x) 3 0 ≡ (type_of x).0) × (get_or (place_numbers x) 4 0 ≡ (type_of x).1)
unfolding place_numbers type_of
place-type empty = (refl, refl)
place-type (holding s b) = (refl, refl)

abbrev pub other : {P : Type 0} → (m n : ℕ) → eqb m n ≡ false → m ≡ n → P
other m n e q = let z : ⊥ = borrow.Author.Tests.eqb-false m n e q in absurd z

module _ (known : ObjectNumber → Bool) (last : ℕ) where
  place-entry : (x : Place) → place_sound known last x ≡ true → kind_of x ≡ DIRECTORY → (j k : ℕ) → j < ENTRIES → k < entry_size → get_or (place_numbers x) (head_size + (entry_size * j + k)) 0 ≡ get_or (entry_numbers (get_or (entries_of x) j no_entry)) k 0
  unfolding place_sound body_sound place_numbers inside_numbers kind_of entries_of
  place-entry empty h d j k g f = other 0 2 refl d
  place-entry (holding s (segment ws)) h d j k g f = other 1 2 refl d
  place-entry (holding s (directory m es)) h d j k g f =
      let p = and_parts (ltb 0 s && leb s last) _ h in
      let q = and_parts (is_permits m) _ p.1 in
      let r = and_parts (is_many ENTRIES es) _ q.1 in
      let u = and_parts (every (entry_sound known) es) _ r.1 in
      let e : head_size + (entry_size * j + k) ≡ suc (suc (suc (suc (suc (entry_size * j + k))))) = omega arith in
      rw e (flat-at entry_numbers (entry_sound known) entry_size (entry-wide known) es no_entry j k u.0 (rw (many ENTRIES es r.0) g) f)
  place-entry (holding s type) h d j k g f = other 3 2 refl d
  place-entry (holding s (extended o m cs)) h d j k g f = other 4 2 refl d

  place-word : (x : Place) → place_sound known last x ≡ true → kind_of x ≡ SEGMENT → (j : ℕ) → j < WORDS → get_or (place_numbers x) (head_size + j) 0 ≡ get_or (words_of x) j 0
  unfolding place_sound body_sound place_numbers inside_numbers kind_of words_of
  place-word empty h d j g = other 0 1 refl d
  place-word (holding s (segment ws)) h d j g =
      let p = and_parts (ltb 0 s && leb s last) _ h in
      let q = and_parts (is_many WORDS ws) _ p.1 in
      let e : head_size + j ≡ suc (suc (suc (suc (suc j)))) = omega arith in
      rw e (get_or-append ws _ 0 j (rw (many WORDS ws q.0) g))
  place-word (holding s (directory m es)) h d j g = other 2 1 refl d
  place-word (holding s type) h d j g = other 3 1 refl d
  place-word (holding s (extended o m cs)) h d j g = other 4 1 refl d

  place-inner : (x : Place) → place_sound known last x ≡ true → kind_of x ≡ EXTENDED → (j k : ℕ) → j < INNERS → k < capability_size → get_or (place_numbers x) (head_size + (capability_size * j + k)) 0 ≡ get_or (capability_numbers (get_or (inners_of x) j null)) k 0
  unfolding place_sound body_sound place_numbers inside_numbers kind_of inners_of
  place-inner empty h d j k g f = other 0 4 refl d
  place-inner (holding s (segment ws)) h d j k g f = other 1 4 refl d
  place-inner (holding s (directory m es)) h d j k g f = other 2 4 refl d
  place-inner (holding s type) h d j k g f = other 3 4 refl d
  place-inner (holding s (extended o m cs)) h d j k g f =
      let p = and_parts (ltb 0 s && leb s last) _ h in
      let q = and_parts (known o) _ p.1 in
      let r = and_parts (is_permits m) _ q.1 in
      let u = and_parts (is_many INNERS cs) (every (capability_sound known) cs) r.1 in
      let n = many INNERS cs u.0 in
      let w : length (flat capability_numbers cs) ≡ INNERS * capability_size = flat-length capability_numbers (capability_sound known) capability_size (capability-wide known) cs u.1 ∙ rw n in
      let e : head_size + (capability_size * j + k) ≡ suc (suc (suc (suc (suc (capability_size * j + k))))) = omega arith in
      rw e
      (get_or-append (flat capability_numbers cs) _ 0 (capability_size * j + k) (rw w (omega arith))
      ∙ flat-at capability_numbers (capability_sound known) capability_size (capability-wide known) cs null j k u.1 (rw n g) f)

module _ (M : Machine) (h : sound M ≡ true) (p i : ℕ) (l : p < PACKAGES) (g : i < PLACES) where
  at_zero : (k : ℕ) → get_or (numbers M) k 0 ≡ get_or (numbers M) (k + 0) 0
  at_zero k = let e : k ≡ k + 0 = omega arith in ap (λ (n : ℕ). get_or (numbers M) n 0) e

  pub kind-seen : get_or (numbers M) (place_pos p i) 0 ≡ kind_of (inside M p i)
  kind-seen = at_zero (place_pos p i) ∙ place_at_lem M h p l i 0 g (omega arith) ∙ place-kind (inside M p i)

  pub serial-seen : get_or (numbers M) (place_pos p i + 1) 0 ≡ serial_of (inside M p i)
  serial-seen = place_at_lem M h p l i 1 g (omega arith) ∙ place-serial (inside M p i)

  pub permits-seen : get_or (numbers M) (place_pos p i + 2) 0 ≡ permits_of (inside M p i)
  permits-seen = place_at_lem M h p l i 2 g (omega arith) ∙ place-permits (inside M p i)

  pub type-seen : (get_or (numbers M) (place_pos p i + 3) 0 ≡ (type_of (inside M p i)).0) × (get_or (numbers M) (place_pos p i + 4) 0 ≡ (type_of (inside M p i)).1)
  type-seen = (
    place_at_lem M h p l i 3 g (omega arith) ∙ (place-type (inside M p i)).0,
    place_at_lem M h p l i 4 g (omega arith) ∙ (place-type (inside M p i)).1,
  )

  pub entry_at : kind_of (inside M p i) ≡ DIRECTORY → (j k : ℕ) → j < ENTRIES → k < entry_size → get_or (numbers M) (place_pos p i + (head_size + (entry_size * j + k))) 0 ≡ get_or (entry_numbers (get_or (entries_of (inside M p i)) j no_entry)) k 0
  entry_at d j k a b =
      place_at_lem M h p l i (head_size + (entry_size * j + k)) g (omega arith)
      ∙ place-entry (issued M) (last_of M p) (inside M p i) (place-sound M p i h l) d j k a b

  pub word-seen : kind_of (inside M p i) ≡ SEGMENT → (j : ℕ) → j < WORDS → get_or (numbers M) (place_pos p i + (head_size + j)) 0 ≡ get_or (words_of (inside M p i)) j 0
  word-seen d j a =
      place_at_lem M h p l i (head_size + j) g (omega arith)
      ∙ place-word (issued M) (last_of M p) (inside M p i) (place-sound M p i h l) d j a

  pub inner-at : kind_of (inside M p i) ≡ EXTENDED → (j k : ℕ) → j < INNERS → k < capability_size → get_or (numbers M) (place_pos p i + (head_size + (capability_size * j + k))) 0 ≡ get_or (capability_numbers (get_or (inners_of (inside M p i)) j null)) k 0
  inner-at d j k a b =
      place_at_lem M h p l i (head_size + (capability_size * j + k)) g (omega arith)
      ∙ place-inner (issued M) (last_of M p) (inside M p i) (place-sound M p i h l) d j k a b
