-- What stands in a sound machine is sound: capabilities in slots, what lies in places, and what calls make of it.
-- Assumes nothing.
use Prim.Native.Nat.{ℕ, ◌≤◌, ◌<◌}
use native.Mathlib.Omega.{arith}
use mathlib.Core.Path.{◌≡◌, refl, sym, ap, ◌∙◌}
use mathlib.Core.Bool.{Bool, true, false, not, ◌&&◌, or-true}
use mathlib.Core.List.{List, []}
use lib.Bits.{bit_and, and_le_l}
use lib.ListN.{length, set, get_or-eq_default}
use lib.Dec.{eqb, ltb, leb}
use borrow.Author.Tests.{eqb-true, eqb-false, eq-eqb, ne_eqb, ltb-true, ltb-false, lt-ltb}
use Rattle.things.specs.declared.ObjectNumber.{ObjectNumber}
use Rattle.things.specs.declared.Capability.{Capability}
use Rattle.things.specs.Lists.{pick, every, some, distinct}
use Rattle.things.specs.Rights.{null, is_null, restricted}
use Rattle.things.proofs.RightLaws.{null_is, restricted-null}
use Rattle.things.proofs.ListLaws.{and_parts, and_both, never, or-rest, every-or, some-map, some_same, map-set, distinct-zero, distinct-new}
use Rattle.rules.specs.Machine.{PACKAGES, NUMBERS, Entry, no_entry, segment, directory, type, extended, Place, empty, holding, Package, Machine, nobody, package_of, last_of, slot_of, places_of, words_of, entries_of, inners_of, living, place_of, holds, is_empty, kind_of, is_named, has_entry, entry_named, entry_of}
use Rattle.rules.specs.Sound.{issued, is_number, is_many, is_rights, is_permits, names, entry_names, capability_sound, entry_sound, body_sound, place_sound, sound}
use Rattle.rules.specs.Changes.{with_word}
use Rattle.rules.specs.Calls.{entry}
use Rattle.rules.proofs.Parts.{sound-eight, sound-package}
use Rattle.rules.proofs.Keep.{inside, place-sound}

-- Capabilities.
pub null-sound : (known : ObjectNumber → Bool) → capability_sound known null ≡ true
unfolding capability_sound is_null
null-sound known = refl

pub sound-names : (known : ObjectNumber → Bool) (c : Capability) → capability_sound known c ≡ true → is_null c ≡ false → names known c ≡ true
unfolding capability_sound
sound-names known c h n = or-rest (is_null c) (names known c) n h

pub names-sound : (known : ObjectNumber → Bool) (c : Capability) → names known c ≡ true → capability_sound known c ≡ true
unfolding capability_sound
names-sound known c h = rw (h, or-true (is_null c))

pub restricted-sound : (known : ObjectNumber → Bool) (c : Capability) (mask : ℕ) → capability_sound known c ≡ true → capability_sound known (restricted c mask) ≡ true
unfolding restricted
restricted-sound known c mask h = go (is_null c) refl
  where
    go : (b : Bool) → is_null c ≡ b → capability_sound known (restricted c mask) ≡ true
    go true e = rw (null_is c e, restricted-null mask) (null-sound known)
    go false e =
        let p = and_parts (known c.object) (is_rights c.rights) (sound-names known c h e) in
        let l = ltb-true c.rights 256 p.1 in
        names-sound known (restricted c mask)
        (and_both p.0 (lt-ltb (bit_and c.rights mask) 256 (let m = and_le_l c.rights mask in omega arith)))

-- Slots; a package that is none has only nulls.
pub slot-sound : (M : Machine) (p i : ℕ) → sound M ≡ true → p < PACKAGES → capability_sound (issued M) (slot_of M p i) ≡ true
unfolding slot_of
slot-sound M p i h l = every-or (capability_sound (issued M)) (package_of M p).slots i null (sound-package M h p l).each-slot (null-sound (issued M))

-- What lies in a place.
pub record InsideSound (known : ObjectNumber → Bool) (x : Place) : Type 0 where
  pub words : every is_number (words_of x) ≡ true
  pub entries : every (entry_sound known) (entries_of x) ≡ true
  pub apart : distinct (entry_names (entries_of x)) ≡ true
  pub inners : every (capability_sound known) (inners_of x) ≡ true

place_inside : (known : ObjectNumber → Bool) (last : ℕ) (x : Place) → place_sound known last x ≡ true → InsideSound known x
unfolding place_sound body_sound words_of entries_of inners_of every distinct
place_inside known last empty h = record { words = refl; entries = refl; apart = refl; inners = refl }
place_inside known last (holding s (segment ws)) h =
    let p = and_parts (ltb 0 s && leb s last) _ h in
    let q = and_parts (is_many 32 ws) (every is_number ws) p.1 in
    record { words = q.1; entries = refl; apart = refl; inners = refl }
place_inside known last (holding s (directory m es)) h =
    let p = and_parts (ltb 0 s && leb s last) _ h in
    let q = and_parts (is_permits m) _ p.1 in
    let r = and_parts (is_many 16 es) _ q.1 in
    let u = and_parts (every (entry_sound known) es) (distinct (entry_names es)) r.1 in
    record { words = refl; entries = u.0; apart = u.1; inners = refl }
place_inside known last (holding s type) h = record { words = refl; entries = refl; apart = refl; inners = refl }
place_inside known last (holding s (extended o m cs)) h =
    let p = and_parts (ltb 0 s && leb s last) _ h in
    let q = and_parts (known o) _ p.1 in
    let r = and_parts (is_permits m) _ q.1 in
    let u = and_parts (is_many 4 cs) (every (capability_sound known) cs) r.1 in
    record { words = refl; entries = refl; apart = refl; inners = u.1 }

empty-sound : (known : ObjectNumber → Bool) → place_sound known 0 empty ≡ true
unfolding place_sound
empty-sound known = refl

pub no-places : (M : Machine) (p : ℕ) → length M ≡ PACKAGES → PACKAGES ≤ p → places_of M p ≡ []
unfolding places_of package_of
no-places M p l g = ap (λ (P : Package). P.places) (get_or-eq_default M nobody (rw l g))

none_inside : (known : ObjectNumber → Bool) → InsideSound known empty
none_inside known = place_inside known 0 empty (empty-sound known)

pub inside-sound : (M : Machine) (p i : ℕ) → sound M ≡ true → InsideSound (issued M) (inside M p i)
inside-sound M p i h = go (ltb p PACKAGES) refl
  where
    go : (b : Bool) → ltb p PACKAGES ≡ b → InsideSound (issued M) (inside M p i)
    go true e = place_inside (issued M) (last_of M p) (inside M p i) (place-sound M p i h (ltb-true p PACKAGES e))
    go false e = rw (no-places M p (sound-eight M h) (ltb-false p PACKAGES e)) (none_inside (issued M))

pub living-sound : (M : Machine) (o : ObjectNumber) → sound M ≡ true → InsideSound (issued M) (living M o)
unfolding living
living-sound M o h = inside-sound M o.0 (place_of M o) h

-- Entries.
pub none-sound : (known : ObjectNumber → Bool) → entry_sound known no_entry ≡ true
unfolding entry_sound is_null
none-sound known = refl

pub entry-sound : (known : ObjectNumber → Bool) (b : ℕ) (c : Capability) (distinguished : Bool) → 0 < b → b < NUMBERS → names known c ≡ true → entry_sound known (entry b c distinguished) ≡ true
unfolding entry_sound is_number
entry-sound known b c distinguished z l n =
    let e : eqb b 0 ≡ false = ne_eqb b 0 (λ q. omega arith) in
    let g : is_number b ≡ true = lt-ltb b NUMBERS l in
    rw e (and_both g n)

pub entry-capability : (known : ObjectNumber → Bool) (e : Entry) → entry_sound known e ≡ true → capability_sound known e.capability ≡ true
unfolding entry_sound
entry-capability known e h = go (eqb e.name 0) h
  where
    go : (b : Bool) → pick b (is_null e.capability && not e.distinguished) (is_number e.name && names known e.capability) ≡ true → capability_sound known e.capability ≡ true
    go true g = rw (null_is e.capability (and_parts (is_null e.capability) _ g).0) (null-sound known)
    go false g = names-sound known e.capability (and_parts (is_number e.name) _ g).1

pub entry-named-sound : (M : Machine) (o : ObjectNumber) (b : ℕ) → sound M ≡ true → capability_sound (issued M) (entry_named (living M o) b).capability ≡ true
unfolding entry_named
entry-named-sound M o b h =
    entry-capability (issued M) (entry_named (living M o) b)
    (every-or (entry_sound (issued M)) (entries_of (living M o)) (entry_of (living M o) b) no_entry (living-sound M o h).entries (none-sound (issued M)))

-- Names stay distinct where an entry is removed, or added under a name that isn't used.
pub apart-removed : (es : List Entry) (j : ℕ) → distinct (entry_names es) ≡ true → distinct (entry_names (set es j no_entry)) ≡ true
apart-removed es j h = rw (map-set (λ (e : Entry). e.name) es j no_entry) (distinct-zero (entry_names es) j h)

eqb_swap : (m n : ℕ) → eqb m n ≡ eqb n m
eqb_swap m n = go (eqb m n) refl
  where
    go : (b : Bool) → eqb m n ≡ b → eqb m n ≡ eqb n m
    go true e = rw (eq-eqb n m (sym (eqb-true m n e))) e
    go false e = rw (ne_eqb n m (λ q. eqb-false m n e (sym q))) e

pub apart-added : (x : Place) (j b : ℕ) (e : Entry) → e.name ≡ b → distinct (entry_names (entries_of x)) ≡ true → has_entry x b ≡ false → distinct (entry_names (set (entries_of x) j e)) ≡ true
unfolding has_entry is_named
apart-added x j b e n h g =
    let s : some (eqb b) (entry_names (entries_of x)) ≡ false =
    some-map (λ (y : Entry). y.name) b (entries_of x) ∙ some_same (λ (y : Entry). eqb b y.name) (is_named b) (entries_of x) (λ y. eqb_swap b y.name) ∙ g in
    rw (map-set (λ (y : Entry). y.name) (entries_of x) j e, n) (distinct-new (entry_names (entries_of x)) j b h s)

-- A place that holds a serial isn't empty; a store into a segment changes no kind.
pub holds-full : (n : ℕ) (x : Place) → holds n x ≡ true → is_empty x ≡ false
unfolding holds is_empty
holds-full n empty h = never (sym h)
holds-full n (holding s b) h = refl

pub with-word-kind : (j w : ℕ) (x : Place) → kind_of (with_word j w x) ≡ kind_of x
unfolding with_word kind_of
with-word-kind j w empty = refl
with-word-kind j w (holding s (segment ws)) = refl
with-word-kind j w (holding s (directory m es)) = refl
with-word-kind j w (holding s type) = refl
with-word-kind j w (holding s (extended o m cs)) = refl
