-- What opening an object shows: a directory's entries, or an extended object's inner places; each a sound capability.
-- Assumes nothing.
use Prim.Native.Nat.{ℕ, ◌<◌, ◌≤◌}
use native.Mathlib.Omega.{arith}
use mathlib.Core.Path.{◌≡◌, refl, sym, ◌∙◌}
use mathlib.Core.Bool.{Bool, true, false, ◌&&◌}
use mathlib.Core.List.{List, [], ◌∷◌, ◌++◌, map, append-nil}
use lib.ListN.{length, get_or, length-map, get_or-map}
use lib.Dec.{ltb, leb}
use borrow.Author.Tests.{ltb-true, leb-true}
use Rattle.things.specs.declared.ObjectNumber.{ObjectNumber}
use Rattle.things.specs.declared.Capability.{Capability}
use Rattle.things.specs.Lists.{pick, every}
use Rattle.things.specs.Rights.{null, is_null}
use Rattle.things.proofs.ListLaws.{and_parts, and_both}
use Rattle.rules.specs.Machine.{DIRECTORY, EXTENDED, Entry, no_entry, segment, directory, type, extended, Place, empty, holding, Machine, package_of, last_of, inside, kind_of, entries_of, inners_of, is_used}
use Rattle.rules.specs.Sound.{issued, is_number, is_many, is_permits, is_rights, capability_sound, entry_sound, body_sound, place_sound, sound}
use Rattle.rules.proofs.Parts.{sound-package}
use Rattle.rules.proofs.Keep.{place-sound}
use Rattle.rules.proofs.Inside.{inside-sound, sound-names, null-sound, entry-capability}
use Rattle.tables.specs.Layout.{machine}
use Rattle.tables.proofs.Laws.{formed}
use Rattle.tables.proofs.RoundTrip.{many}
use Rattle.tables.proofs.Seen.{other}
use Rattle.text.specs.Tree.{shown_by, within}
use Rattle.access.specs.Lent.{Lent}
use Rattle.access.proofs.Searching.{entries-long}

-- The two parts of `within`: each kind has one of them.
pub within-directory : (x : Place) → kind_of x ≡ DIRECTORY → within x ≡ map shown_by (entries_of x)
unfolding within kind_of entries_of inners_of
within-directory empty d = other 0 2 refl d
within-directory (holding s (segment ws)) d = other 1 2 refl d
within-directory (holding s (directory m es)) d = append-nil (map shown_by es)
within-directory (holding s type) d = other 3 2 refl d
within-directory (holding s (extended o m cs)) d = other 4 2 refl d

pub within-extended : (x : Place) → kind_of x ≡ EXTENDED → within x ≡ inners_of x
unfolding within kind_of entries_of inners_of
within-extended empty d = other 0 4 refl d
within-extended (holding s (segment ws)) d = other 1 4 refl d
within-extended (holding s (directory m es)) d = other 2 4 refl d
within-extended (holding s type) d = other 3 4 refl d
within-extended (holding s (extended o m cs)) d = refl

pub entry-is : (x : Place) → kind_of x ≡ DIRECTORY → (j : ℕ) → shown_by (get_or (entries_of x) j no_entry) ≡ get_or (within x) j null
unfolding is_used
entry-is x d j = rw (within-directory x d) (sym (get_or-map shown_by (entries_of x) j no_entry))

pub inner-is : (x : Place) → kind_of x ≡ EXTENDED → (j : ℕ) → get_or (inners_of x) j null ≡ get_or (within x) j null
inner-is x d j = rw (within-extended x d)

-- How many there are.
four-inners : (known : ObjectNumber → Bool) (last : ℕ) (x : Place) → place_sound known last x ≡ true → kind_of x ≡ EXTENDED → length (inners_of x) ≡ 4
unfolding place_sound body_sound kind_of inners_of
four-inners known last empty h d = other 0 4 refl d
four-inners known last (holding s (segment ws)) h d = other 1 4 refl d
four-inners known last (holding s (directory m es)) h d = other 2 4 refl d
four-inners known last (holding s type) h d = other 3 4 refl d
four-inners known last (holding s (extended o m cs)) h d =
    let p = and_parts (ltb 0 s && leb s last) _ h in
    let q = and_parts (known o) _ p.1 in
    let r = and_parts (is_permits m) _ q.1 in
    many 4 cs (and_parts (is_many 4 cs) _ r.1).0

few-shown : (known : ObjectNumber → Bool) (last : ℕ) (x : Place) → place_sound known last x ≡ true → length (within x) ≤ 16
unfolding place_sound body_sound within entries_of inners_of
few-shown known last empty h = omega arith
few-shown known last (holding s (segment ws)) h = omega arith
few-shown known last (holding s (directory m es)) h =
    let p = and_parts (ltb 0 s && leb s last) _ h in
    let q = and_parts (is_permits m) _ p.1 in
    let r = many 16 es (and_parts (is_many 16 es) _ q.1).0 in
    rw (append-nil (map shown_by es)) (omega (arith, length-map es shown_by))
few-shown known last (holding s type) h = omega arith
few-shown known last (holding s (extended o m cs)) h =
    let p = and_parts (ltb 0 s && leb s last) _ h in
    let q = and_parts (known o) _ p.1 in
    let r = and_parts (is_permits m) _ q.1 in
    let n = many 4 cs (and_parts (is_many 4 cs) _ r.1).0 in
    omega arith

-- Each is sound.
module _ (known : ObjectNumber → Bool) where
  shown-sound : (e : Entry) → entry_sound known e ≡ true → capability_sound known (shown_by e) ≡ true
  shown-sound e h = go (is_used e)
    where
      go : (b : Bool) → capability_sound known (pick b e.capability null) ≡ true
      go true = entry-capability known e h
      go false = null-sound known

  both-sound : (es : List Entry) (cs : List Capability) → every (entry_sound known) es ≡ true → every (capability_sound known) cs ≡ true → every (capability_sound known) (map shown_by es ++ cs) ≡ true
  unfolding every
  both-sound [] cs h g = g
  both-sound (e ∷ es) cs h g =
      let p = and_parts (entry_sound known e) _ h in
      and_both (shown-sound e p.0) (both-sound es cs p.1 g)

-- The numbers of a capability that isn't null.
pub record Small (c : Capability) : Type 0 where
  pub maker : c.object.0 < 8
  pub serial : c.object.1 < 65536
  pub rights : c.rights < 256

module _ (M : Machine) (h : sound M ≡ true) where
  pub within-sound : (p i : ℕ) → every (capability_sound (issued M)) (within (inside M p i)) ≡ true
  unfolding within
  within-sound p i =
      let s = inside-sound M p i h in
      both-sound (issued M) (entries_of (inside M p i)) (inners_of (inside M p i)) s.entries s.inners

  pub within-few : (p i : ℕ) → p < 8 → length (within (inside M p i)) ≤ 16
  within-few p i l = few-shown (issued M) (last_of M p) (inside M p i) (place-sound M p i h l)

  pub inners-long : (p i : ℕ) → p < 8 → kind_of (inside M p i) ≡ EXTENDED → length (within (inside M p i)) ≡ 4
  inners-long p i l d =
      rw (within-extended (inside M p i) d) (four-inners (issued M) (last_of M p) (inside M p i) (place-sound M p i h l) d)

  pub slots-long : (p : ℕ) → p < 8 → length (package_of M p).slots ≡ 16
  slots-long p l = (sound-package M h p l).slots

  pub slots-sound : (p : ℕ) → p < 8 → every (capability_sound (issued M)) (package_of M p).slots ≡ true
  slots-sound p l = (sound-package M h p l).each-slot

  issued-small : (o : ObjectNumber) → issued M o ≡ true → (o.0 < 8) × (o.1 < 65536)
  unfolding issued is_number last_of
  issued-small o g =
      let p = and_parts (ltb o.0 8) _ g in
      let l = ltb-true o.0 8 p.0 in
      let q = and_parts (ltb 0 o.1) _ p.1 in
      let s = leb-true o.1 (last_of M o.0) q.1 in
      let n = ltb-true (last_of M o.0) 65536 (sound-package M h o.0 l).number in
      (l, omega arith)

  pub capability-small : (c : Capability) → capability_sound (issued M) c ≡ true → is_null c ≡ false → Small c
  capability-small c g n =
      let p = and_parts (issued M c.object) (is_rights c.rights) (sound-names (issued M) c g n) in
      let q = issued-small c.object p.0 in
      record { maker = q.0; serial = q.1; rights = ltb-true c.rights 256 p.1 }

pub sound-of : (t : List ℕ) → Lent t → sound (machine t) ≡ true
sound-of t w = (formed t w.formed).sound-shown

pub entries-sixteen : (t : List ℕ) → Lent t → (p i : ℕ) → p < 8 → kind_of (inside (machine t) p i) ≡ DIRECTORY → length (within (inside (machine t) p i)) ≡ 16
entries-sixteen t w p i l d =
    rw (within-directory (inside (machine t) p i) d) (length-map (entries_of (inside (machine t) p i)) shown_by ∙ entries-long t w p l i d)
