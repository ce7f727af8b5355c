-- A sound machine, taken apart and put together; and that what is sound stays so while more serials are issued.
-- Assumes nothing.
use Prim.Native.Nat.{ℕ, ◌≤◌, ◌<◌}
use native.Mathlib.Omega.{arith}
use mathlib.Core.Path.{◌≡◌, refl}
use mathlib.Core.Bool.{Bool, true, false, ◌&&◌, ◌||◌}
use lib.ListN.{length}
use lib.Dec.{eqb, ltb, leb}
use borrow.Author.Tests.{eqb-true, eq-eqb, leb-true, le-leb}
use Rattle.things.specs.declared.ObjectNumber.{ObjectNumber}
use Rattle.things.specs.declared.Capability.{Capability}
use Rattle.things.specs.Lists.{pick, every, distinct}
use Rattle.things.specs.Rights.{maker, serial, is_null}
use Rattle.things.proofs.ListLaws.{and_parts, and_both, every-at, every-mono}
use Rattle.rules.specs.Machine.{PACKAGES, SLOTS, PLACES, Entry, Body, segment, directory, type, extended, Place, empty, holding, Package, Machine, nobody, package_of, last_of}
use Rattle.rules.specs.Sound.{issued, is_number, is_many, is_rights, is_permits, names, serials, entry_names, capability_sound, entry_sound, body_sound, place_sound, package_sound, sound}

-- Tests, from stronger ones.
or-more : (x y z : Bool) → (y ≡ true → z ≡ true) → x || y ≡ true → x || z ≡ true
or-more true y z m h = refl
or-more false y z m h = m h

and-more : (x y z : Bool) → (y ≡ true → z ≡ true) → x && y ≡ true → x && z ≡ true
and-more x y z m h = let p = and_parts x y h in and_both p.0 (m p.1)

pick_more : (b x y z : Bool) → (y ≡ true → z ≡ true) → pick b x y ≡ true → pick b x z ≡ true
pick_more true x y z m h = h
pick_more false x y z m h = m h

-- More numbers are known.
module _ (known more : ObjectNumber → Bool) (grow : (o : ObjectNumber) → known o ≡ true → more o ≡ true) where
  names_more : (c : Capability) → names known c ≡ true → names more c ≡ true
  names_more c h = let p = and_parts (known c.object) (is_rights c.rights) h in and_both (grow c.object p.0) p.1

  pub capability-more : (c : Capability) → capability_sound known c ≡ true → capability_sound more c ≡ true
  unfolding capability_sound
  capability-more c h = or-more (is_null c) (names known c) (names more c) (names_more c) h

  pub entry_more : (e : Entry) → entry_sound known e ≡ true → entry_sound more e ≡ true
  unfolding entry_sound
  entry_more e h =
      pick_more (eqb e.name 0) _ _ _
      (and-more (is_number e.name) (names known e.capability) (names more e.capability) (names_more e.capability)) h

  pub body_more : (b : Body) → body_sound known b ≡ true → body_sound more b ≡ true
  unfolding body_sound
  body_more (segment ws) h = h
  body_more (directory m es) h =
      and-more (is_permits m) _ _ (and-more (is_many 16 es) _ _ (λ g.
      let p = and_parts (every (entry_sound known) es) (distinct (entry_names es)) g in
      and_both (every-mono (entry_sound known) (entry_sound more) es entry_more p.0) p.1)) h
  body_more type h = h
  body_more (extended o m cs) h =
      let p = and_parts (known o) _ h in
      and_both (grow o p.0)
      (and-more (is_permits m) _ _ (and-more (is_many 4 cs) _ _ (every-mono (capability_sound known) (capability_sound more) cs capability-more)) p.1)

  pub place-more : (l n : ℕ) → l ≤ n → (x : Place) → place_sound known l x ≡ true → place_sound more n x ≡ true
  unfolding place_sound
  place-more l n le empty h = refl
  place-more l n le (holding s b) h =
      let p = and_parts (ltb 0 s && leb s l) (body_sound known b) h in
      let q = and_parts (ltb 0 s) (leb s l) p.0 in
      let r : leb s n ≡ true = le-leb s n (let u = leb-true s l q.1 in omega arith) in
      and_both (and_both q.0 r) (body_more b p.1)

-- A package's parts.
pub record PackageParts (known : ObjectNumber → Bool) (P : Package) : Type 0 where
  pub number : is_number P.last ≡ true
  pub slots : length P.slots ≡ SLOTS
  pub each-slot : every (capability_sound known) P.slots ≡ true
  pub places : length P.places ≡ PLACES
  pub each-place : every (place_sound known P.last) P.places ≡ true
  pub apart : distinct (serials P.places) ≡ true

module _ (known : ObjectNumber → Bool) (P : Package) where
  pub package-parts : package_sound known P ≡ true → PackageParts known P
  unfolding package_sound
  package-parts h =
      let a = and_parts (is_number P.last) _ h in
      let b = and_parts (is_many SLOTS P.slots && every (capability_sound known) P.slots) _ a.1 in
      let c = and_parts (is_many SLOTS P.slots) _ b.0 in
      let d = and_parts (is_many PLACES P.places && every (place_sound known P.last) P.places) _ b.1 in
      let e = and_parts (is_many PLACES P.places) _ d.0 in
      record {
        number = a.0;
        slots = eqb-true _ _ c.0;
        each-slot = c.1;
        places = eqb-true _ _ e.0;
        each-place = e.1;
        apart = d.1;
      }

  pub package-whole : PackageParts known P → package_sound known P ≡ true
  unfolding package_sound
  package-whole h =
      and_both h.number
      (and_both (and_both (eq-eqb _ _ h.slots) h.each-slot)
      (and_both (and_both (eq-eqb _ _ h.places) h.each-place) h.apart))

pub package-more : (known more : ObjectNumber → Bool) (grow : (o : ObjectNumber) → known o ≡ true → more o ≡ true) (P : Package) → package_sound known P ≡ true → package_sound more P ≡ true
package-more known more grow P h =
    let p = package-parts known P h in
    package-whole more P
    (record {
      number = p.number;
      slots = p.slots;
      each-slot = every-mono (capability_sound known) (capability_sound more) P.slots (capability-more known more grow) p.each-slot;
      places = p.places;
      each-place = every-mono (place_sound known P.last) (place_sound more P.last) P.places (place-more known more grow P.last P.last (omega arith)) p.each-place;
      apart = p.apart;
    })

-- The machine's parts.
pub sound-eight : (M : Machine) → sound M ≡ true → length M ≡ PACKAGES
unfolding sound
sound-eight M h = eqb-true _ _ (and_parts (is_many PACKAGES M) _ h).0

pub sound-each : (M : Machine) → sound M ≡ true → every (package_sound (issued M)) M ≡ true
unfolding sound
sound-each M h = (and_parts (is_many PACKAGES M) _ h).1

pub sound-whole : (M : Machine) → length M ≡ PACKAGES → every (package_sound (issued M)) M ≡ true → sound M ≡ true
unfolding sound
sound-whole M l h = and_both (eq-eqb _ _ l) h

pub sound-package : (M : Machine) → sound M ≡ true → (q : ℕ) → q < PACKAGES → PackageParts (issued M) (package_of M q)
unfolding package_of
sound-package M h q l =
    package-parts (issued M) (package_of M q) (every-at (package_sound (issued M)) M q nobody (sound-each M h) (rw (sound-eight M h) l))

-- What is issued.
abbrev pub Grows : Machine → Machine → Type 0
Grows M N = (q : ℕ) → last_of M q ≤ last_of N q

pub issued-grows : (M N : Machine) → Grows M N → (o : ObjectNumber) → issued M o ≡ true → issued N o ≡ true
unfolding issued
issued-grows M N g o h =
    let p = and_parts (ltb (maker o) PACKAGES) _ h in
    let q = and_parts (ltb 0 (serial o)) (leb (serial o) (last_of M (maker o))) p.1 in
    let r : leb (serial o) (last_of N (maker o)) ≡ true = le-leb (serial o) (last_of N (maker o)) (let u = leb-true (serial o) (last_of M (maker o)) q.1 in let v = g (maker o) in omega arith) in
    and_both p.0 (and_both q.0 r)
