-- Each kind of change keeps a sound machine sound, where what it stores is sound.
-- Assumes nothing.
use Prim.Native.Nat.{ℕ, ◌≤◌, ◌<◌}
use native.Mathlib.Omega.{arith}
use mathlib.Core.Path.{◌≡◌, refl, sym, fun_ext, subst, ◌∙◌}
use mathlib.Core.Bool.{Bool, true, false, ◌&&◌}
use mathlib.Core.List.{List}
use lib.ListN.{get_or, set, length-set}
use lib.Seq.{set_out, map-set_same}
use lib.Dec.{ltb, leb}
use borrow.Author.Tests.{lt-ltb, ltb-false}
use Rattle.things.specs.declared.ObjectNumber.{ObjectNumber}
use Rattle.things.specs.declared.Capability.{Capability}
use Rattle.things.specs.Lists.{every, distinct}
use Rattle.things.proofs.ListLaws.{and_parts, and_both, every-or, every_set, every-mono, set-any}
use Rattle.rules.specs.Machine.{PACKAGES, NUMBERS, Entry, segment, directory, type, extended, Place, empty, holding, Package, Machine, nobody, package_of, last_of, places_of, serial_of, entries_of}
pub use Rattle.rules.specs.Machine.{inside}
use Rattle.rules.specs.Sound.{issued, is_number, is_many, is_permits, serials, entry_names, capability_sound, entry_sound, body_sound, place_sound, package_sound, sound}
use Rattle.rules.specs.Changes.{Change, set_last, set_slot, set_place, set_entry, set_inner, set_word, target, with_entry, with_inner, with_word, slotted, placed, changed, apply}
use Rattle.rules.proofs.Parts.{package-whole, package-more, place-more, capability-more, sound-eight, sound-each, sound-whole, sound-package, Grows, issued-grows}

many-set : {A : Type 0} (n : ℕ) (xs : List A) (i : ℕ) (y : A) → is_many n xs ≡ true → is_many n (set xs i y) ≡ true
many-set n xs i y h = rw (length-set xs i y) h

-- A change whose package stays sound, and which takes no serial back.
pub keep-change : (M : Machine) (x : Change) → sound M ≡ true → Grows M (apply M x) →
    (target x < PACKAGES → package_sound (issued (apply M x)) (changed (package_of M (target x)) x) ≡ true) → sound (apply M x) ≡ true
unfolding apply
keep-change M x h g k = go (ltb (target x) PACKAGES) refl
  where
    go : (b : Bool) → ltb (target x) PACKAGES ≡ b → sound (apply M x) ≡ true
    go true e =
        sound-whole (apply M x) (length-set M (target x) (changed (package_of M (target x)) x) ∙ sound-eight M h)
        (every_set (package_sound (issued (apply M x))) M (target x) (changed (package_of M (target x)) x)
        (every-mono (package_sound (issued M)) (package_sound (issued (apply M x))) M
        (package-more (issued M) (issued (apply M x)) (issued-grows M (apply M x) g)) (sound-each M h))
        (k (borrow.Author.Tests.ltb-true (target x) PACKAGES e)))
    go false e =
        let o : PACKAGES ≤ target x = ltb-false (target x) PACKAGES e in
        subst (λ (N : Machine). sound N ≡ true) (sym (set_out M (target x) (changed (package_of M (target x)) x) (rw (sound-eight M h) o))) h

-- Every change but a new last serial leaves the last serials.
abbrev pub Quiet : Change → Type 0
Quiet x = (P : Package) → (changed P x).last ≡ P.last

pub quiet-last : (M : Machine) (x : Change) → Quiet x → (q : ℕ) → last_of (apply M x) q ≡ last_of M q
unfolding last_of package_of apply
quiet-last M x u q =
    set-any (λ (P : Package). P.last ≡ last_of M q) M (target x) q (changed (package_of M (target x)) x) nobody
    (λ e. rw e (u (package_of M (target x)))) refl

pub quiet-issued : (M : Machine) (x : Change) → Quiet x → issued (apply M x) ≡ issued M
unfolding issued
quiet-issued M x u = fun_ext (λ o. rw (quiet-last M x u o.0))

keep-quiet : (M : Machine) (x : Change) → Quiet x → sound M ≡ true →
    (target x < PACKAGES → package_sound (issued M) (changed (package_of M (target x)) x) ≡ true) → sound (apply M x) ≡ true
keep-quiet M x u h k =
    keep-change M x h (λ q. let e = quiet-last M x u q in omega arith) (λ l. rw (quiet-issued M x u) (k l))

-- A last serial.
pub last-grows : (M : Machine) (p n : ℕ) → last_of M p ≤ n → Grows M (apply M (set_last p n))
unfolding last_of package_of apply changed
last-grows M p n le q =
    set-any (λ (P : Package). last_of M q ≤ P.last) M p q (changed (package_of M p) (set_last p n)) nobody (λ e. rw e le) (omega arith)

pub keep-last : (M : Machine) (p n : ℕ) → sound M ≡ true → last_of M p ≤ n → n < NUMBERS → sound (apply M (set_last p n)) ≡ true
unfolding changed is_number last_of
keep-last M p n h le lt = keep-change M (set_last p n) h (last-grows M p n le) whole
  where
    whole : p < PACKAGES → package_sound (issued (apply M (set_last p n))) (changed (package_of M p) (set_last p n)) ≡ true
    whole l =
        let s = sound-package M h p l in
        let N = apply M (set_last p n) in
        let i = issued-grows M N (last-grows M p n le) in
        package-whole (issued N) (changed (package_of M p) (set_last p n))
        (record {
          number = lt-ltb n NUMBERS lt;
          slots = s.slots;
          each-slot = every-mono (capability_sound (issued M)) (capability_sound (issued N)) (package_of M p).slots (capability-more (issued M) (issued N) i) s.each-slot;
          places = s.places;
          each-place = every-mono (place_sound (issued M) (package_of M p).last) (place_sound (issued N) n) (package_of M p).places (place-more (issued M) (issued N) i (package_of M p).last n le) s.each-place;
          apart = s.apart;
        })

-- A capability in a slot.
pub slot-quiet : (p i : ℕ) (c : Capability) → Quiet (set_slot p i c)
unfolding changed
slot-quiet p i c P = refl

pub keep-slot : (M : Machine) (p i : ℕ) (c : Capability) → sound M ≡ true → capability_sound (issued M) c ≡ true → sound (apply M (set_slot p i c)) ≡ true
unfolding changed
keep-slot M p i c h g = keep-quiet M (set_slot p i c) (slot-quiet p i c) h whole
  where
    whole : p < PACKAGES → package_sound (issued M) (changed (package_of M p) (set_slot p i c)) ≡ true
    whole l =
        let s = sound-package M h p l in
        package-whole (issued M) (slotted i c (package_of M p))
        (record {
          number = s.number;
          slots = length-set (package_of M p).slots i c ∙ s.slots;
          each-slot = every_set (capability_sound (issued M)) (package_of M p).slots i c s.each-slot g;
          places = s.places;
          each-place = s.each-place;
          apart = s.apart;
        })

-- What lies in a place: sound by itself, and with a serial that no other place of its package has.
abbrev pub Alone : Machine → ℕ → ℕ → Place → Type 0
Alone M p i x = distinct (serials (set (places_of M p) i x)) ≡ true

placed-whole : (M : Machine) (p i : ℕ) (x : Place) → sound M ≡ true → p < PACKAGES → place_sound (issued M) (last_of M p) x ≡ true → Alone M p i x → package_sound (issued M) (placed i x (package_of M p)) ≡ true
unfolding last_of places_of
placed-whole M p i x h l g a =
    let s = sound-package M h p l in
    package-whole (issued M) (placed i x (package_of M p))
    (record {
      number = s.number;
      slots = s.slots;
      each-slot = s.each-slot;
      places = length-set (package_of M p).places i x ∙ s.places;
      each-place = every_set (place_sound (issued M) (package_of M p).last) (package_of M p).places i x s.each-place g;
      apart = a;
    })

pub place-quiet : (p i : ℕ) (x : Place) → Quiet (set_place p i x)
unfolding changed
place-quiet p i x P = refl

pub keep-place : (M : Machine) (p i : ℕ) (x : Place) → sound M ≡ true → (p < PACKAGES → place_sound (issued M) (last_of M p) x ≡ true) → (p < PACKAGES → Alone M p i x) → sound (apply M (set_place p i x)) ≡ true
unfolding changed
keep-place M p i x h g a = keep-quiet M (set_place p i x) (place-quiet p i x) h whole
  where
    whole : p < PACKAGES → package_sound (issued M) (changed (package_of M p) (set_place p i x)) ≡ true
    whole l = placed-whole M p i x h l (g l) (a l)

-- Something inside a living object, which keeps its serial.
pub place-sound : (M : Machine) (p i : ℕ) → sound M ≡ true → p < PACKAGES → place_sound (issued M) (last_of M p) (get_or (places_of M p) i empty) ≡ true
unfolding last_of places_of place_sound
place-sound M p i h l = every-or (place_sound (issued M) (last_of M p)) (places_of M p) i empty (sound-package M h p l).each-place refl

same-alone : (M : Machine) (p i : ℕ) (x : Place) → sound M ≡ true → p < PACKAGES → serial_of x ≡ serial_of (get_or (places_of M p) i empty) → Alone M p i x
unfolding places_of
same-alone M p i x h l e = rw (map-set_same serial_of (places_of M p) i x empty e) (sound-package M h p l).apart

-- the changed place is sound, and has its serial
pub record Refit (known : ObjectNumber → Bool) (last : ℕ) (x y : Place) : Type 0 where
  pub fits : place_sound known last y ≡ true
  pub same : serial_of y ≡ serial_of x

refit-whole : (M : Machine) (p i : ℕ) (y : Place) → sound M ≡ true → p < PACKAGES → Refit (issued M) (last_of M p) (inside M p i) y → package_sound (issued M) (placed i y (package_of M p)) ≡ true
refit-whole M p i y h l r = placed-whole M p i y h l r.fits (same-alone M p i y h l r.same)

module _ (known : ObjectNumber → Bool) (last : ℕ) where
  entry-refit : (j : ℕ) (e : Entry) (x : Place) → place_sound known last x ≡ true → entry_sound known e ≡ true → distinct (entry_names (set (entries_of x) j e)) ≡ true → Refit known last x (with_entry j e x)
  unfolding with_entry place_sound body_sound entries_of serial_of
  entry-refit j e empty h g d = record { fits = h; same = refl }
  entry-refit j e (holding s (segment ws)) h g d = record { fits = h; same = refl }
  entry-refit j e (holding s (directory m es)) h g d =
      let p = and_parts (ltb 0 s && leb s last) _ h in
      let q = and_parts (is_permits m) _ p.1 in
      let r = and_parts (is_many 16 es) _ q.1 in
      let u = and_parts (every (entry_sound known) es) _ r.1 in
      record {
        fits = and_both p.0 (and_both q.0 (and_both (many-set 16 es j e r.0) (and_both (every_set (entry_sound known) es j e u.0 g) d)));
        same = refl;
      }
  entry-refit j e (holding s type) h g d = record { fits = h; same = refl }
  entry-refit j e (holding s (extended o m cs)) h g d = record { fits = h; same = refl }

  inner-refit : (j : ℕ) (c : Capability) (x : Place) → place_sound known last x ≡ true → capability_sound known c ≡ true → Refit known last x (with_inner j c x)
  unfolding with_inner place_sound body_sound serial_of
  inner-refit j c empty h g = record { fits = h; same = refl }
  inner-refit j c (holding s (segment ws)) h g = record { fits = h; same = refl }
  inner-refit j c (holding s (directory m es)) h g = record { fits = h; same = refl }
  inner-refit j c (holding s type) h g = record { fits = h; same = refl }
  inner-refit j c (holding s (extended o m cs)) h g =
      let p = and_parts (ltb 0 s && leb s last) _ h in
      let q = and_parts (known o) _ p.1 in
      let r = and_parts (is_permits m) _ q.1 in
      let u = and_parts (is_many 4 cs) _ r.1 in
      record {
        fits = and_both p.0 (and_both q.0 (and_both r.0 (and_both (many-set 4 cs j c u.0) (every_set (capability_sound known) cs j c u.1 g))));
        same = refl;
      }

  word-refit : (j w : ℕ) (x : Place) → place_sound known last x ≡ true → is_number w ≡ true → Refit known last x (with_word j w x)
  unfolding with_word place_sound body_sound serial_of
  word-refit j w empty h g = record { fits = h; same = refl }
  word-refit j w (holding s (segment ws)) h g =
      let p = and_parts (ltb 0 s && leb s last) _ h in
      let q = and_parts (is_many 32 ws) _ p.1 in
      record {
        fits = and_both p.0 (and_both (many-set 32 ws j w q.0) (every_set is_number ws j w q.1 g));
        same = refl;
      }
  word-refit j w (holding s (directory m es)) h g = record { fits = h; same = refl }
  word-refit j w (holding s type) h g = record { fits = h; same = refl }
  word-refit j w (holding s (extended o m cs)) h g = record { fits = h; same = refl }

pub entry-quiet : (p i j : ℕ) (e : Entry) → Quiet (set_entry p i j e)
unfolding changed
entry-quiet p i j e P = refl

pub keep-entry : (M : Machine) (p i j : ℕ) (e : Entry) → sound M ≡ true → entry_sound (issued M) e ≡ true → distinct (entry_names (set (entries_of (inside M p i)) j e)) ≡ true → sound (apply M (set_entry p i j e)) ≡ true
unfolding changed places_of
keep-entry M p i j e h g d =
    keep-quiet M (set_entry p i j e) (entry-quiet p i j e) h
    (λ l. refit-whole M p i (with_entry j e (inside M p i)) h l (entry-refit (issued M) (last_of M p) j e (inside M p i) (place-sound M p i h l) g d))

pub inner-quiet : (p i j : ℕ) (c : Capability) → Quiet (set_inner p i j c)
unfolding changed
inner-quiet p i j c P = refl

pub keep-inner : (M : Machine) (p i j : ℕ) (c : Capability) → sound M ≡ true → capability_sound (issued M) c ≡ true → sound (apply M (set_inner p i j c)) ≡ true
unfolding changed places_of
keep-inner M p i j c h g =
    keep-quiet M (set_inner p i j c) (inner-quiet p i j c) h
    (λ l. refit-whole M p i (with_inner j c (inside M p i)) h l (inner-refit (issued M) (last_of M p) j c (inside M p i) (place-sound M p i h l) g))

pub word-quiet : (p i j w : ℕ) → Quiet (set_word p i j w)
unfolding changed
word-quiet p i j w P = refl

pub keep_word : (M : Machine) (p i j w : ℕ) → sound M ≡ true → is_number w ≡ true → sound (apply M (set_word p i j w)) ≡ true
unfolding changed places_of
keep_word M p i j w h g =
    keep-quiet M (set_word p i j w) (word-quiet p i j w) h
    (λ l. refit-whole M p i (with_word j w (inside M p i)) h l (word-refit (issued M) (last_of M p) j w (inside M p i) (place-sound M p i h l) g))
