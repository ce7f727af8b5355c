-- Every call keeps a sound machine sound.
-- Assumes nothing.
use Prim.Native.Nat.{ℕ, zero, suc, ◌+◌, ◌<◌}
use native.Mathlib.Omega.{arith}
use mathlib.Core.Path.{◌≡◌, refl, ap, ◌∙◌}
use mathlib.Core.Bool.{Bool, true, false, ◌&&◌}
use mathlib.Core.List.{List, [], ◌∷◌}
use lib.ListN.{length, replicate}
use lib.Seq.{map-set_same}
use lib.Dec.{eqb, ltb, leb}
use borrow.Author.Tests.{eqb-false, ltb-true, lt-ltb, leb-true, le-leb}
use Rattle.things.specs.declared.ObjectNumber.{ObjectNumber}
use Rattle.things.specs.declared.Refusal.{Refusal}
use Rattle.things.specs.Lists.{every, some, distinct, up_from}
use Rattle.things.specs.Rights.{null, is_null, made_rights}
use Rattle.things.proofs.ListLaws.{and_parts, and_both, every-or, every-mono, every_map, set-any, map-set, distinct-zero, distinct-new, above-none}
use Rattle.rules.specs.Machine.{PACKAGES, NUMBERS, LAST_SERIAL, Entry, no_entry, Body, segment, directory, type, extended, Place, empty, holding, Package, Machine, nobody, package_of, last_of, slot_of, places_of, serial_of, words_of, entries_of, inners_of, living, place_of, empty_place, empty_entry, entry_of, has_entry, empty_directory}
use Rattle.rules.specs.Sound.{issued, is_number, names, serials, capability_sound, entry_sound, body_sound, place_sound, sound}
use Rattle.rules.specs.Changes.{Change, set_last, set_place, set_entry, with_entry, place_at, changed, apply, apply_all}
use Rattle.rules.specs.Checks.{Result, refused, done, after}
use Rattle.rules.specs.Calls
use Rattle.rules.specs.Calls.{named, opened, next_serial, made, making, make, listed, listed_object, word_at, copied, entry}
use Rattle.rules.specs.Step.{Call, SixteenBit, rows, Permits, in_range, step, run}
use Rattle.rules.proofs.Parts.{sound-eight, sound-package, Grows, issued-grows, body_more}
use Rattle.rules.proofs.Keep.{keep-last, keep-slot, keep-place, keep-entry, keep-inner, keep_word, Alone, quiet-last, quiet-issued, entry-quiet, place-quiet, last-grows}
use Rattle.rules.proofs.Inside.{null-sound, sound-names, names-sound, restricted-sound, slot-sound, living-sound, none-sound, entry-sound, entry-named-sound, apart-removed, apart-added}
use Rattle.rules.proofs.Decide.{Each, RowHas, on-unless, on_step, by-package, package-in, name_in}

-- What changes leave alone.
pub last-places : (M : Machine) (p n q : ℕ) → places_of (apply M (set_last p n)) q ≡ places_of M q
unfolding places_of package_of apply changed
last-places M p n q = set-any (λ (P : Package). P.places ≡ places_of M q) M p q (changed (package_of M p) (set_last p n)) nobody (λ e. rw e) refl

pub last-is : (M : Machine) (p n : ℕ) → p < length M → last_of (apply M (set_last p n)) p ≡ n
unfolding last_of package_of apply changed
last-is M p n l = ap (λ (P : Package). P.last) (lib.Seq.get_or-set_same M p (changed (package_of M p) (set_last p n)) nobody l)

with-serial : (j : ℕ) (e : Entry) (x : Place) → serial_of (with_entry j e x) ≡ serial_of x
unfolding with_entry serial_of
with-serial j e empty = refl
with-serial j e (holding s (segment ws)) = refl
with-serial j e (holding s (directory m es)) = refl
with-serial j e (holding s type) = refl
with-serial j e (holding s (extended o m cs)) = refl

pub entry-serials : (M : Machine) (p i j : ℕ) (e : Entry) (q : ℕ) → serials (places_of (apply M (set_entry p i j e)) q) ≡ serials (places_of M q)
unfolding places_of package_of apply changed
entry-serials M p i j e q =
    set-any (λ (P : Package). serials P.places ≡ serials (places_of M q)) M p q (changed (package_of M p) (set_entry p i j e)) nobody
    (λ u. rw u (map-set_same serial_of (package_of M p).places i (with_entry j e (place_at (package_of M p) i)) empty (with-serial j e (place_at (package_of M p) i)))) refl

-- Serials in places are issued ones, so the next serial is none of them.
serial-low : (known : ObjectNumber → Bool) (last : ℕ) (x : Place) → place_sound known last x ≡ true → ltb (serial_of x) (last + 1) ≡ true
unfolding place_sound serial_of
serial-low known last empty h = lt-ltb 0 (last + 1) (omega arith)
serial-low known last (holding s b) h =
    let p = and_parts (ltb 0 s && leb s last) _ h in
    let q = and_parts (ltb 0 s) (leb s last) p.0 in
    lt-ltb s (last + 1) (let u = leb-true s last q.1 in omega arith)

serials-below : (M : Machine) (p : ℕ) → sound M ≡ true → p < PACKAGES → some (eqb (last_of M p + 1)) (serials (places_of M p)) ≡ false
unfolding last_of places_of
serials-below M p h l =
    let P = package_of M p in
    above-none (serials P.places) (P.last + 1)
    (every_map serial_of (λ n. ltb n (P.last + 1)) P.places
    ∙ every-mono (place_sound (issued M) P.last) (λ x. ltb (serial_of x) (P.last + 1)) P.places (serial-low (issued M) P.last) (sound-package M h p l).each-place)

places-apart : (M : Machine) (p : ℕ) → sound M ≡ true → p < PACKAGES → distinct (serials (places_of M p)) ≡ true
unfolding places_of
places-apart M p h l = (sound-package M h p l).apart

-- A machine stays sound along a list of changes.
abbrev pub SoundAlong : Machine → List Change → Type 0
SoundAlong M [] = sound M ≡ true
SoundAlong M (x ∷ xs) = (sound M ≡ true) × SoundAlong (apply M x) xs

abbrev pub changes_of : Result → List Change
changes_of (refused why) = []
changes_of (done value xs) = xs

-- A make's four changes, one after another.
module _ (M : Machine) (h : sound M ≡ true) (p : ℕ) (l : p < PACKAGES) (body : Body) (a b s d : ℕ) where
  abbrev n : ℕ
  n = next_serial M p

  abbrev M1 : Machine
  M1 = apply M (set_last p n)

  abbrev new : Entry
  new = entry b (made M p s) true

  abbrev q : ℕ
  q = (named M p a).0

  abbrev i : ℕ
  i = place_of M (named M p a)

  abbrev j : ℕ
  j = empty_entry (opened M p a)

  abbrev M2 : Machine
  M2 = apply M1 (set_entry q i j new)

  abbrev M3 : Machine
  M3 = apply M2 (set_place p (empty_place M p) (holding n body))

  last_one : last_of M1 p ≡ n
  last_one = last-is M p n (rw (sound-eight M h) l)

  unspent : eqb (last_of M p) LAST_SERIAL ≡ false → n < NUMBERS
  unfolding next_serial last_of is_number
  unspent e =
      let u = ltb-true (last_of M p) NUMBERS (sound-package M h p l).number in
      let v = eqb-false (last_of M p) LAST_SERIAL e in
      omega (arith, v)

  grows_one : Grows M M1
  unfolding next_serial
  grows_one = last-grows M p n (omega arith)

  sound-one : n < NUMBERS → sound M1 ≡ true
  unfolding next_serial
  sound-one u = keep-last M p n h (omega arith) u

  -- the new object's number is issued
  made-names : names (issued M1) (made M p s) ≡ true
  unfolding made issued next_serial
  made-names =
      let u : ltb p PACKAGES ≡ true = lt-ltb p PACKAGES l in
      let v : ltb 0 n ≡ true = lt-ltb 0 n (omega arith) in
      let w : leb n (last_of M1 p) ≡ true = rw last_one (le-leb n n (omega arith)) in
      let r : ltb (made_rights s) 256 ≡ true = lt-ltb (made_rights s) 256 (omega arith) in
      and_both (and_both u (and_both v w)) r

  sound-two : n < NUMBERS → 0 < b → b < NUMBERS → has_entry (opened M p a) b ≡ false → sound M2 ≡ true
  unfolding opened living
  sound-two u z bl f =
      keep-entry M1 q i j new (sound-one u) (entry-sound (issued M1) b (made M p s) true z bl made-names)
      (rw (last-places M p n q) (apart-added (opened M p a) j b new refl (living-sound M (named M p a) h).apart f))

  last-two : (r : ℕ) → last_of M2 r ≡ last_of M1 r
  last-two r = quiet-last M1 (set_entry q i j new) (entry-quiet q i j new) r

  issued-two : issued M2 ≡ issued M1
  issued-two = quiet-issued M1 (set_entry q i j new) (entry-quiet q i j new)

  alone-new : Alone M2 p (empty_place M p) (holding n body)
  unfolding next_serial serial_of
  alone-new =
      rw (map-set serial_of (places_of M2 p) (empty_place M p) (holding n body), entry-serials M1 q i j new p, last-places M p n p)
      (distinct-new (serials (places_of M p)) (empty_place M p) n (places-apart M p h l) (serials-below M p h l))

  new-sound : body_sound (issued M) body ≡ true → place_sound (issued M2) (last_of M2 p) (holding n body) ≡ true
  unfolding place_sound next_serial
  new-sound g =
      let v : ltb 0 n ≡ true = lt-ltb 0 n (omega arith) in
      let w : leb n (last_of M2 p) ≡ true = rw (last-two p, last_one) (le-leb n n (omega arith)) in
      let k : body_sound (issued M2) body ≡ true = rw issued-two (body_more (issued M) (issued M1) (issued-grows M M1 grows_one) body g) in
      and_both (and_both v w) k

  -- every machine on the way is sound
  pub making-along : eqb (last_of M p) LAST_SERIAL ≡ false → 0 < b → b < NUMBERS → has_entry (opened M p a) b ≡ false → body_sound (issued M) body ≡ true → SoundAlong M (changes_of (making M p body a b s d))
  unfolding making
  making-along e z bl f g =
      let one = sound-one (unspent e) in
      let two = sound-two (unspent e) z bl f in
      let three = keep-place M2 p (empty_place M p) (holding n body) two (λ _. new-sound g) (λ _. alone-new) in
      let k : issued M3 ≡ issued M1 = quiet-issued M2 (set_place p (empty_place M p) (holding n body)) (place-quiet p (empty_place M p) (holding n body)) ∙ issued-two in
      (h, (one, (two, (three, keep-slot M3 p d (made M p s) three (rw k (names-sound (issued M1) (made M p s) made-names))))))

  pub making-keeps : eqb (last_of M p) LAST_SERIAL ≡ false → 0 < b → b < NUMBERS → has_entry (opened M p a) b ≡ false → body_sound (issued M) body ≡ true → sound (after M (making M p body a b s d)) ≡ true
  unfolding making apply_all
  making-keeps e z bl f g = (making-along e z bl f g).1.1.1.1

-- The new bodies are sound.
pub segment-new : (known : ObjectNumber → Bool) → body_sound known (segment (replicate 32 0)) ≡ true
unfolding body_sound every is_number
segment-new known = refl

pub directory-new : (known : ObjectNumber → Bool) (m : ℕ) → ltb m 4 ≡ true → body_sound known (empty_directory m) ≡ true
unfolding body_sound every entry_sound is_null distinct some
directory-new known m h = rw h

pub type-new : (known : ObjectNumber → Bool) → body_sound known type ≡ true
unfolding body_sound
type-new known = refl

pub extended-new : (known : ObjectNumber → Bool) (o : ObjectNumber) (m : ℕ) → known o ≡ true → ltb m 4 ≡ true → body_sound known (extended o m (replicate 4 null)) ≡ true
unfolding body_sound every capability_sound is_null
extended-new known o m g h = rw (g, h)

module _ (M : Machine) (h : sound M ≡ true) (p a b c d e : ℕ) where
  abbrev Kept : Result → Type 0
  Kept r = sound (after M r) ≡ true

  spared : (why : Refusal) → Kept (refused why)
  spared why = h

  restrict-keeps : p < PACKAGES → Kept (Calls.restrict M p a b c d e)
  unfolding Calls.restrict apply_all
  restrict-keeps l = keep-slot M p c _ h (restricted-sound (issued M) (slot_of M p a) b (slot-sound M p a h l))

  drop_keeps : Kept (Calls.drop M p a b c d e)
  unfolding Calls.drop apply_all
  drop_keeps = keep-slot M p a null h (null-sound (issued M))

  hand-keeps : a < PACKAGES → Kept (Calls.hand M p a b c d e)
  unfolding Calls.hand apply_all
  hand-keeps l = on-unless Kept spared _ _ (λ f. keep-slot M c d _ h (slot-sound M a b h l))

  make-keeps : (body : Body) → p < PACKAGES → 0 < b → b < NUMBERS → body_sound (issued M) body ≡ true → Kept (make body M p a b c d)
  unfolding make
  make-keeps body l z bl g =
      on-unless Kept spared _ _ (λ f. making-keeps M h p l body a b c d f.1.1.1.1.1.1.1.1.0 z bl f.1.1.1.1.0 g)

  make-object-keeps : p < PACKAGES → 0 < b → b < NUMBERS → ltb e 4 ≡ true → Kept (Calls.make_object M p a b c d e)
  unfolding Calls.make_object named
  make-object-keeps l z bl g =
      on-unless Kept spared _ _ (λ f.
      let k = and_parts (issued M (slot_of M p c).object) _ (sound-names (issued M) (slot_of M p c) (slot-sound M p c h l) f.1.1.1.1.0) in
      making-keeps M h p l _ a b e d f.1.1.1.1.1.1.1.1.1.1.1.1.0 z bl f.1.1.1.1.1.1.1.1.0 (extended-new (issued M) (slot_of M p c).object e k.0 g))

  -- an entry removed from the directory that slot a names
  removed-sound : sound (apply M (Calls.remove_entry M p a b)) ≡ true
  unfolding opened living
  removed-sound =
      keep-entry M (named M p a).0 (place_of M (named M p a)) (entry_of (opened M p a) b) no_entry h (none-sound (issued M))
      (apart-removed (entries_of (opened M p a)) _ (living-sound M (named M p a) h).apart)

  delete-keeps : Kept (Calls.delete M p a b c d e)
  unfolding Calls.delete apply_all place_sound serial_of
  delete-keeps =
      on-unless Kept spared _ _ (λ f.
      keep-place (apply M (Calls.remove_entry M p a b)) (listed_object M p a b).0 (place_of M (listed_object M p a b)) empty removed-sound (λ _. refl)
      (λ l. rw (map-set serial_of (places_of (apply M (Calls.remove_entry M p a b)) (listed_object M p a b).0) (place_of M (listed_object M p a b)) empty)
      (distinct-zero (serials (places_of (apply M (Calls.remove_entry M p a b)) (listed_object M p a b).0)) _ (places-apart (apply M (Calls.remove_entry M p a b)) (listed_object M p a b).0 removed-sound l))))

  add-entry-keeps : p < PACKAGES → 0 < b → b < NUMBERS → Kept (Calls.add_entry M p a b c d e)
  unfolding Calls.add_entry apply_all opened living
  add-entry-keeps l z bl =
      on-unless Kept spared _ _ (λ f.
      keep-entry M (named M p a).0 (place_of M (named M p a)) (empty_entry (opened M p a)) (entry b (slot_of M p c) false) h
      (entry-sound (issued M) b (slot_of M p c) false z bl (sound-names (issued M) (slot_of M p c) (slot-sound M p c h l) f.1.1.1.1.0))
      (apart-added (opened M p a) _ b _ refl (living-sound M (named M p a) h).apart f.1.1.1.1.1.0))

  drop-entry-keeps : Kept (Calls.drop_entry M p a b c d e)
  unfolding Calls.drop_entry apply_all
  drop-entry-keeps = on-unless Kept spared _ _ (λ f. removed-sound)

  fetch-keeps : Kept (Calls.fetch M p a b c d e)
  unfolding Calls.fetch apply_all listed opened
  fetch-keeps = on-unless Kept spared _ _ (λ f. keep-slot M p c _ h (entry-named-sound M (named M p a) b h))

  read_keeps : Kept (Calls.read M p a b c d e)
  unfolding Calls.read apply_all
  read_keeps = on-unless Kept spared _ _ (λ f. h)

  write_keeps : c < NUMBERS → Kept (Calls.write M p a b c d e)
  unfolding Calls.write apply_all is_number
  write_keeps l = on-unless Kept spared _ _ (λ f. keep_word M _ _ b c h (lt-ltb c NUMBERS l))

  word_number : (k : ℕ) → is_number (word_at M p a k) ≡ true
  unfolding word_at opened is_number
  word_number k = every-or is_number (words_of (opened M p a)) k 0 (living-sound M (named M p a) h).words refl

  copied-keeps : (n k : ℕ) (N : Machine) → sound N ≡ true → sound (apply_all N (up_from n k (copied M p a b c d))) ≡ true
  unfolding apply_all up_from copied
  copied-keeps zero k N g = g
  copied-keeps (suc n) k N g = copied-keeps n (suc k) (apply N (copied M p a b c d k)) (keep_word N _ _ (d + k) _ g (word_number (b + k)))

  copy-keeps : Kept (Calls.copy M p a b c d e)
  unfolding Calls.copy
  copy-keeps = on-unless Kept spared _ _ (λ f. copied-keeps e 0 M h)

  set-inner-keeps : p < PACKAGES → Kept (Calls.set_inner_place M p a b c d e)
  unfolding Calls.set_inner_place apply_all
  set-inner-keeps l = on-unless Kept spared _ _ (λ f. keep-inner M _ _ c _ h (slot-sound M p d h l))

  get-inner-keeps : Kept (Calls.get_inner_place M p a b c d e)
  unfolding Calls.get_inner_place apply_all opened
  get-inner-keeps =
      on-unless Kept spared _ _ (λ f.
      keep-slot M p d _ h (every-or (capability_sound (issued M)) (inners_of (opened M p b)) c null (living-sound M (named M p b) h).inners (null-sound (issued M))))

  count-keeps : Kept (Calls.count M p a b c d e)
  unfolding Calls.count apply_all
  count-keeps = on-unless Kept spared _ _ (λ f. h)

-- The rows, and every call.
abbrev Keeps : Machine → Call → Result → Type 0
Keeps M x r = SixteenBit x → sound M ≡ true → sound (after M r) ≡ true

-- what the numbers' tests say
is-permits : (n : ℕ) → in_range Permits n ≡ true → ltb n 4 ≡ true
unfolding in_range
is-permits n h = h

every-row : Each (RowHas Keeps) rows
unfolding rows RowHas Calls.make_segment Calls.make_directory Calls.make_type
every-row = (
  (λ M x g n h. h),
  (
    (λ M x g n h. restrict-keeps M h x.caller x.a x.b x.c x.d x.e (by-package x.caller g.caller)),
    (
      (λ M x g n h. drop_keeps M h x.caller x.a x.b x.c x.d x.e),
      (
        (λ M x g n h. hand-keeps M h x.caller x.a x.b x.c x.d x.e (package-in x.a g.a)),
        (
          (λ M x g n h. make-keeps M h x.caller x.a x.b x.c x.d x.e (segment (replicate 32 0)) (by-package x.caller g.caller) (name_in x.b g.b) n.b (segment-new (issued M))),
          (
            (λ M x g n h. make-keeps M h x.caller x.a x.b x.c x.d x.e (empty_directory x.c) (by-package x.caller g.caller) (name_in x.b g.b) n.b (directory-new (issued M) x.c (is-permits x.c g.c))),
            (
              (λ M x g n h. make-keeps M h x.caller x.a x.b x.c x.d x.e type (by-package x.caller g.caller) (name_in x.b g.b) n.b (type-new (issued M))),
              (
                (λ M x g n h. make-object-keeps M h x.caller x.a x.b x.c x.d x.e (by-package x.caller g.caller) (name_in x.b g.b) n.b (is-permits x.e g.e)),
                (
                  (λ M x g n h. delete-keeps M h x.caller x.a x.b x.c x.d x.e),
                  (
                    (λ M x g n h. add-entry-keeps M h x.caller x.a x.b x.c x.d x.e (by-package x.caller g.caller) (name_in x.b g.b) n.b),
                    (
                      (λ M x g n h. drop-entry-keeps M h x.caller x.a x.b x.c x.d x.e),
                      (
                        (λ M x g n h. fetch-keeps M h x.caller x.a x.b x.c x.d x.e),
                        (
                          (λ M x g n h. read_keeps M h x.caller x.a x.b x.c x.d x.e),
                          (
                            (λ M x g n h. write_keeps M h x.caller x.a x.b x.c x.d x.e n.c),
                            (
                              (λ M x g n h. copy-keeps M h x.caller x.a x.b x.c x.d x.e),
                              (
                                (λ M x g n h. set-inner-keeps M h x.caller x.a x.b x.c x.d x.e (by-package x.caller g.caller)),
                                (
                                  (λ M x g n h. get-inner-keeps M h x.caller x.a x.b x.c x.d x.e),
                                  (
                                    (λ M x g n h. count-keeps M h x.caller x.a x.b x.c x.d x.e),
                                    tt,
                                  ),
                                ),
                              ),
                            ),
                          ),
                        ),
                      ),
                    ),
                  ),
                ),
              ),
            ),
          ),
        ),
      ),
    ),
  ),
)

-- Every call on a sound machine leaves a sound machine.
pub step_keeps : (M : Machine) (x : Call) → SixteenBit x → sound M ≡ true → sound (after M (step M x)) ≡ true
step_keeps M x = on_step Keeps (λ N y why n h. h) every-row M x

abbrev pub AllSixteenBit : List Call → Type 0
AllSixteenBit [] = Unit {0}
AllSixteenBit (x ∷ xs) = SixteenBit x × AllSixteenBit xs

-- So does every run.
pub run-keeps : (M : Machine) (xs : List Call) → AllSixteenBit xs → sound M ≡ true → sound (run M xs) ≡ true
unfolding run
run-keeps M [] n h = h
run-keeps M (x ∷ xs) n h = run-keeps (after M (step M x)) xs n.1 (step_keeps M x n.0 h)
