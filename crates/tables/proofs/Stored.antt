-- A change stored in the numbers of a sound machine gives the numbers of the machine after the change.
-- Assumes nothing.
use Prim.Native.Nat.{ℕ, suc, ◌+◌, ◌*◌, ◌<◌, ◌≤◌}
use native.Mathlib.Omega.{arith}
use mathlib.Core.Path.{◌≡◌, refl, sym, subst, ◌∙◌}
use mathlib.Core.Bool.{true, ◌&&◌}
use mathlib.Core.List.{List, [], ◌∷◌, ◌++◌}
use lib.ListN.{length, get_or, set, replicate}
use lib.Seq.{sets}
use lib.Dec.{ltb, leb}
use Rattle.things.specs.declared.Capability.{Capability}
use Rattle.things.specs.Lists.{every, flat}
use Rattle.things.specs.Rights.{null}
use Rattle.things.proofs.ListLaws.{and_parts}
use Rattle.rules.specs.Machine.{PACKAGES, SLOTS, PLACES, ENTRIES, WORDS, INNERS, SEGMENT, DIRECTORY, EXTENDED, Entry, no_entry, segment, directory, type, extended, Place, empty, holding, Package, Machine, nobody, package_of, last_of, places_of, kind_of}
use Rattle.rules.specs.Sound.{issued, is_many, is_permits, capability_sound, entry_sound, body_sound, place_sound, package_sound, sound}
use Rattle.rules.specs.Changes.{set_last, set_slot, set_place, set_entry, set_inner, set_word, with_entry, with_inner, with_word, slotted, placed, changed, apply}
use Rattle.rules.proofs.Parts.{sound-eight, sound-each, sound-package}
use Rattle.rules.proofs.Keep.{inside, place-sound}
use Rattle.tables.specs.Layout.{capability_size, entry_size, head_size, place_size, slots_size, block_size, capability_numbers, entry_numbers, inside_numbers, place_numbers, package_numbers, numbers}
use Rattle.tables.specs.Positions.{last_pos, slot_pos, place_pos, entry_pos, inner_pos, store}
use Rattle.tables.proofs.Blocks.{flat-length}
use Rattle.tables.proofs.RoundTrip.{many, capability-wide, entry-wide, place-wide, package-wide}
use Rattle.tables.proofs.At.{sets-append-left, sets-append-right, sets-whole, flat-put}
use Rattle.tables.proofs.Seen.{slots_length, other}

sets-cons : {A : Type 0} (vs : List A) (x : A) (l : List A) (n : ℕ) → sets (x ∷ l) (suc n) vs ≡ x ∷ sets l n vs
sets-cons [] x l n = refl
sets-cons (v ∷ vs) x l n = sets-cons vs x (set l n v) (suc n)

-- Five numbers of a head, and what follows.
sets-head : (vs : List ℕ) (a b c d e : ℕ) (l : List ℕ) (n : ℕ) → sets (a ∷ b ∷ c ∷ d ∷ e ∷ l) (head_size + n) vs ≡ a ∷ b ∷ c ∷ d ∷ e ∷ sets l n vs
sets-head vs a b c d e l n =
    let q : head_size + n ≡ suc (suc (suc (suc (suc n)))) = omega arith in
    rw (q, sets-cons vs a (b ∷ c ∷ d ∷ e ∷ l) (suc (suc (suc (suc n)))), sets-cons vs b (c ∷ d ∷ e ∷ l) (suc (suc (suc n))), sets-cons vs c (d ∷ e ∷ l) (suc (suc n)), sets-cons vs d (e ∷ l) (suc n), sets-cons vs e l n)

module _ (M : Machine) (h : sound M ≡ true) (p : ℕ) (l : p < PACKAGES) where
  abbrev P : Package
  P = package_of M p

  package-put : (Q : Package) (k : ℕ) (vs : List ℕ) → package_numbers Q ≡ sets (package_numbers P) k vs → k + length vs ≤ block_size → numbers (set M p Q) ≡ sets (numbers M) (block_size * p + k) vs
  unfolding numbers package_of
  package-put Q k vs e g = flat-put package_numbers (package_sound (issued M)) block_size (package-wide (issued M)) M nobody p k vs Q (sound-each M h) (rw (sound-eight M h) l) e g

  slotted-put : (i : ℕ) (c : Capability) → i < SLOTS → package_numbers (slotted i c P) ≡ sets (package_numbers P) (suc (capability_size * i + 0)) (capability_numbers c)
  unfolding package_numbers capability_numbers
  slotted-put i c g =
      let s = sound-package M h p l in
      let f = flat capability_numbers P.slots in
      let r = flat place_numbers P.places in
      let u : flat capability_numbers (set P.slots i c) ≡ sets f (capability_size * i + 0) (capability_numbers c) =
      flat-put capability_numbers (capability_sound (issued M)) capability_size (capability-wide (issued M)) P.slots null i 0 (capability_numbers c) c s.each-slot (rw s.slots g)
      (sym (sets-whole (capability_numbers c) (capability_numbers (get_or P.slots i null)) refl)) (omega arith) in
      rw (u, sets-cons (capability_numbers c) P.last (f ++ r) (capability_size * i + 0), sets-append-left (capability_numbers c) f r (capability_size * i + 0) (rw (slots_length M h p l) (omega arith)))

  placed-put : (i : ℕ) (y : Place) (k : ℕ) (vs : List ℕ) → i < PLACES → place_numbers y ≡ sets (place_numbers (inside M p i)) k vs → k + length vs ≤ place_size → package_numbers (placed i y P) ≡ sets (package_numbers P) (suc (slots_size + (place_size * i + k))) vs
  unfolding package_numbers places_of
  placed-put i y k vs g e w =
      let s = sound-package M h p l in
      let f = flat capability_numbers P.slots in
      let r = flat place_numbers P.places in
      let u : flat place_numbers (set P.places i y) ≡ sets r (place_size * i + k) vs =
      flat-put place_numbers (place_sound (issued M) P.last) place_size (place-wide (issued M) P.last) P.places empty i k vs y s.each-place (rw s.places g) e w in
      let v : sets (f ++ r) (slots_size + (place_size * i + k)) vs ≡ f ++ sets r (place_size * i + k) vs =
      subst (λ (n : ℕ). sets (f ++ r) (n + (place_size * i + k)) vs ≡ f ++ sets r (place_size * i + k) vs) (slots_length M h p l) (sets-append-right vs f r (place_size * i + k)) in
      rw (u, sets-cons vs P.last (f ++ r) (slots_size + (place_size * i + k)), v)

  inside-put : (i : ℕ) (y : Place) (k : ℕ) (vs : List ℕ) → i < PLACES → place_numbers y ≡ sets (place_numbers (inside M p i)) k vs → k + length vs ≤ place_size → numbers (set M p (placed i y P)) ≡ sets (numbers M) (place_pos p i + k) vs
  inside-put i y k vs g e w =
      let q : place_pos p i + k ≡ block_size * p + suc (slots_size + (place_size * i + k)) = omega arith in
      rw q (package-put (placed i y P) (suc (slots_size + (place_size * i + k))) vs (placed-put i y k vs g e w) (omega arith))

  -- Each kind of change.
  pub last_stored : (n : ℕ) → store (numbers M) (set_last p n) ≡ numbers (apply M (set_last p n))
  unfolding store apply changed package_numbers
  last_stored n =
      let q : last_pos p ≡ block_size * p + 0 = omega arith in
      rw q (sym (package-put (changed P (set_last p n)) 0 (n ∷ []) refl (omega arith)))

  pub slot-stored : (i : ℕ) (c : Capability) → i < SLOTS → store (numbers M) (set_slot p i c) ≡ numbers (apply M (set_slot p i c))
  unfolding store apply changed capability_numbers
  slot-stored i c g =
      let q : slot_pos p i ≡ block_size * p + suc (capability_size * i + 0) = omega arith in
      rw q (sym (package-put (slotted i c P) (suc (capability_size * i + 0)) (capability_numbers c) (slotted-put i c g) (omega arith)))

  pub place-stored : (i : ℕ) (x : Place) → i < PLACES → length (place_numbers x) ≡ place_size → store (numbers M) (set_place p i x) ≡ numbers (apply M (set_place p i x))
  unfolding store apply changed
  place-stored i x g w =
      let q : place_pos p i ≡ place_pos p i + 0 = omega arith in
      let o : length (place_numbers (inside M p i)) ≡ length (place_numbers x) = place-wide (issued M) (last_of M p) (inside M p i) (place-sound M p i h l) ∙ sym w in
      rw q (sym (inside-put i x 0 (place_numbers x) g (sym (sets-whole (place_numbers x) (place_numbers (inside M p i)) o)) (rw w (omega arith))))

  with-entry-put : (j : ℕ) (e : Entry) → j < ENTRIES → (x : Place) → place_sound (issued M) (last_of M p) x ≡ true → kind_of x ≡ DIRECTORY → place_numbers (with_entry j e x) ≡ sets (place_numbers x) (head_size + (entry_size * j + 0)) (entry_numbers e)
  unfolding place_sound body_sound place_numbers inside_numbers kind_of with_entry entry_numbers capability_numbers
  with-entry-put j e g empty s d = other 0 2 refl d
  with-entry-put j e g (holding n (segment ws)) s d = other 1 2 refl d
  with-entry-put j e g (holding n (directory m es)) s d =
      let a = and_parts (ltb 0 n && leb n (last_of M p)) _ s in
      let q = and_parts (is_permits m) _ a.1 in
      let r = and_parts (is_many ENTRIES es) _ q.1 in
      let u = and_parts (every (entry_sound (issued M)) es) _ r.1 in
      let v : flat entry_numbers (set es j e) ≡ sets (flat entry_numbers es) (entry_size * j + 0) (entry_numbers e) =
      flat-put entry_numbers (entry_sound (issued M)) entry_size (entry-wide (issued M)) es no_entry j 0 (entry_numbers e) e u.0 (rw (many ENTRIES es r.0) g)
      (sym (sets-whole (entry_numbers e) (entry_numbers (get_or es j no_entry)) refl)) (omega arith) in
      rw (v, sets-head (entry_numbers e) 2 n m 0 0 (flat entry_numbers es) (entry_size * j + 0))
  with-entry-put j e g (holding n type) s d = other 3 2 refl d
  with-entry-put j e g (holding n (extended o m cs)) s d = other 4 2 refl d

  pub entry-stored : (i j : ℕ) (e : Entry) → i < PLACES → j < ENTRIES → kind_of (inside M p i) ≡ DIRECTORY → store (numbers M) (set_entry p i j e) ≡ numbers (apply M (set_entry p i j e))
  unfolding store apply changed places_of entry_numbers capability_numbers
  entry-stored i j e g f d =
      let q : entry_pos p i j ≡ place_pos p i + (head_size + (entry_size * j + 0)) = omega arith in
      rw q (sym (inside-put i (with_entry j e (inside M p i)) (head_size + (entry_size * j + 0)) (entry_numbers e) g (with-entry-put j e f (inside M p i) (place-sound M p i h l) d) (omega arith)))

  with-word-put : (j w : ℕ) → j < WORDS → (x : Place) → place_sound (issued M) (last_of M p) x ≡ true → kind_of x ≡ SEGMENT → place_numbers (with_word j w x) ≡ sets (place_numbers x) (head_size + j) (w ∷ [])
  unfolding place_sound body_sound place_numbers inside_numbers kind_of with_word
  with-word-put j w g empty s d = other 0 1 refl d
  with-word-put j w g (holding n (segment ws)) s d =
      let a = and_parts (ltb 0 n && leb n (last_of M p)) _ s in
      let q = and_parts (is_many WORDS ws) _ a.1 in
      let z : List ℕ = replicate 48 0 in
      rw (sets-head (w ∷ []) 1 n 0 0 0 (ws ++ z) j, sets-append-left (w ∷ []) ws z j (rw (many WORDS ws q.0) (omega arith)))
  with-word-put j w g (holding n (directory m es)) s d = other 2 1 refl d
  with-word-put j w g (holding n type) s d = other 3 1 refl d
  with-word-put j w g (holding n (extended o m cs)) s d = other 4 1 refl d

  pub word-stored : (i j w : ℕ) → i < PLACES → j < WORDS → kind_of (inside M p i) ≡ SEGMENT → store (numbers M) (set_word p i j w) ≡ numbers (apply M (set_word p i j w))
  unfolding store apply changed places_of
  word-stored i j w g f d = sym (inside-put i (with_word j w (inside M p i)) (head_size + j) (w ∷ []) g (with-word-put j w f (inside M p i) (place-sound M p i h l) d) (omega arith))

  with-inner-put : (j : ℕ) (c : Capability) → j < INNERS → (x : Place) → place_sound (issued M) (last_of M p) x ≡ true → kind_of x ≡ EXTENDED → place_numbers (with_inner j c x) ≡ sets (place_numbers x) (head_size + (capability_size * j + 0)) (capability_numbers c)
  unfolding place_sound body_sound place_numbers inside_numbers kind_of with_inner capability_numbers
  with-inner-put j c g empty s d = other 0 4 refl d
  with-inner-put j c g (holding n (segment ws)) s d = other 1 4 refl d
  with-inner-put j c g (holding n (directory m es)) s d = other 2 4 refl d
  with-inner-put j c g (holding n type) s d = other 3 4 refl d
  with-inner-put j c g (holding n (extended o m cs)) s d =
      let a = and_parts (ltb 0 n && leb n (last_of M p)) _ s in
      let q = and_parts (issued M o) _ a.1 in
      let r = and_parts (is_permits m) _ q.1 in
      let u = and_parts (is_many INNERS cs) (every (capability_sound (issued M)) cs) r.1 in
      let k = many INNERS cs u.0 in
      let z : List ℕ = replicate 68 0 in
      let f = flat capability_numbers cs in
      let b : length f ≡ INNERS * capability_size = flat-length capability_numbers (capability_sound (issued M)) capability_size (capability-wide (issued M)) cs u.1 ∙ rw k in
      let v : flat capability_numbers (set cs j c) ≡ sets f (capability_size * j + 0) (capability_numbers c) =
      flat-put capability_numbers (capability_sound (issued M)) capability_size (capability-wide (issued M)) cs null j 0 (capability_numbers c) c u.1 (rw k g)
      (sym (sets-whole (capability_numbers c) (capability_numbers (get_or cs j null)) refl)) (omega arith) in
      rw (v, sets-head (capability_numbers c) 4 n m o.0 o.1 (f ++ z) (capability_size * j + 0), sets-append-left (capability_numbers c) f z (capability_size * j + 0) (rw b (omega arith)))

  pub inner-stored : (i j : ℕ) (c : Capability) → i < PLACES → j < INNERS → kind_of (inside M p i) ≡ EXTENDED → store (numbers M) (set_inner p i j c) ≡ numbers (apply M (set_inner p i j c))
  unfolding store apply changed places_of capability_numbers
  inner-stored i j c g f d =
      let q : inner_pos p i j ≡ place_pos p i + (head_size + (capability_size * j + 0)) = omega arith in
      rw q (sym (inside-put i (with_inner j c (inside M p i)) (head_size + (capability_size * j + 0)) (capability_numbers c) g (with-inner-put j c f (inside M p i) (place-sound M p i h l) d) (omega arith)))
