-- Where objects live: a place holds at most one object and no two hold the same; and what a change leaves of a place.
-- Assumes nothing.
use Prim.Native.Nat.{ℕ, zero, suc, ◌≤◌, ◌<◌}
use native.Mathlib.Omega.{arith}
use mathlib.Core.Path.{◌≡◌, refl, sym, ap, subst, ◌∙◌}
use mathlib.Core.Logic.{◌⊎◌, inl, inr, ⊎_elim}
use mathlib.Core.Bool.{Bool, true, false, not, ◌&&◌, ◌||◌, or-true}
use mathlib.Core.List.{List, [], ◌∷◌}
use lib.ListN.{get_or, get_or-map}
use lib.Dec.{eqb, ltb, leb}
use borrow.Author.Tests.{eqb-true, eq-eqb, not-true, ltb-true, ltb-false, leb-true, ne_eqb}
use Rattle.things.specs.declared.ObjectNumber.{ObjectNumber}
use Rattle.things.specs.declared.Capability.{Capability}
use Rattle.things.specs.Lists.{pick, some, first, distinct}
use Rattle.things.specs.Rights.{maker, serial}
use Rattle.things.proofs.ListLaws.{and_parts, or-rest, never, set-any, first_passes}
use Rattle.rules.specs.Machine.{PACKAGES, Entry, segment, directory, type, extended, Place, empty, holding, Package, Machine, nobody, package_of, last_of, places_of, is_empty, serial_of, kind_of, holds, place_of, living}
use Rattle.rules.specs.Sound.{issued, serials, place_sound, sound}
use Rattle.rules.specs.Changes.{Change, set_last, set_slot, set_place, set_entry, set_inner, set_word, target, with_entry, with_inner, with_word, placed, place_at, changed, apply, apply_all}
use Rattle.rules.specs.Checks.{gone}
use Rattle.rules.proofs.Parts.{sound-eight, sound-package}
use Rattle.rules.proofs.Keep.{inside, place-sound}
use Rattle.rules.proofs.Inside.{no-places, holds-full}
use Rattle.rules.proofs.Decide.{Each}

-- ---- lists
module _ {A : Type 0} where
  -- The first that passes passes, or there is none and the default is read.
  first-or : (f : A → Bool) (xs : List A) (d : A) → (f (get_or xs (first f xs) d) ≡ true) ⊎ (get_or xs (first f xs) d ≡ d)
  unfolding first
  first-or f [] d = inr refl
  first-or f (x ∷ xs) d = go (f x) refl (first-or f xs d)
    where
      go : (b : Bool) → f x ≡ b → (f (get_or xs (first f xs) d) ≡ true) ⊎ (get_or xs (first f xs) d ≡ d) → (f (get_or (x ∷ xs) (pick b zero (suc (first f xs))) d) ≡ true) ⊎ (get_or (x ∷ xs) (pick b zero (suc (first f xs))) d ≡ d)
      go true e h = inl e
      go false e h = h

  -- One that passes is some.
  some_at : (f : A → Bool) (xs : List A) (i : ℕ) (d : A) → f d ≡ false → f (get_or xs i d) ≡ true → some f xs ≡ true
  unfolding some
  some_at f [] i d g h = never (sym h ∙ g)
  some_at f (x ∷ xs) zero d g h = rw h
  some_at f (x ∷ xs) (suc i) d g h = rw (some_at f xs i d g h, or-true (f x))

-- Distinct numbers that aren't zero stand in one position each.
some-eq-at : (n : ℕ) (ns : List ℕ) (i : ℕ) → (n ≡ 0 → ⊥) → get_or ns i 0 ≡ n → some (eqb n) ns ≡ true
some-eq-at n ns i z e = some_at (eqb n) ns i 0 (ne_eqb n 0 z) (eq-eqb n (get_or ns i 0) (sym e))

apart-head : (n : ℕ) (ns : List ℕ) → (n ≡ 0 → ⊥) → distinct (n ∷ ns) ≡ true → (some (eqb n) ns ≡ false) × (distinct ns ≡ true)
unfolding distinct
apart-head n ns z h =
    let p = and_parts (eqb n 0 || not (some (eqb n) ns)) (distinct ns) h in
    (not-true (some (eqb n) ns) (or-rest (eqb n 0) _ (ne_eqb n 0 z) p.0), p.1)

distinct_tail : (n : ℕ) (ns : List ℕ) → distinct (n ∷ ns) ≡ true → distinct ns ≡ true
unfolding distinct
distinct_tail n ns h = (and_parts (eqb n 0 || not (some (eqb n) ns)) (distinct ns) h).1

distinct-at : (ns : List ℕ) (i j m : ℕ) → distinct ns ≡ true → (m ≡ 0 → ⊥) → get_or ns i 0 ≡ m → get_or ns j 0 ≡ m → i ≡ j
distinct-at [] i j m h z e f = absurd (z (sym e))
distinct-at (n ∷ ns) zero zero m h z e f = refl
distinct-at (n ∷ ns) zero (suc j) m h z e f =
    let k : n ≡ 0 → ⊥ = λ q. z (sym e ∙ q) in
    never (sym (some-eq-at n ns j k (f ∙ sym e)) ∙ (apart-head n ns k h).0)
distinct-at (n ∷ ns) (suc i) zero m h z e f =
    let k : n ≡ 0 → ⊥ = λ q. z (sym f ∙ q) in
    never (sym (some-eq-at n ns i k (e ∙ sym f)) ∙ (apart-head n ns k h).0)
distinct-at (n ∷ ns) (suc i) (suc j) m h z e f = ap suc (distinct-at ns i j m (distinct_tail n ns h) z e f)

-- ---- holders
pub holds-serial : (n : ℕ) (x : Place) → holds n x ≡ true → serial_of x ≡ n
unfolding holds serial_of
holds-serial n empty h = never (sym h)
holds-serial n (holding s b) h = eqb-true s n h

pub empty_holds : (n : ℕ) → holds n empty ≡ false
unfolding holds
empty_holds n = refl

full-empty : (x : Place) → is_empty x ≡ false → x ≡ empty → ⊥
unfolding is_empty
full-empty x h e = let q : is_empty x ≡ true = rw e in never (sym q ∙ h)

is-empty : (x : Place) → x ≡ empty → is_empty x ≡ true
unfolding is_empty
is-empty x e = rw e

-- A place of a sound machine that holds a serial holds an issued one, not zero.
pub record Issued (M : Machine) (q n : ℕ) : Type 0 where
  pub maker : q < PACKAGES
  pub above : 0 < n
  pub upto : n ≤ last_of M q

place-issued : (known : ObjectNumber → Bool) (last n : ℕ) (x : Place) → place_sound known last x ≡ true → holds n x ≡ true → (0 < n) × (n ≤ last)
unfolding place_sound holds
place-issued known last n empty h g = never (sym g)
place-issued known last n (holding s b) h g =
    let e = eqb-true s n g in
    let p = and_parts (ltb 0 s && leb s last) _ h in
    let q = and_parts (ltb 0 s) (leb s last) p.0 in
    let u = ltb-true 0 s q.0 in
    let v = leb-true s last q.1 in
    (omega arith, omega arith)

pub holder-issued : (M : Machine) (q i n : ℕ) → sound M ≡ true → holds n (inside M q i) ≡ true → Issued M q n
holder-issued M q i n h g = go (ltb q PACKAGES) refl
  where
    go : (b : Bool) → ltb q PACKAGES ≡ b → Issued M q n
    go true e =
        let l = ltb-true q PACKAGES e in
        let p = place-issued (issued M) (last_of M q) n (inside M q i) (place-sound M q i h l) g in
        record { maker = l; above = p.0; upto = p.1 }
    go false e =
        let k : holds n (inside M q i) ≡ false = rw (no-places M q (sound-eight M h) (ltb-false q PACKAGES e)) (empty_holds n) in
        never (sym g ∙ k)

serial-at : (xs : List Place) (i n : ℕ) → holds n (get_or xs i empty) ≡ true → get_or (serials xs) i 0 ≡ n
unfolding serial_of
serial-at xs i n h = get_or-map serial_of xs i empty ∙ holds-serial n (get_or xs i empty) h

-- "no two places hold one number"
pub one-holder : (M : Machine) (q i j n : ℕ) → sound M ≡ true → holds n (inside M q i) ≡ true → holds n (inside M q j) ≡ true → i ≡ j
unfolding places_of
one-holder M q i j n h g k =
    let u = holder-issued M q i n h g in
    distinct-at (serials (places_of M q)) i j n (sound-package M h q u.maker).apart (λ e. omega (arith, u.above)) (serial-at (places_of M q) i n g) (serial-at (places_of M q) j n k)

-- An object that is in a place lives there.
pub lives_at : (M : Machine) (o : ObjectNumber) (i : ℕ) → sound M ≡ true → holds (serial o) (inside M (maker o) i) ≡ true → living M o ≡ inside M (maker o) i
unfolding living place_of
lives_at M o i h g =
    let f = first_passes (holds (serial o)) (places_of M (maker o)) empty (some_at (holds (serial o)) (places_of M (maker o)) i empty (empty_holds (serial o)) g) in
    ap (λ (j : ℕ). inside M (maker o) j) (one-holder M (maker o) (first (holds (serial o)) (places_of M (maker o))) i (serial o) h f g)

pub in-place-lives : (M : Machine) (o : ObjectNumber) (i : ℕ) → sound M ≡ true → holds (serial o) (inside M (maker o) i) ≡ true → gone M o ≡ false
unfolding gone
in-place-lives M o i h g = ap is_empty (lives_at M o i h g) ∙ holds-full (serial o) (inside M (maker o) i) g

-- One that isn't gone is in its place.
pub held : (M : Machine) (o : ObjectNumber) → gone M o ≡ false → holds (serial o) (inside M (maker o) (place_of M o)) ≡ true
unfolding gone living place_of
held M o h = ⊎_elim (λ e. e) (λ e. absurd (full-empty _ h e)) (first-or (holds (serial o)) (places_of M (maker o)) empty)

-- "GONE: the named object isn't in a place."
pub gone-nowhere : (M : Machine) (o : ObjectNumber) → sound M ≡ true → gone M o ≡ true → (i : ℕ) → holds (serial o) (inside M (maker o) i) ≡ false
unfolding gone
gone-nowhere M o h g i = go (holds (serial o) (inside M (maker o) i)) refl
  where
    go : (b : Bool) → holds (serial o) (inside M (maker o) i) ≡ b → holds (serial o) (inside M (maker o) i) ≡ false
    go false e = e
    go true e =
        let f : is_empty (living M o) ≡ false = rw (lives_at M o i h e) (holds-full (serial o) (inside M (maker o) i) e) in
        never (sym g ∙ f)

pub nowhere-gone : (M : Machine) (o : ObjectNumber) → ((i : ℕ) → holds (serial o) (inside M (maker o) i) ≡ false) → gone M o ≡ true
nowhere-gone M o h = go (gone M o) refl
  where
    go : (b : Bool) → gone M o ≡ b → gone M o ≡ true
    go true e = e
    go false e = never (sym (held M o e) ∙ h (place_of M o))

-- ---- what a change leaves of a place
pub with-entry-holds : (n j : ℕ) (e : Entry) (x : Place) → holds n (with_entry j e x) ≡ holds n x
unfolding with_entry holds
with-entry-holds n j e empty = refl
with-entry-holds n j e (holding s (segment ws)) = refl
with-entry-holds n j e (holding s (directory m es)) = refl
with-entry-holds n j e (holding s type) = refl
with-entry-holds n j e (holding s (extended o m cs)) = refl

pub with-inner-holds : (n j : ℕ) (c : Capability) (x : Place) → holds n (with_inner j c x) ≡ holds n x
unfolding with_inner holds
with-inner-holds n j c empty = refl
with-inner-holds n j c (holding s (segment ws)) = refl
with-inner-holds n j c (holding s (directory m es)) = refl
with-inner-holds n j c (holding s type) = refl
with-inner-holds n j c (holding s (extended o m cs)) = refl

pub with-word-holds : (n j w : ℕ) (x : Place) → holds n (with_word j w x) ≡ holds n x
unfolding with_word holds
with-word-holds n j w empty = refl
with-word-holds n j w (holding s (segment ws)) = refl
with-word-holds n j w (holding s (directory m es)) = refl
with-word-holds n j w (holding s type) = refl
with-word-holds n j w (holding s (extended o m cs)) = refl

pub with-entry-kind : (j : ℕ) (e : Entry) (x : Place) → kind_of (with_entry j e x) ≡ kind_of x
unfolding with_entry kind_of
with-entry-kind j e empty = refl
with-entry-kind j e (holding s (segment ws)) = refl
with-entry-kind j e (holding s (directory m es)) = refl
with-entry-kind j e (holding s type) = refl
with-entry-kind j e (holding s (extended o m cs)) = refl

pub with-inner-kind : (j : ℕ) (c : Capability) (x : Place) → kind_of (with_inner j c x) ≡ kind_of x
unfolding with_inner kind_of
with-inner-kind j c empty = refl
with-inner-kind j c (holding s (segment ws)) = refl
with-inner-kind j c (holding s (directory m es)) = refl
with-inner-kind j c (holding s type) = refl
with-inner-kind j c (holding s (extended o m cs)) = refl

-- What a change does to place i of package q keeps Z there.
module _ (Z : Place → Type 0) (q i : ℕ) where
  abbrev pub Fits : Change → Type 0
  Fits (set_last p n) = Unit {0}
  Fits (set_slot p k c) = Unit {0}
  Fits (set_place p k y) = q ≡ p → i ≡ k → Z y
  Fits (set_entry p k j e) = (y : Place) → Z y → Z (with_entry j e y)
  Fits (set_inner p k j c) = (y : Place) → Z y → Z (with_inner j c y)
  Fits (set_word p k j w) = q ≡ p → i ≡ k → (y : Place) → Z y → Z (with_word j w y)

  place_set : (P : Package) (k : ℕ) (y : Place) → (i ≡ k → Z y) → Z (place_at P i) → Z (place_at (placed k y P) i)
  place_set P k y g h = set-any Z P.places k i y empty g h

  place-changed : (P : Package) (x : Change) → Fits x → q ≡ target x → Z (place_at P i) → Z (place_at (changed P x) i)
  unfolding changed
  place-changed P (set_last p n) f e h = h
  place-changed P (set_slot p k c) f e h = h
  place-changed P (set_place p k y) f e h = place_set P k y (f e) h
  place-changed P (set_entry p k j d) f e h = place_set P k (with_entry j d (place_at P k)) (λ u. f (place_at P k) (subst (λ (l : ℕ). Z (place_at P l)) u h)) h
  place-changed P (set_inner p k j c) f e h = place_set P k (with_inner j c (place_at P k)) (λ u. f (place_at P k) (subst (λ (l : ℕ). Z (place_at P l)) u h)) h
  place-changed P (set_word p k j w) f e h = place_set P k (with_word j w (place_at P k)) (λ u. f e u (place_at P k) (subst (λ (l : ℕ). Z (place_at P l)) u h)) h

  place_apply : (M : Machine) (x : Change) → Fits x → Z (inside M q i) → Z (inside (apply M x) q i)
  unfolding places_of package_of apply
  place_apply M x f h =
      set-any (λ (P : Package). Z (place_at P i)) M (target x) q (changed (package_of M (target x)) x) nobody
      (λ e. place-changed (package_of M (target x)) x f e (subst (λ (l : ℕ). Z (inside M l i)) e h)) h

  pub place-keeps : (M : Machine) (xs : List Change) → Each Fits xs → Z (inside M q i) → Z (inside (apply_all M xs) q i)
  unfolding apply_all
  place-keeps M [] f h = h
  place-keeps M (x ∷ xs) f h = place-keeps (apply M x) xs f.1 (place_apply M x f.0 h)
