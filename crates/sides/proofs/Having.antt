-- The tests of what a side has, taken apart by slot, entry and inner place, and put together.
-- Assumes nothing.
use Prim.Native.Nat.{ℕ, zero, suc, ◌+◌, ◌≤◌, ◌<◌}
use native.Mathlib.Omega.{arith}
use mathlib.Core.Path.{◌≡◌, refl, sym, subst}
use mathlib.Core.Bool.{Bool, true, false, not, ◌||◌}
use mathlib.Core.List.{List, [], ◌∷◌, ◌++◌, map}
use lib.ListN.{length, get_or, get_or-map, get_or-eq_default}
use lib.Dec.{eqb, ltb}
use borrow.Author.Tests.{ltb-true, ltb-false, eqb-false, eqb-true}
use Rattle.things.specs.declared.Capability.{Capability}
use Rattle.things.specs.Lists.{every, up_from}
use Rattle.things.specs.Rights.{null}
use Rattle.things.proofs.ListLaws.{and_parts, and_both, or-rest, never, every-or}
use Rattle.rules.specs.Machine.{PACKAGES, Entry, no_entry, Place, empty, Package, Machine, nobody, package_of, entries_of, inners_of}
use Rattle.rules.specs.Changes.{place_at}
use Rattle.sides.specs.Sides.{Split, lies_in, lie, has, each_package, near_has, far_has}
use Rattle.sides.proofs.Has.{HasIn, Has}

-- ---- lists
module _ {A : Type 0} (f : A → Bool) where
  every_append : (xs ys : List A) → every f (xs ++ ys) ≡ true → (every f xs ≡ true) × (every f ys ≡ true)
  unfolding every
  every_append [] ys h = (refl, h)
  every_append (x ∷ xs) ys h =
      let p = and_parts (f x) (every f (xs ++ ys)) h in
      let q = every_append xs ys p.1 in
      (and_both p.0 q.0, q.1)

  every-join : (xs ys : List A) → every f xs ≡ true → every f ys ≡ true → every f (xs ++ ys) ≡ true
  unfolding every
  every-join [] ys h g = g
  every-join (x ∷ xs) ys h g =
      let p = and_parts (f x) (every f xs) h in
      and_both p.0 (every-join xs ys p.1 g)

  every-from : (xs : List A) (d : A) → ((i : ℕ) → f (get_or xs i d) ≡ true) → every f xs ≡ true
  unfolding every
  every-from [] d h = refl
  every-from (x ∷ xs) d h = and_both (h zero) (every-from xs d (λ i. h (suc i)))

-- ---- what lies in objects, and what a package has
module _ (f : Capability → Bool) where
  abbrev Passes : Capability → Type 0
  Passes c = f c ≡ true

  abbrev of_entry : Entry → Capability
  of_entry e = e.capability

  lies-parts : f null ≡ true → (y : Place) → every f (lies_in y) ≡ true → HasIn Passes y
  unfolding lies_in
  lies-parts z y h =
      let p = every_append f (map of_entry (entries_of y)) (inners_of y) h in
      record {
        entries = λ j. subst Passes (get_or-map of_entry (entries_of y) j no_entry) (every-or f (map of_entry (entries_of y)) j null p.0 z);
        inners = λ j. every-or f (inners_of y) j null p.1 z;
      }

  lies_whole : (y : Place) → HasIn Passes y → every f (lies_in y) ≡ true
  unfolding lies_in
  lies_whole y h =
      every-join f (map of_entry (entries_of y)) (inners_of y)
      (every-from f (map of_entry (entries_of y)) null (λ j. subst Passes (sym (get_or-map of_entry (entries_of y) j no_entry)) (h.entries j)))
      (every-from f (inners_of y) null h.inners)

  none-lies : every f (lies_in empty) ≡ true
  unfolding lies_in entries_of inners_of every
  none-lies = refl

  lie-at : (ys : List Place) → every f (lie ys) ≡ true → (i : ℕ) → every f (lies_in (get_or ys i empty)) ≡ true
  unfolding lie
  lie-at [] h i = none-lies
  lie-at (y ∷ ys) h zero = (every_append f (lies_in y) (lie ys) h).0
  lie-at (y ∷ ys) h (suc i) = lie-at ys (every_append f (lies_in y) (lie ys) h).1 i

  lie-from : (ys : List Place) → ((i : ℕ) → every f (lies_in (get_or ys i empty)) ≡ true) → every f (lie ys) ≡ true
  unfolding lie every
  lie-from [] h = refl
  lie-from (y ∷ ys) h = every-join f (lies_in y) (lie ys) (h zero) (lie-from ys (λ i. h (suc i)))

  pub has_parts : f null ≡ true → (P : Package) → every f (has P) ≡ true → Has Passes P
  unfolding has
  has_parts z P h =
      let p = every_append f P.slots (lie P.places) h in
      record { slots = λ i. every-or f P.slots i null p.0 z; inside = λ i. lies-parts z (place_at P i) (lie-at P.places p.1 i) }

  pub has-whole : (P : Package) → Has Passes P → every f (has P) ≡ true
  unfolding has
  has-whole P h = every-join f P.slots (lie P.places) (every-from f P.slots null h.slots) (lie-from P.places (λ i. lies_whole (place_at P i) (h.inside i)))

-- ---- sides
up_at : (f : ℕ → Bool) (n k : ℕ) → every f (up_from n k (λ p. p)) ≡ true → (p : ℕ) → k ≤ p → p < k + n → f p ≡ true
unfolding every up_from
up_at f zero k h p l u = let z : ⊥ = omega arith in absurd z
up_at f (suc n) k h p l u = go (eqb p k) refl (up_at f n (suc k) q.1 p)
  where
    q : (f k ≡ true) × (every f (up_from n (suc k) (λ p. p)) ≡ true)
    q = and_parts (f k) (every f (up_from n (suc k) (λ p. p))) h

    go : (b : Bool) → eqb p k ≡ b → (suc k ≤ p → p < suc k + n → f p ≡ true) → f p ≡ true
    go true e r = subst (λ (m : ℕ). f m ≡ true) (sym (eqb-true p k e)) q.0
    go false e r = let ne = eqb-false p k e in r (omega (arith, ne)) (omega arith)

up-from : (f : ℕ → Bool) (n k : ℕ) → ((p : ℕ) → p < k + n → f p ≡ true) → every f (up_from n k (λ p. p)) ≡ true
unfolding every up_from
up-from f zero k h = refl
up-from f (suc n) k h = and_both (h k (omega arith)) (up-from f n (suc k) (λ p l. h p (omega arith)))

or-second : (b c : Bool) → not b || c ≡ true → b ≡ true → c ≡ true
or-second true c h e = h
or-second false c h e = never (sym e)

or-first : (b c : Bool) → b || c ≡ true → b ≡ false → c ≡ true
or-first b c h e = or-rest b c e h

-- A package that is none has nothing.
pub nobody-has : (K : Capability → Type 0) → K null → Has K nobody
unfolding entries_of inners_of
nobody-has K k = record { slots = λ i. k; inside = λ i. record { entries = λ j. k; inners = λ j. k } }

module _ (near : Split) (f : Capability → Bool) (z : f null ≡ true) (M : Machine) (l : length M ≡ PACKAGES) where
  outside : (p : ℕ) → PACKAGES ≤ p → Has (λ c. f c ≡ true) (package_of M p)
  unfolding package_of
  outside p u =
      let v : length M ≤ p = rw l u in
      rw (get_or-eq_default M nobody v) (nobody-has (λ c. f c ≡ true) z)

  pub near_parts : near_has near f M ≡ true → (p : ℕ) → near p ≡ true → Has (λ c. f c ≡ true) (package_of M p)
  unfolding near_has each_package
  near_parts h p n = go (ltb p PACKAGES) refl
    where
      go : (b : Bool) → ltb p PACKAGES ≡ b → Has (λ c. f c ≡ true) (package_of M p)
      go true e = has_parts f z (package_of M p) (or-second (near p) _ (up_at _ PACKAGES 0 h p (omega arith) (ltb-true p PACKAGES e)) n)
      go false e = outside p (ltb-false p PACKAGES e)

  pub far-parts : far_has near f M ≡ true → (p : ℕ) → near p ≡ false → Has (λ c. f c ≡ true) (package_of M p)
  unfolding far_has each_package
  far-parts h p n = go (ltb p PACKAGES) refl
    where
      go : (b : Bool) → ltb p PACKAGES ≡ b → Has (λ c. f c ≡ true) (package_of M p)
      go true e = has_parts f z (package_of M p) (or-first (near p) _ (up_at _ PACKAGES 0 h p (omega arith) (ltb-true p PACKAGES e)) n)
      go false e = outside p (ltb-false p PACKAGES e)

module _ (near : Split) (f : Capability → Bool) (M : Machine) where
  pub near-whole : ((p : ℕ) → p < PACKAGES → near p ≡ true → Has (λ c. f c ≡ true) (package_of M p)) → near_has near f M ≡ true
  unfolding near_has each_package
  near-whole h = up-from _ PACKAGES 0 (λ p l. go p l (near p) refl)
    where
      go : (p : ℕ) → p < PACKAGES → (b : Bool) → near p ≡ b → not (near p) || every f (has (package_of M p)) ≡ true
      go p l true e = rw (e, has-whole f (package_of M p) (h p l e))
      go p l false e = rw e

  pub far-whole : ((p : ℕ) → p < PACKAGES → near p ≡ false → Has (λ c. f c ≡ true) (package_of M p)) → far_has near f M ≡ true
  unfolding far_has each_package
  far-whole h = up-from _ PACKAGES 0 (λ p l. go p l (near p) refl)
    where
      go : (p : ℕ) → p < PACKAGES → (b : Bool) → near p ≡ b → near p || every f (has (package_of M p)) ≡ true
      go p l true e = rw e
      go p l false e = rw (e, has-whole f (package_of M p) (h p l e))
