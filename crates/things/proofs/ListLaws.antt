-- Laws of the questions asked of lists.
-- Assumes nothing.
use Prim.Native.Nat.{ℕ, zero, suc, ◌+◌, ◌<◌}
use native.Mathlib.Omega.{arith}
use mathlib.Core.Path.{◌≡◌, refl, sym, ap}
use mathlib.Core.Bool.{Bool, true, false, not, ◌&&◌, ◌||◌, or-true}
use mathlib.Core.List.{List, [], ◌∷◌, map}
use lib.ListN.{length, get_or, set, replicate}
use lib.Dec.{eqb, ltb}
use borrow.Author.Tests.{eqb-false, ne_eqb, ltb-true, not-true}
use Rattle.things.specs.Lists.{pick, every, some, first, distinct, up_from}

-- Tests joined.
pub and_parts : (x y : Bool) → x && y ≡ true → (x ≡ true) × (y ≡ true)
and_parts true y e = (refl, e)
and_parts false y e = let z : ◌≡◌ {A = ℕ} 0 1 = cc in let w : ⊥ = omega arith in absurd w

pub and_both : {x y : Bool} → x ≡ true → y ≡ true → x && y ≡ true
and_both p q = rw (p, q)

pub never : {P : Type 0} → ◌≡◌ {A = Bool} true false → P
never e = let z : ◌≡◌ {A = ℕ} 0 1 = cc in let w : ⊥ = omega arith in absurd w

pub or_parts : (x y : Bool) → x || y ≡ false → (x ≡ false) × (y ≡ false)
or_parts true y e = never e
or_parts false y e = (refl, e)

pub or-none : {x y : Bool} → x ≡ false → y ≡ false → x || y ≡ false
or-none p q = rw (p, q)

pub or-rest : (x y : Bool) → x ≡ false → x || y ≡ true → y ≡ true
or-rest true y e h = never e
or-rest false y e h = h

-- A first position moves on where the head does not pass.
first_step : (b : Bool) (n m : ℕ) → (b ≡ false → n < m) → pick b zero (suc n) < suc m
first_step true n m h = omega arith
first_step false n m h = let l = h refl in omega (arith, l)

module _ {A : Type 0} where
  -- Every element: at an index, from each index, after a store, of copies.
  pub every-at : (f : A → Bool) (xs : List A) (i : ℕ) (d : A) → every f xs ≡ true → i < length xs → f (get_or xs i d) ≡ true
  unfolding every
  every-at f [] i d h l = let z : ⊥ = omega arith in absurd z
  every-at f (x ∷ xs) zero d h l = (and_parts (f x) (every f xs) h).0
  every-at f (x ∷ xs) (suc i) d h l = every-at f xs i d (and_parts (f x) (every f xs) h).1 (omega arith)

  pub every-or : (f : A → Bool) (xs : List A) (i : ℕ) (d : A) → every f xs ≡ true → f d ≡ true → f (get_or xs i d) ≡ true
  unfolding every
  every-or f [] i d h g = g
  every-or f (x ∷ xs) zero d h g = (and_parts (f x) (every f xs) h).0
  every-or f (x ∷ xs) (suc i) d h g = every-or f xs i d (and_parts (f x) (every f xs) h).1 g

  pub every_set : (f : A → Bool) (xs : List A) (i : ℕ) (y : A) → every f xs ≡ true → f y ≡ true → every f (set xs i y) ≡ true
  unfolding every
  every_set f [] i y h g = refl
  every_set f (x ∷ xs) zero y h g = and_both g (and_parts (f x) (every f xs) h).1
  every_set f (x ∷ xs) (suc i) y h g =
      let p = and_parts (f x) (every f xs) h in
      and_both p.0 (every_set f xs i y p.1 g)

  pub every-copies : (f : A → Bool) (n : ℕ) (x : A) → f x ≡ true → every f (replicate n x) ≡ true
  unfolding every
  every-copies f zero x h = refl
  every-copies f (suc n) x h = and_both h (every-copies f n x h)

  pub every-mono : (f g : A → Bool) (xs : List A) → ((x : A) → f x ≡ true → g x ≡ true) → every f xs ≡ true → every g xs ≡ true
  unfolding every
  every-mono f g [] m h = refl
  every-mono f g (x ∷ xs) m h =
      let p = and_parts (f x) (every f xs) h in
      and_both (m x p.0) (every-mono f g xs m p.1)

  -- What holds of a stored element, and of what stood at an index, holds at that index after the store.
  pub set-any : (P : A → Type 0) (xs : List A) (i j : ℕ) (y d : A) → (j ≡ i → P y) → P (get_or xs j d) → P (get_or (set xs i y) j d)
  set-any P [] i j y d h g = g
  set-any P (x ∷ xs) zero zero y d h g = h refl
  set-any P (x ∷ xs) zero (suc j) y d h g = g
  set-any P (x ∷ xs) (suc i) zero y d h g = g
  set-any P (x ∷ xs) (suc i) (suc j) y d h g = set-any P xs i j y d (λ e. h (ap suc e)) g

  -- None passes: at an index, and the other way round.
  pub some-not : (f : A → Bool) (xs : List A) (i : ℕ) (d : A) → some f xs ≡ false → i < length xs → f (get_or xs i d) ≡ false
  unfolding some
  some-not f [] i d h l = let z : ⊥ = omega arith in absurd z
  some-not f (x ∷ xs) zero d h l = (or_parts (f x) (some f xs) h).0
  some-not f (x ∷ xs) (suc i) d h l = some-not f xs i d (or_parts (f x) (some f xs) h).1 (omega arith)

  -- The first that passes: it is in the list and passes, if any does.
  pub first-in : (f : A → Bool) (xs : List A) → some f xs ≡ true → first f xs < length xs
  unfolding some first
  first-in f [] h = never (sym h)
  first-in f (x ∷ xs) h = first_step (f x) (first f xs) (length xs) (λ e. first-in f xs (or-rest (f x) (some f xs) e h))

  first-here : (f : A → Bool) (x : A) (xs : List A) (d : A) (b : Bool) → f x ≡ b → (b ≡ false → f (get_or xs (first f xs) d) ≡ true) → f (get_or (x ∷ xs) (pick b zero (suc (first f xs))) d) ≡ true
  first-here f x xs d true e h = e
  first-here f x xs d false e h = h refl

  pub first_passes : (f : A → Bool) (xs : List A) (d : A) → some f xs ≡ true → f (get_or xs (first f xs) d) ≡ true
  unfolding some first
  first_passes f [] d h = never (sym h)
  first_passes f (x ∷ xs) d h = first-here f x xs d (f x) refl (λ e. first_passes f xs d (or-rest (f x) (some f xs) e h))

-- Distinct numbers stay so where a zero is stored, or a number that isn't among them.
some-set : (n : ℕ) (ns : List ℕ) (i m : ℕ) → some (eqb n) ns ≡ false → eqb n m ≡ false → some (eqb n) (set ns i m) ≡ false
unfolding some
some-set n [] i m h g = h
some-set n (k ∷ ns) zero m h g = or-none g (or_parts (eqb n k) (some (eqb n) ns) h).1
some-set n (k ∷ ns) (suc i) m h g =
    let p = or_parts (eqb n k) (some (eqb n) ns) h in
    or-none p.0 (some-set n ns i m p.1 g)

eqb-flip : (n m : ℕ) → eqb n m ≡ false → eqb m n ≡ false
eqb-flip n m h = ne_eqb m n (λ e. eqb-false n m h (sym e))

apart-head : (n : ℕ) (ns : List ℕ) (i m : ℕ) → (eqb n 0 || not (some (eqb n) ns)) ≡ true → (eqb n 0 ≡ false → eqb n m ≡ false) → (eqb n 0 || not (some (eqb n) (set ns i m))) ≡ true
apart-head n ns i m h g = go (eqb n 0) refl
  where
    go : (b : Bool) → eqb n 0 ≡ b → (eqb n 0 || not (some (eqb n) (set ns i m))) ≡ true
    go true e = rw e
    go false e =
        let o : not (some (eqb n) ns) ≡ true = rw e at h in
        rw (e, some-set n ns i m (not-true (some (eqb n) ns) o) (g e))

pub distinct-zero : (ns : List ℕ) (i : ℕ) → distinct ns ≡ true → distinct (set ns i 0) ≡ true
unfolding distinct
distinct-zero [] i h = refl
distinct-zero (n ∷ ns) zero h = (and_parts (eqb n 0 || not (some (eqb n) ns)) (distinct ns) h).1
distinct-zero (n ∷ ns) (suc i) h =
    let p = and_parts (eqb n 0 || not (some (eqb n) ns)) (distinct ns) h in
    and_both (apart-head n ns i 0 p.0 (λ e. e)) (distinct-zero ns i p.1)

some-eq : (m n : ℕ) (ns : List ℕ) → some (eqb m) (n ∷ ns) ≡ false → (eqb m n ≡ false) × (some (eqb m) ns ≡ false)
unfolding some
some-eq m n ns h = or_parts (eqb m n) (some (eqb m) ns) h

pub distinct-new : (ns : List ℕ) (i m : ℕ) → distinct ns ≡ true → some (eqb m) ns ≡ false → distinct (set ns i m) ≡ true
unfolding distinct
distinct-new [] i m h g = refl
distinct-new (n ∷ ns) zero m h g =
    let p = and_parts (eqb n 0 || not (some (eqb n) ns)) (distinct ns) h in
    let q : (eqb m 0 || not (some (eqb m) ns)) ≡ true = rw ((some-eq m n ns g).1, or-true (eqb m 0)) in
    and_both q p.1
distinct-new (n ∷ ns) (suc i) m h g =
    let p = and_parts (eqb n 0 || not (some (eqb n) ns)) (distinct ns) h in
    let q = some-eq m n ns g in
    and_both (apart-head n ns i m p.0 (λ e. eqb-flip m n q.0)) (distinct-new ns i m p.1 q.1)

-- A number above all of them isn't among them.
pub above-none : (ns : List ℕ) (m : ℕ) → every (λ n. ltb n m) ns ≡ true → some (eqb m) ns ≡ false
unfolding every some
above-none [] m h = refl
above-none (n ∷ ns) m h =
    let p = and_parts (ltb n m) (every (λ k. ltb k m) ns) h in
    or-none (ne_eqb m n (λ e. let l = ltb-true n m p.0 in omega arith)) (above-none ns m p.1)

-- Questions of a list's images.
module _ {A : Type 0} where
  pub some-map : (f : A → ℕ) (m : ℕ) (xs : List A) → some (eqb m) (map f xs) ≡ some (λ x. eqb m (f x)) xs
  unfolding some
  some-map f m [] = refl
  some-map f m (x ∷ xs) = rw (some-map f m xs)

  pub some_same : (f g : A → Bool) (xs : List A) → ((x : A) → f x ≡ g x) → some f xs ≡ some g xs
  unfolding some
  some_same f g [] h = refl
  some_same f g (x ∷ xs) h = rw (h x, some_same f g xs h)

  pub every_map : (f : A → ℕ) (t : ℕ → Bool) (xs : List A) → every t (map f xs) ≡ every (λ x. t (f x)) xs
  unfolding every
  every_map f t [] = refl
  every_map f t (x ∷ xs) = rw (every_map f t xs)

  pub map-set : {B : Type 0} (f : A → B) (xs : List A) (i : ℕ) (y : A) → map f (set xs i y) ≡ set (map f xs) i (f y)
  map-set f [] i y = refl
  map-set f (x ∷ xs) zero y = refl
  map-set f (x ∷ xs) (suc i) y = rw (map-set f xs i y)

-- Lists made by an index.
module _ {A : Type 0} where
  pub up_from-same : (n k : ℕ) (f g : ℕ → A) → ((i : ℕ) → f i ≡ g i) → up_from n k f ≡ up_from n k g
  unfolding up_from
  up_from-same zero k f g h = refl
  up_from-same (suc n) k f g h = rw (h k, up_from-same n (suc k) f g h)

  pub up_from-length : (n k : ℕ) (f : ℕ → A) → length (up_from n k f) ≡ n
  unfolding up_from
  up_from-length zero k f = refl
  up_from-length (suc n) k f = ap suc (up_from-length n (suc k) f)

  pub up_from-at : (n k i : ℕ) (f : ℕ → A) (d : A) → i < n → get_or (up_from n k f) i d ≡ f (k + i)
  unfolding up_from
  up_from-at zero k i f d l = let z : ⊥ = omega arith in absurd z
  up_from-at (suc n) k zero f d l = let e : k + 0 ≡ k = omega arith in rw e
  up_from-at (suc n) k (suc i) f d l = let e : k + suc i ≡ suc k + i = omega arith in rw e (up_from-at n (suc k) i f d (omega arith))
