-- What stands at a position of a list of blocks, and what a run of stores inside one block leaves: one law for every level
-- of the layout.
-- Assumes nothing.
use Prim.Native.Nat.{ℕ, zero, suc, ◌+◌, ◌*◌, ◌<◌, ◌≤◌}
use native.Mathlib.Omega.{arith}
use mathlib.Core.Path.{◌≡◌, refl, sym, ap, ◌∙◌}
use mathlib.Core.Bool.{Bool, true}
use mathlib.Core.List.{List, [], ◌∷◌, ◌++◌}
use lib.ListN.{length, get_or, set, length-set, get_or-append}
use lib.Seq.{sets, set-append_left, get_or-append-add}
use Rattle.things.specs.Lists.{every, flat}
use Rattle.things.proofs.ListLaws.{and_parts}

module _ {A : Type 0} where
  set_append_right : (a b : List A) (n : ℕ) (v : A) → set (a ++ b) (length a + n) v ≡ a ++ set b n v
  set_append_right [] b n v = let e : 0 + n ≡ n = omega arith in rw e
  set_append_right (x ∷ a) b n v =
      let e : suc (length a) + n ≡ suc (length a + n) = omega arith in
      rw e (ap (λ (l : List A). x ∷ l) (set_append_right a b n v))

  pub sets-append-left : (vs a b : List A) (k : ℕ) → k + length vs ≤ length a → sets (a ++ b) k vs ≡ sets a k vs ++ b
  sets-append-left [] a b k h = refl
  sets-append-left (v ∷ vs) a b k h =
      rw (set-append_left a b k v (omega arith)) (sets-append-left vs (set a k v) b (suc k) (rw (length-set a k v) (omega arith)))

  pub sets-append-right : (vs a b : List A) (n : ℕ) → sets (a ++ b) (length a + n) vs ≡ a ++ sets b n vs
  sets-append-right [] a b n = refl
  sets-append-right (v ∷ vs) a b n =
      let e : suc (length a + n) ≡ length a + suc n = omega arith in
      rw (set_append_right a b n v, e) (sets-append-right vs a (set b n v) (suc n))

  -- a whole list stored over another
  pub sets-whole : (vs l : List A) → length l ≡ length vs → sets l 0 vs ≡ vs
  sets-whole [] [] h = refl
  sets-whole [] (x ∷ l) h = let z : ⊥ = omega arith in absurd z
  sets-whole (v ∷ vs) [] h = let z : ⊥ = omega arith in absurd z
  sets-whole (v ∷ vs) (x ∷ l) h = sets-append-right vs (v ∷ []) l 0 ∙ ap (λ (r : List A). v ∷ r) (sets-whole vs l (omega arith))

module _ {A : Type 0} (f : A → List ℕ) (ok : A → Bool) (w : ℕ) (wide : (x : A) → ok x ≡ true → length (f x) ≡ w) where
  pub flat-at : (xs : List A) (d : A) (i j : ℕ) → every ok xs ≡ true → i < length xs → j < w → get_or (flat f xs) (w * i + j) 0 ≡ get_or (f (get_or xs i d)) j 0
  unfolding flat every
  flat-at [] d i j h l g = let z : ⊥ = omega arith in absurd z
  flat-at (x ∷ xs) d zero j h l g =
      let p = and_parts (ok x) (every ok xs) h in
      let e : w * 0 + j ≡ j = omega arith in
      rw e (get_or-append (f x) (flat f xs) 0 j (rw (wide x p.0) g))
  flat-at (x ∷ xs) d (suc i) j h l g =
      let p = and_parts (ok x) (every ok xs) h in
      let e : w * suc i + j ≡ length (f x) + (w * i + j) = rw (wide x p.0) (omega arith) in
      rw e (get_or-append-add (f x) (flat f xs) (w * i + j) 0 ∙ flat-at xs d i j p.1 (omega arith) g)

  pub flat-put : (xs : List A) (d : A) (i k : ℕ) (vs : List ℕ) (y : A) → every ok xs ≡ true → i < length xs → f y ≡ sets (f (get_or xs i d)) k vs → k + length vs ≤ w → flat f (set xs i y) ≡ sets (flat f xs) (w * i + k) vs
  unfolding flat every
  flat-put [] d i k vs y h l e g = let z : ⊥ = omega arith in absurd z
  flat-put (x ∷ xs) d zero k vs y h l e g =
      let p = and_parts (ok x) (every ok xs) h in
      let q : w * 0 + k ≡ k = omega arith in
      rw (q, e) (sym (sets-append-left vs (f x) (flat f xs) k (rw (wide x p.0) g)))
  flat-put (x ∷ xs) d (suc i) k vs y h l e g =
      let p = and_parts (ok x) (every ok xs) h in
      let q : w * suc i + k ≡ length (f x) + (w * i + k) = rw (wide x p.0) (omega arith) in
      rw q (sym (sets-append-right vs (f x) (flat f xs) (w * i + k) ∙ ap (λ (r : List ℕ). f x ++ r) (sym (flat-put xs d i k vs y p.1 (omega arith) e g))))
