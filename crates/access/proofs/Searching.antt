-- What a loop over positions finds is what the definition's search finds.
-- Assumes nothing.
use Prim.Native.Nat.{ℕ, zero, suc, ◌+◌, ◌<◌, ◌≤◌}
use native.Mathlib.Omega.{arith}
use native.Mathlib.Numerals.{add-one}
use mathlib.Core.Path.{◌≡◌, refl, sym, ap, ◌∙◌}
use mathlib.Core.Bool.{Bool, true, false, not, ◌&&◌}
use mathlib.Core.List.{List, [], ◌∷◌}
use lib.ListN.{length, get_or, take}
use lib.Dec.{eqb, ltb, leb}
use Rattle.things.specs.declared.ObjectNumber.{ObjectNumber}
use Rattle.things.specs.Lists.{pick, how_many, first}
use Rattle.things.proofs.ListLaws.{and_parts}
use Rattle.rules.specs.Machine.{DIRECTORY, Entry, is_used, segment, directory, type, extended, Place, empty, holding, places_of, last_of, inside, kind_of, serial_of, entries_of, holds, is_empty}
use Rattle.rules.specs.Checks.{is_kind}
use Rattle.rules.specs.Sound.{issued, is_many, is_permits, body_sound, place_sound}
use Rattle.rules.proofs.Parts.{sound-package}
use Rattle.rules.proofs.Keep.{place-sound}
use Rattle.tables.specs.Layout.{machine}
use Rattle.tables.proofs.Laws.{formed}
use Rattle.tables.proofs.RoundTrip.{many}
use Rattle.tables.proofs.Seen.{other}
use Rattle.access.specs.Lent.{Lent}
use Rattle.tables.specs.Positions.{place_pos}
use Rattle.access.proofs.View.{view_kind, view_serial}

turn : (b c : Bool) (n : ℕ) → pick b (suc (pick c (n + 1) n)) (pick c (n + 1) n) ≡ pick c (pick b (suc n) n + 1) (pick b (suc n) n)
turn true true n = omega arith
turn true false n = refl
turn false true n = refl
turn false false n = refl

module _ {A : Type 0} (f : A → Bool) (d : A) where
  -- nothing before i passes, and i does
  pub first-is : (xs : List A) (i : ℕ) → i < length xs → f (get_or xs i d) ≡ true → ((k : ℕ) → k < i → f (get_or xs k d) ≡ false) → first f xs ≡ i
  unfolding first
  first-is [] i l h g = let z : ⊥ = omega arith in absurd z
  first-is (x ∷ xs) zero l h g = rw h
  first-is (x ∷ xs) (suc i) l h g =
      rw (g 0 (omega arith)) (ap suc (first-is xs i (omega arith) h (λ k b. g (suc k) (omega arith))))

  pub first-none : (xs : List A) → ((k : ℕ) → k < length xs → f (get_or xs k d) ≡ false) → first f xs ≡ length xs
  unfolding first
  first-none [] g = refl
  first-none (x ∷ xs) g = rw (g 0 (omega arith)) (ap suc (first-none xs (λ k b. g (suc k) (omega arith))))

  -- a search among sixteen that comes to an end, and one that comes to none
  pub hit : (xs : List A) (i : ℕ) → length xs ≡ 16 → i < 16 → f (get_or xs i d) ≡ true → ((k : ℕ) → k < i → f (get_or xs k d) ≡ false) → i ≡ first f xs
  hit xs i n l h g = sym (first-is xs i (rw n l) h g)

  pub miss : (xs : List A) → length xs ≡ 16 → ((k : ℕ) → k < 16 → f (get_or xs k d) ≡ false) → 16 ≤ first f xs
  miss xs n g = rw (first-none xs (λ k b. g k (rw n at b)), n) (omega arith)

  count-suc : (xs : List A) (i : ℕ) → i < length xs → how_many f (take (suc i) xs) ≡ pick (f (get_or xs i d)) (how_many f (take i xs) + 1) (how_many f (take i xs))
  unfolding how_many
  count-suc [] i l = let z : ⊥ = omega arith in absurd z
  count-suc (x ∷ xs) zero l = refl
  count-suc (x ∷ xs) (suc i) l = rw (count-suc xs i (omega arith)) (turn (f x) (f (get_or xs i d)) (how_many f (take i xs)))

  pub count-more : (xs : List A) (i : ℕ) → i < length xs → how_many f (take (i + 1) xs) ≡ pick (f (get_or xs i d)) (how_many f (take i xs) + 1) (how_many f (take i xs))
  count-more xs i l = rw (add-one i) (count-suc xs i l)

  pub count-hit : (xs : List A) (i n m : ℕ) → i < length xs → n ≡ how_many f (take i xs) → f (get_or xs i d) ≡ true → m ≡ n + 1 → m ≡ how_many f (take (i + 1) xs)
  count-hit xs i n m l e h g = g ∙ rw (count-more xs i l, h, e)

  pub count-miss : (xs : List A) (i n m : ℕ) → i < length xs → n ≡ how_many f (take i xs) → f (get_or xs i d) ≡ false → m ≡ n → m ≡ how_many f (take (i + 1) xs)
  count-miss xs i n m l e h g = g ∙ rw (count-more xs i l, h, e)

-- A place's kind and serial tell whether it is empty and whether it holds an object.
pub holds_by : (n : ℕ) (x : Place) → not (eqb (kind_of x) 0) && eqb (serial_of x) n ≡ holds n x
unfolding kind_of serial_of holds
holds_by n empty = refl
holds_by n (holding s (segment ws)) = refl
holds_by n (holding s (directory m es)) = refl
holds_by n (holding s type) = refl
holds_by n (holding s (extended o m cs)) = refl

pub empty-by : (x : Place) → eqb (kind_of x) 0 ≡ is_empty x
unfolding kind_of is_empty
empty-by empty = refl
empty-by (holding s (segment ws)) = refl
empty-by (holding s (directory m es)) = refl
empty-by (holding s type) = refl
empty-by (holding s (extended o m cs)) = refl

module _ (t : List ℕ) (w : Lent t) (p i : ℕ) (l : p < 8) (g : i < 16) where
  pub view_empty : eqb (get_or t (place_pos p i) 0) 0 ≡ is_empty (inside (machine t) p i)
  view_empty = rw (view_kind t w p i l g) (empty-by _)

  pub view_is_kind : (kind : ℕ) → eqb (get_or t (place_pos p i) 0) kind ≡ is_kind kind (inside (machine t) p i)
  unfolding is_kind
  view_is_kind kind = rw (view_kind t w p i l g)

  pub view_holds : (n : ℕ) → not (eqb (get_or t (place_pos p i) 0) 0) && eqb (get_or t (place_pos p i + 1) 0) n ≡ holds n (inside (machine t) p i)
  view_holds n = rw (view_kind t w p i l g, view_serial t w p i l g) (holds_by n _)

-- An entry's name tells whether it is used.
pub used_by : (n : ℕ) (e : Entry) → n ≡ e.name → not (eqb n 0) ≡ is_used e
unfolding is_used
used_by n e h = rw h

-- How many there are to search.
sixteen-entries : (known : ObjectNumber → Bool) (last : ℕ) (x : Place) → place_sound known last x ≡ true → kind_of x ≡ DIRECTORY → length (entries_of x) ≡ 16
unfolding place_sound body_sound kind_of entries_of
sixteen-entries known last empty h d = other 0 2 refl d
sixteen-entries known last (holding s (segment ws)) h d = other 1 2 refl d
sixteen-entries known last (holding s (directory m es)) h d =
    let p = and_parts (ltb 0 s && leb s last) _ h in
    let q = and_parts (is_permits m) _ p.1 in
    let r = and_parts (is_many 16 es) _ q.1 in
    many 16 es r.0
sixteen-entries known last (holding s type) h d = other 3 2 refl d
sixteen-entries known last (holding s (extended o m cs)) h d = other 4 2 refl d

module _ (t : List ℕ) (w : Lent t) (p : ℕ) (l : p < 8) where
  pub places-long : length (places_of (machine t) p) ≡ 16
  unfolding places_of
  places-long = (sound-package (machine t) (formed t w.formed).sound-shown p l).places

  pub entries-long : (i : ℕ) → kind_of (inside (machine t) p i) ≡ DIRECTORY → length (entries_of (inside (machine t) p i)) ≡ 16
  entries-long i d =
      sixteen-entries (issued (machine t)) (last_of (machine t) p) (inside (machine t) p i)
      (place-sound (machine t) p i (formed t w.formed).sound-shown l) d
