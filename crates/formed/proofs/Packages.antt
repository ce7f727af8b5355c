-- Tables of the right length are well formed just where each package's block is, by the last serials that the blocks begin
-- with; and a package's block is formed just where its slots and places are and no two places have one serial.
-- Assumes nothing.
use Prim.Native.Nat.{ℕ, ◌*◌, ◌<◌, ◌≤◌}
use native.Mathlib.Omega.{arith}
use mathlib.Core.Path.{◌≡◌, refl, sym, ap, ◌∙◌}
use mathlib.Core.Bool.{Bool, true, false, ◌&&◌}
use mathlib.Core.List.{List, [], ◌∷◌, ◌++◌, map, append-nil}
use lib.ListN.{length, get_or, drop, drop_of_length-le, length-map, length-drop}
use borrow.Author.Tests.{eq-eqb, ne_eqb, lt-ltb}
use Rattle.things.specs.declared.ObjectNumber.{ObjectNumber}
use Rattle.things.specs.Lists.{every, distinct, flat}
use Rattle.things.proofs.ListLaws.{and_parts, and_both}
use Rattle.rules.specs.Machine.{Place, empty, holding, Package, Machine, nobody, package_of, last_of, serial_of}
use Rattle.rules.specs.Sound.{issued, is_number, serials, capability_sound, place_sound, package_sound}
use Rattle.rules.proofs.Parts.{package-parts, package-whole, sound-each, sound-whole}
use Rattle.tables.specs.Layout.{capability_numbers, place_numbers, package_numbers, numbers, blocks, capability_from, place_from, package_from, machine}
use Rattle.tables.specs.WellFormed.{same, well_formed}
use Rattle.tables.proofs.Laws.{formed, same_self}
use Rattle.tables.proofs.RoundTrip.{capability-wide, place-wide, package-wide}
use Rattle.formed.specs.Block.{last_serials, known_by, column, capabilities_formed, place_formed, package_formed}
use Rattle.formed.proofs.Runs.{both, length-blocks}
use Rattle.formed.proofs.Split.{formed-parts, formed-whole, blocks_from, blocks_to, capabilities-from}

-- A formed place has its serial in its second number.
second : (x : Place) → serial_of x ≡ get_or (place_numbers x) 1 0
unfolding serial_of place_numbers
second empty = refl
second (holding s b) = refl

module _ (lasts : List ℕ) where
  pub serials-column : (last : ℕ) (bs : List (List ℕ)) → every (place_formed lasts last) bs ≡ true → serials (map place_from bs) ≡ column 1 bs
  unfolding every column
  serials-column last [] h = refl
  serials-column last (b ∷ bs) h =
      let p = and_parts (place_formed lasts last b) (every (place_formed lasts last) bs) h in
      let f = formed-parts place_numbers place_from (place_sound (known_by lasts) last) b p.0 in
      let e : serial_of (place_from b) ≡ get_or b 1 0 = second (place_from b) ∙ ap (λ (y : List ℕ). get_or y 1 0) (sym f.0) in
      rw (e, serials-column last bs p.1)

  -- ---- a package
  abbrev package_test : List ℕ → Bool
  package_test x =
      (capabilities_formed lasts 16 (drop 1 x) && every (place_formed lasts (get_or x 0 0)) (blocks 16 85 (drop 49 x)))
      && distinct (column 1 (blocks 16 85 (drop 49 x)))

  module _ (a : ℕ) (z : List ℕ) (l : length z ≡ 1408) where
    abbrev P : Package
    P = record { last = a; slots = map capability_from (blocks 16 3 z); places = map place_from (blocks 16 85 (drop 48 z)) }

    places-rest : drop (16 * 85) (drop 48 z) ≡ []
    places-rest = let m : length (drop 48 z) ≤ 1360 = rw (length-drop 48 z) (omega arith) in drop_of_length-le (drop 48 z) m

    package-to : a < 65536 → package_test (a ∷ z) ≡ true → package_formed lasts (a ∷ z) ≡ true
    unfolding package_from package_numbers is_number
    package-to g h =
        let p = and_parts (capabilities_formed lasts 16 z && every (place_formed lasts a) (blocks 16 85 (drop 48 z))) _ h in
        let q = and_parts (capabilities_formed lasts 16 z) _ p.0 in
        let c = blocks_from capability_numbers capability_from (capability_sound (known_by lasts)) 3 16 z (drop 48 z) (capabilities-from (capability_sound (known_by lasts)) 16 z (omega arith) q.0) refl in
        let u = blocks_from place_numbers place_from (place_sound (known_by lasts) a) 85 16 (drop 48 z) [] q.1 places-rest in
        let v : drop 48 z ≡ flat place_numbers P.places = u.0 ∙ append-nil (flat place_numbers P.places) in
        let w : z ≡ flat capability_numbers P.slots ++ flat place_numbers P.places = c.0 ∙ ap (λ (y : List ℕ). flat capability_numbers P.slots ++ y) v in
        formed-whole package_numbers package_from (package_sound (known_by lasts)) (a ∷ z) (ap (λ (y : List ℕ). a ∷ y) w)
        (package-whole (known_by lasts) P
        (record {
          number = lt-ltb a 65536 g;
          slots = length-map (blocks 16 3 z) capability_from ∙ length-blocks 16 3 z;
          each-slot = q.0;
          places = length-map (blocks 16 85 (drop 48 z)) place_from ∙ length-blocks 16 85 (drop 48 z);
          each-place = u.1;
          apart = rw (serials-column a (blocks 16 85 (drop 48 z)) q.1) p.1;
        }))

    package-from : package_formed lasts (a ∷ z) ≡ true → package_test (a ∷ z) ≡ true
    unfolding package_from package_numbers
    package-from h =
        let p = formed-parts package_numbers package_from (package_sound (known_by lasts)) (a ∷ z) h in
        let q = package-parts (known_by lasts) P p.1 in
        let e : a ∷ z ≡ a ∷ (flat capability_numbers P.slots ++ flat place_numbers P.places) = p.0 in
        let w : z ≡ flat capability_numbers P.slots ++ flat place_numbers P.places = cc in
        let c = blocks_to capability_numbers capability_from (capability_sound (known_by lasts)) 3 (capability-wide (known_by lasts)) 16 z (flat place_numbers P.places) w q.each-slot in
        let d : drop 48 z ≡ flat place_numbers P.places ++ [] = c.1 ∙ sym (append-nil (flat place_numbers P.places)) in
        let u = blocks_to place_numbers place_from (place_sound (known_by lasts) a) 85 (place-wide (known_by lasts) a) 16 (drop 48 z) [] d q.each-place in
        let s : distinct (column 1 (blocks 16 85 (drop 48 z))) ≡ true = rw (← serials-column a (blocks 16 85 (drop 48 z)) u.0) q.apart in
        and_both (and_both q.each-slot u.0) s

  pub package-formed : (x : List ℕ) → length x ≡ 1409 → get_or x 0 0 < 65536 → package_test x ≡ package_formed lasts x
  package-formed [] l g = let z : ⊥ = omega arith in absurd z
  package-formed (a ∷ z) l g = both (package_test (a ∷ z)) (package_formed lasts (a ∷ z)) (package-to a z (omega arith) g) (package-from a z (omega arith))

-- ---- the tables
known-by : (M : Machine) (o : ObjectNumber) → issued M o ≡ known_by (last_serials M) o
unfolding issued known_by last_serials last_of package_of
known-by M o = rw (lib.ListN.get_or-map (λ (P : Package). P.last) M o.0 nobody)

known : (M : Machine) → issued M ≡ known_by (last_serials M)
known M = λ i o. known-by M o i

module _ (t : List ℕ) (l : length t ≡ 11272) where
  abbrev L : List ℕ
  L = last_serials (machine t)

  tables-rest : drop (8 * 1409) t ≡ []
  tables-rest = let m : length t ≤ 11272 = omega arith in drop_of_length-le t m

  tables-to : every (package_formed L) (blocks 8 1409 t) ≡ true → well_formed t ≡ true
  unfolding well_formed numbers machine
  tables-to h =
      let u = blocks_from package_numbers package_from (package_sound (known_by L)) 1409 8 t [] h tables-rest in
      let e : t ≡ numbers (machine t) = u.0 ∙ append-nil (flat package_numbers (machine t)) in
      let s : same t (numbers (machine t)) ≡ true = rw (← e) (same_self t) in
      let k : every (package_sound (issued (machine t))) (machine t) ≡ true = rw (known (machine t)) u.1 in
      and_both (eq-eqb _ _ l) (and_both s (sound-whole (machine t) (length-map (blocks 8 1409 t) package_from ∙ length-blocks 8 1409 t) k))

  tables-from : well_formed t ≡ true → every (package_formed L) (blocks 8 1409 t) ≡ true
  unfolding numbers machine
  tables-from h =
      let f = formed t h in
      let e : t ≡ flat package_numbers (machine t) ++ [] = sym (append-nil (flat package_numbers (machine t)) ∙ f.shown) in
      let k : every (package_sound (known_by L)) (machine t) ≡ true = rw (← known (machine t)) (sound-each (machine t) f.sound-shown) in
      (blocks_to package_numbers package_from (package_sound (known_by L)) 1409 (package-wide (known_by L)) 8 t [] e k).0

  pub tables-formed : every (package_formed L) (blocks 8 1409 t) ≡ well_formed t
  tables-formed = both (every (package_formed L) (blocks 8 1409 t)) (well_formed t) tables-to tables-from

-- Tables of another length aren't.
pub other_length : (t : List ℕ) → (length t ≡ 11272 → ⊥) → false ≡ well_formed t
unfolding well_formed
other_length t d = rw (ne_eqb (length t) 11272 d)

-- The last serials stand first in the blocks.
pub lasts-column : (t : List ℕ) → column 0 (blocks 8 1409 t) ≡ last_serials (machine t)
unfolding machine last_serials column package_from
lasts-column t = each (blocks 8 1409 t)
  where
    each : (bs : List (List ℕ)) → column 0 bs ≡ map (λ (P : Package). P.last) (map package_from bs)
    each [] = refl
    each (b ∷ bs) = ap (λ (y : List ℕ). get_or b 0 0 ∷ y) (each bs)
