-- What the positions of well-formed tables show of their machine.
-- Assumes nothing.
use Prim.Native.Nat.{ℕ, ◌+◌, ◌*◌, ◌<◌}
use native.Mathlib.Omega.{arith}
use mathlib.Core.Path.{◌≡◌, refl, ap, subst, ◌∙◌}
use mathlib.Core.Bool.{Bool, true, false}
use mathlib.Core.List.{List}
use lib.ListN.{get_or}
use lib.Dec.{eqb}
use Rattle.things.specs.Rights.{null}
use Rattle.rules.specs.Machine.{SEGMENT, DIRECTORY, EXTENDED, Entry, no_entry, Machine, last_of, slot_of, inside, kind_of, serial_of, permits_of, type_of, words_of, entries_of, inners_of}
use Rattle.rules.specs.Sound.{sound}
use Rattle.tables.specs.Layout.{flag, capability_numbers, entry_numbers, numbers, machine}
use Rattle.tables.specs.WellFormed.{well_formed}
use Rattle.tables.specs.Positions.{last_pos, slot_pos, place_pos, entry_pos, inner_pos, word_pos, capability_at}
use Rattle.tables.proofs.Laws.{formed}
use Rattle.tables.proofs.Seen.{last-at, slot_seen, kind-seen, serial-seen, permits-seen, type-seen, entry_at, word-seen, inner-at}
use Rattle.access.specs.Lent.{Lent}

pub lent : (t : List ℕ) → well_formed t ≡ true → Lent t
lent t h = record { formed = h; sized = (formed t h).long }

module _ (t : List ℕ) (w : Lent t) where
  abbrev M : Machine
  M = machine t

  sound-M : sound M ≡ true
  sound-M = (formed t w.formed).sound-shown

  -- a fact about the numbers of the machine is one about the tables
  on-tables : (P : List ℕ → Type 0) → P (numbers M) → P t
  on-tables P h = subst P (formed t w.formed).shown h

  pub view_last : (p : ℕ) → p < 8 → get_or t (last_pos p) 0 ≡ last_of M p
  view_last p l = on-tables (λ (u : List ℕ). get_or u (last_pos p) 0 ≡ last_of M p) (last-at M sound-M p l)

  pub view_slot : (p i : ℕ) → p < 8 → i < 16 → capability_at t (slot_pos p i) ≡ slot_of M p i
  view_slot p i l g = on-tables (λ (u : List ℕ). capability_at u (slot_pos p i) ≡ slot_of M p i) (slot_seen M sound-M p l i g)

  module _ (p i : ℕ) (l : p < 8) (g : i < 16) where
    pub view_kind : get_or t (place_pos p i) 0 ≡ kind_of (inside M p i)
    view_kind = on-tables (λ (u : List ℕ). get_or u (place_pos p i) 0 ≡ kind_of (inside M p i)) (kind-seen M sound-M p i l g)

    pub view_serial : get_or t (place_pos p i + 1) 0 ≡ serial_of (inside M p i)
    view_serial = on-tables (λ (u : List ℕ). get_or u (place_pos p i + 1) 0 ≡ serial_of (inside M p i)) (serial-seen M sound-M p i l g)

    pub view_permits : get_or t (place_pos p i + 2) 0 ≡ permits_of (inside M p i)
    view_permits = on-tables (λ (u : List ℕ). get_or u (place_pos p i + 2) 0 ≡ permits_of (inside M p i)) (permits-seen M sound-M p i l g)

    pub view_type : (get_or t (place_pos p i + 3) 0 ≡ (type_of (inside M p i)).0) × (get_or t (place_pos p i + 4) 0 ≡ (type_of (inside M p i)).1)
    view_type = on-tables (λ (u : List ℕ). (get_or u (place_pos p i + 3) 0 ≡ (type_of (inside M p i)).0) × (get_or u (place_pos p i + 4) 0 ≡ (type_of (inside M p i)).1)) (type-seen M sound-M p i l g)

    pub view_word : kind_of (inside M p i) ≡ SEGMENT → (j : ℕ) → j < 32 → get_or t (word_pos p i j) 0 ≡ get_or (words_of (inside M p i)) j 0
    view_word d j b = on-tables (λ (u : List ℕ). get_or u (word_pos p i j) 0 ≡ get_or (words_of (inside M p i)) j 0) (word-seen M sound-M p i l g d j b)

    entry-number : kind_of (inside M p i) ≡ DIRECTORY → (j k : ℕ) → j < 16 → k < 5 → get_or t (entry_pos p i j + k) 0 ≡ get_or (entry_numbers (get_or (entries_of (inside M p i)) j no_entry)) k 0
    entry-number d j k a b =
        let e : entry_pos p i j + k ≡ place_pos p i + (5 + (5 * j + k)) = omega arith in
        rw e (on-tables (λ (u : List ℕ). get_or u (place_pos p i + (5 + (5 * j + k))) 0 ≡ get_or (entry_numbers (get_or (entries_of (inside M p i)) j no_entry)) k 0) (entry_at M sound-M p i l g d j k a b))

    inner-number : kind_of (inside M p i) ≡ EXTENDED → (j k : ℕ) → j < 4 → k < 3 → get_or t (inner_pos p i j + k) 0 ≡ get_or (capability_numbers (get_or (inners_of (inside M p i)) j null)) k 0
    inner-number d j k a b =
        let e : inner_pos p i j + k ≡ place_pos p i + (5 + (3 * j + k)) = omega arith in
        rw e (on-tables (λ (u : List ℕ). get_or u (place_pos p i + (5 + (3 * j + k))) 0 ≡ get_or (capability_numbers (get_or (inners_of (inside M p i)) j null)) k 0) (inner-at M sound-M p i l g d j k a b))

    at_zero : (k : ℕ) → get_or t k 0 ≡ get_or t (k + 0) 0
    at_zero k = let e : k ≡ k + 0 = omega arith in ap (λ (n : ℕ). get_or t n 0) e

    module _ (d : kind_of (inside M p i) ≡ DIRECTORY) (j : ℕ) (b : j < 16) where
      abbrev here : Entry
      here = get_or (entries_of (inside M p i)) j no_entry

      pub view_name : get_or t (entry_pos p i j) 0 ≡ here.name
      unfolding entry_numbers
      view_name = at_zero (entry_pos p i j) ∙ entry-number d j 0 b (omega arith)

      pub view_listed : capability_at t (entry_pos p i j + 1) ≡ here.capability
      unfolding capability_at entry_numbers capability_numbers
      view_listed =
          let e : entry_pos p i j + 1 + 1 ≡ entry_pos p i j + 2 = omega arith in
          let f : entry_pos p i j + 1 + 2 ≡ entry_pos p i j + 3 = omega arith in
          rw (e, f, entry-number d j 1 b (omega arith), entry-number d j 2 b (omega arith), entry-number d j 3 b (omega arith))

      flag_is : (x : Bool) → eqb (flag x) 1 ≡ x
      flag_is true = refl
      flag_is false = refl

      pub view_distinguished : eqb (get_or t (entry_pos p i j + 4) 0) 1 ≡ here.distinguished
      unfolding entry_numbers capability_numbers
      view_distinguished = rw (entry-number d j 4 b (omega arith)) (flag_is here.distinguished)

    pub view_inner : kind_of (inside M p i) ≡ EXTENDED → (j : ℕ) → j < 4 → capability_at t (inner_pos p i j) ≡ get_or (inners_of (inside M p i)) j null
    unfolding capability_at capability_numbers
    view_inner d j b = rw (at_zero (inner_pos p i j), inner-number d j 0 b (omega arith), inner-number d j 1 b (omega arith), inner-number d j 2 b (omega arith))
