-- What lasts over any tape of calls: a deleted object stays gone, no right grows, and a word is changed by its writers only.
-- Assumes nothing.
use Rattle.std.specs.Prelude.{ℕ, ◌+◌, ◌≤◌, ◌<◌, ◌≡◌, ◌⊎◌, true, false, List, [], ◌∷◌, ◌++◌, get_or}
use Rattle.things.specs.declared.ObjectNumber.{ObjectNumber}
use Rattle.things.specs.declared.Capability.{Capability}
use Rattle.things.specs.declared.Refusal.{Refusal}
use Rattle.things.specs.declared.Refusal.TheVariants.{BadNumber, Empty, NoAbility, Gone, WrongKind, NoEntry, WrongEntry}
use Rattle.things.specs.Rights.{maker, serial, null, has_right, WRITE}
use Rattle.rules.specs.Machine.{Machine, empty, no_entry, slot_of, places_of, words_of, entries_of, inners_of, holds, living}
use Rattle.rules.specs.Checks.{Result, refused, answer_of, gone}
use Rattle.rules.specs.Calls.{named}
use Rattle.rules.specs.Step.{Call, step, run}
use Rattle.sides.specs.Sides.{is_done}

-- ---- dead stays dead
-- No place of its maker holds this number, and no other package's place can: a place's maker is its package.
abbrev pub Nowhere : Machine → ObjectNumber → Type 0
Nowhere M o = (i : ℕ) → holds (serial o) (get_or (places_of M (maker o)) i empty) ≡ false

-- The call is refused, and by one of these.
abbrev pub RefusedBy : List Refusal → Result → Type 0
RefusedBy [] r = ⊥
RefusedBy (why ∷ whys) r = (r ≡ refused why) ⊎ RefusedBy whys r

-- The column "Checked": the slots of a call that are checked for a living object, a and perhaps a second.
pub data CheckedSlot (x : Call) : ℕ → Type 0 where
  slot_a : 4 ≤ x.number → x.number ≤ 17 → CheckedSlot x x.a
  slot_c : (x.number ≡ 7) ⊎ (x.number ≡ 14) → CheckedSlot x x.c
  slot_b : (x.number ≡ 15) ⊎ (x.number ≡ 16) → CheckedSlot x x.b

-- before GONE of slot a, and GONE
abbrev pub to_gone : List Refusal
to_gone = BadNumber ∷ Empty ∷ NoAbility ∷ Gone ∷ []

-- before GONE of a second slot, and GONE
abbrev pub to_second_gone : List Refusal
to_second_gone = BadNumber ∷ Empty ∷ NoAbility ∷ Gone ∷ WrongKind ∷ []

-- before GONE of a deleted entry's own capability, and GONE
abbrev pub to_entry_gone : List Refusal
to_entry_gone = BadNumber ∷ Empty ∷ NoAbility ∷ Gone ∷ WrongKind ∷ NoEntry ∷ WrongEntry ∷ []

-- ---- no right grows
-- A capability stands in a slot, in an entry, or in an inner place.
pub data Stands (M : Machine) (c : Capability) : Type 0 where
  in_slot : (p i : ℕ) → slot_of M p i ≡ c → Stands M c
  in_entry : (p i j : ℕ) → (get_or (entries_of (get_or (places_of M p) i empty)) j no_entry).capability ≡ c → Stands M c
  in_inner : (p i j : ℕ) → get_or (inners_of (get_or (places_of M p) i empty)) j null ≡ c → Stands M c

-- Each right that c has, d has.
abbrev pub Within : Capability → Capability → Type 0
Within c d = (right : ℕ) → has_right c right ≡ true → has_right d right ≡ true

-- One capability that stands in M names the same object and has every right of c.
pub record Covered (M : Machine) (c : Capability) : Type 0 where
  pub older : Capability
  pub stands : Stands M older
  pub object : older.object ≡ c.object
  pub within : Within c older

-- ---- what changes a word
-- The word of an object at an offset; 0 of what isn't a living segment.
unfoldable pub word : Machine → ObjectNumber → ℕ → ℕ
word M o k = get_or (words_of (living M o)) k 0

-- The caller's slot names this object and has right 8.
pub record HeldToWrite (M : Machine) (p a : ℕ) (o : ObjectNumber) : Type 0 where
  pub object : named M p a ≡ o
  pub right : has_right (slot_of M p a) WRITE ≡ true

-- A write of word k of o, or a copy onto it, by a caller whose slot holds right 8 on o.
pub data Writes (M : Machine) (x : Call) (o : ObjectNumber) (k : ℕ) : Type 0 where
  by_write : x.number ≡ 13 → HeldToWrite M x.caller x.a o → x.b ≡ k → Writes M x o k
  by_copy : x.number ≡ 14 → HeldToWrite M x.caller x.c o → x.d ≤ k → k < x.d + x.e → Writes M x o k

-- Such a call stands on the tape, and was done, by the machine that the calls before it left.
pub record Written (M : Machine) (xs : List Call) (o : ObjectNumber) (k : ℕ) : Type 0 where
  pub before : List Call
  pub call : Call
  pub rest : List Call
  pub tape : xs ≡ before ++ (call ∷ rest)
  pub writes : Writes (run M before) call o k
  pub obeyed : is_done (answer_of (step (run M before) call)) ≡ true

-- From M to N: the object is gone, or lives with this word as it was.
abbrev pub Fate : Machine → Machine → ObjectNumber → ℕ → Type 0
Fate M N o k = (gone N o ≡ true) ⊎ ((gone N o ≡ false) × (word N o k ≡ word M o k))
