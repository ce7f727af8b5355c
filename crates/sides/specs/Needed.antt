-- A run that meets the premises of demand 3, and for each premise a pair of runs that shows what it is for: they meet all the
-- others, begin on one machine, have the same near calls, and the near side gets other answers. Package 0 is near.
-- Assumes nothing.
use Rattle.std.specs.Prelude.{ℕ, ◌≡◌, Bool, true, false, ◌&&◌, List, [], ◌∷◌, ◌++◌, get_or, set, eqb, ltb}
use Rattle.things.specs.Lists.{every}
use Rattle.things.specs.Rights.{object, capability, READ}
use Rattle.rules.specs.Machine.{Machine, HOST, NUMBERS, fresh}
use Rattle.rules.specs.Sound.{sound}
use Rattle.rules.specs.Changes.{set_slot, apply}
use Rattle.rules.specs.Step.{Call, answers, run}
use Rattle.rules.specs.Cases.{Told, tell, Case, case, by, is, done, refusal}
use Rattle.sides.specs.Sides.{Split, letters_kinds, near_names, far_rights, far_kinds, throughout, not_far_to_near, gives_such, near_calls, near_answers}

-- ---- a run that meets them
-- Packages 0 and 1 are near. Package 0 makes a sheet, writes 91 at its end, hands package 5 a reading capability on it, and
-- package 1 a writing one. Package 5 reads it, copies it into a segment of its own, and hands the reading capability to
-- package 6. A hand-over from far to near is refused, since a desk's capability can't be handed: it moves nothing.
abbrev pub zero_and_one : Split
zero_and_one p = ltb p 2

abbrev pub sheet_shared : Case
sheet_shared =
    case
    -- package 0 makes the sheet, in slot 2, writes 91, and keeps a reading capability in slot 3
    (by 0 4 0 7 0 2 0 ∷ by 0 13 2 31 91 0 0 ∷ by 0 1 2 7 3 0 0
    -- that one to package 5, the writing one to package 1
    ∷ by HOST 3 0 3 5 2 0 ∷ by HOST 3 0 2 1 2 0
    -- package 5 reads, makes a segment, copies
    ∷ by 5 12 2 31 0 0 0 ∷ by 5 4 0 9 0 3 0 ∷ by 5 14 2 31 3 0 1
    -- its desk to package 0: refused; the reading capability to package 6
    ∷ by HOST 3 5 1 0 4 0 ∷ by HOST 3 5 2 6 2 0
    -- package 1 writes 92, and package 6 reads it
    ∷ by 1 13 2 31 92 0 0 ∷ by 6 12 2 31 0 0 0 ∷ [])
    (is 0 3 ∷ done ∷ done
    ∷ done ∷ done
    ∷ is 0 91 ∷ is 0 3 ∷ done
    ∷ refusal 9 ∷ done
    ∷ done ∷ is 0 92 ∷ [])

-- The same near calls, and between them one far call alone: package 5 makes a segment.
abbrev pub sheet_otherwise : List Call
sheet_otherwise =
    by 0 4 0 7 0 2 0 ∷ by 0 13 2 31 91 0 0
    ∷ by 5 4 0 30 0 2 0
    ∷ by 0 1 2 7 3 0 0 ∷ by HOST 3 0 3 5 2 0 ∷ by HOST 3 0 2 1 2 0 ∷ by 1 13 2 31 92 0 0 ∷ []

-- The five numbers of a call are 16-bit numbers.
unfoldable pub is_sixteen_bit : Call → Bool
is_sixteen_bit x = ltb x.a NUMBERS && (ltb x.b NUMBERS && (ltb x.c NUMBERS && (ltb x.d NUMBERS && ltb x.e NUMBERS)))

-- ---- the premises as a list, in the order of the record
unfoldable pub clauses : Split → Machine → List Call → List Bool
clauses near M xs =
    sound M
    ∷ near_names near M
    ∷ far_rights near M
    ∷ far_kinds letters_kinds near M
    ∷ throughout (not_far_to_near near) M xs
    ∷ throughout (gives_such letters_kinds near) M xs
    ∷ []

abbrev pub WELL_FORMED : ℕ
WELL_FORMED = 0

abbrev pub NEAR_NAMES : ℕ
NEAR_NAMES = 1

abbrev pub FAR_RIGHTS : ℕ
FAR_RIGHTS = 2

abbrev pub FAR_KINDS : ℕ
FAR_KINDS = 3

abbrev pub NONE_BACK : ℕ
NONE_BACK = 4

abbrev pub ONLY_SUCH : ℕ
ONLY_SUCH = 5

-- ---- pairs
pub record Pair : Type 0 where
  -- the premise that isn't met
  pub clause : ℕ
  -- where both runs begin, the tapes, and what the near side is told
  pub start : Machine
  pub one : List Call
  pub two : List Call
  pub told-one : List Told
  pub told-two : List Told

abbrev pub zero_alone : Split
zero_alone p = eqb p 0

-- All premises but this one are met.
unfoldable pub meets_others : ℕ → Machine → List Call → Bool
meets_others clause M xs = every (λ b. b) (set (clauses zero_alone M xs) clause true)

unfoldable pub same_told : List Told → List Told → Bool
same_told [] [] = true
same_told [] (y ∷ ys) = false
same_told (x ∷ xs) [] = false
same_told (x ∷ xs) (y ∷ ys) = (eqb x.answer y.answer && eqb x.value y.value) && same_told xs ys

pub record Shows (x : Pair) : Type 0 where
  pub not-met : get_or (clauses zero_alone x.start x.one) x.clause true ≡ false
  pub others-one : meets_others x.clause x.start x.one ≡ true
  pub others-two : meets_others x.clause x.start x.two ≡ true
  pub calls_same : near_calls zero_alone x.one ≡ near_calls zero_alone x.two
  pub first : tell (near_answers zero_alone x.one (answers x.start x.one)) ≡ x.told-one
  pub second : tell (near_answers zero_alone x.two (answers x.start x.two)) ≡ x.told-two
  pub differ : same_told x.told-one x.told-two ≡ false

-- Each pair is a tape whose far write the second run leaves out: `before`, the far calls, and then the near side reads.
abbrev pub pair : ℕ → Machine → List Call → List Call → List Call → List Told → List Told → Pair
pair clause start before far last told-one told-two =
    record { clause = clause; start = start; one = before ++ far ++ last; two = before ++ last; told-one = told-one; told-two = told-two }

-- package 0 reads word 0 through this slot; package 1 writes 5 there through this one
abbrev pub reads : ℕ → List Call
reads slot = by 0 12 slot 0 0 0 0 ∷ []

abbrev pub writes : ℕ → Call
writes slot = by 1 13 slot 0 5 0 0

-- A capability on a serial that isn't issued yet: far then fetches from the directory that near makes under it.
abbrev pub not_well_formed : Pair
not_well_formed =
    pair WELL_FORMED (apply fresh (set_slot 1 2 (capability (object 0 3) READ)))
    (by 0 5 0 7 0 2 0 ∷ by 0 4 2 9 0 3 0 ∷ [])
    (by 1 11 2 9 3 0 0 ∷ writes 3 ∷ [])
    (reads 3) (is 0 3 ∷ is 0 4 ∷ is 0 5 ∷ []) (is 0 3 ∷ is 0 4 ∷ is 0 0 ∷ [])

-- Package 1 makes a segment and hands it to package 0, in slot 2 of both.
abbrev pub far_segment : List Call
far_segment = by 1 4 0 7 0 2 0 ∷ by HOST 3 1 2 0 2 0 ∷ []

-- Near holds a capability on a far segment; has it in an entry; has it in an inner place.
abbrev pub near_holds : Pair
near_holds = pair NEAR_NAMES (run fresh far_segment) [] (writes 2 ∷ []) (reads 2) (is 0 5 ∷ []) (is 0 0 ∷ [])

abbrev pub near_lists : Pair
near_lists =
    pair NEAR_NAMES (run fresh (far_segment ++ (by 0 9 0 8 2 0 0 ∷ by 0 2 2 0 0 0 0 ∷ [])))
    (by 0 11 0 8 3 0 0 ∷ []) (writes 2 ∷ []) (reads 3) (done ∷ is 0 5 ∷ []) (done ∷ is 0 0 ∷ [])

abbrev pub near_keeps : Pair
near_keeps =
    pair NEAR_NAMES (run fresh (far_segment ++ (by 0 6 0 8 0 3 0 ∷ by 0 7 0 9 3 4 0 ∷ by 0 15 3 4 0 2 0 ∷ by 0 2 2 0 0 0 0 ∷ [])))
    (by 0 16 3 4 0 5 0 ∷ []) (writes 2 ∷ []) (reads 5) (done ∷ is 0 5 ∷ []) (done ∷ is 0 0 ∷ [])

-- Package 0 makes a segment, in slot 2, and keeps its capability restricted by this mask in slot 3.
abbrev pub near_segment : ℕ → List Call
near_segment mask = by 0 4 0 7 0 2 0 ∷ by 0 1 2 mask 3 0 0 ∷ []

-- what package 0 keeps in slot 3, handed to slot 2 of package 1
abbrev pub handed : Call
handed = by HOST 3 0 3 1 2 0

-- Far holds right 8 on a near segment; has it in an entry; has it in an inner place.
abbrev pub far_holds : Pair
far_holds = pair FAR_RIGHTS (run fresh (near_segment 15 ++ (handed ∷ []))) [] (writes 2 ∷ []) (reads 2) (is 0 5 ∷ []) (is 0 0 ∷ [])

abbrev pub far_lists : Pair
far_lists =
    pair FAR_RIGHTS (run fresh (near_segment 15 ++ (handed ∷ by 1 9 0 8 2 0 0 ∷ by 1 2 2 0 0 0 0 ∷ [])))
    [] (by 1 11 0 8 3 0 0 ∷ writes 3 ∷ []) (reads 2) (is 0 5 ∷ []) (is 0 0 ∷ [])

abbrev pub far_keeps : Pair
far_keeps =
    pair FAR_RIGHTS (run fresh (near_segment 15 ++ (handed ∷ by 1 6 0 8 0 3 0 ∷ by 1 7 0 9 3 4 0 ∷ by 1 15 3 4 0 2 0 ∷ by 1 2 2 0 0 0 0 ∷ [])))
    [] (by 1 16 3 4 0 5 0 ∷ writes 5 ∷ []) (reads 2) (is 0 5 ∷ []) (is 0 0 ∷ [])

-- Package 0 makes a segment in its shelf, and keeps a reading capability on the shelf in slot 3: far fetches the segment's.
abbrev pub shelf_to_read : List Call
shelf_to_read = by 0 4 0 7 0 2 0 ∷ by 0 1 0 7 3 0 0 ∷ []

abbrev pub from_shelf : List Call
from_shelf = by 1 11 2 7 3 0 0 ∷ writes 3 ∷ []

abbrev pub far_reads_directory : Pair
far_reads_directory = pair FAR_KINDS (run fresh (shelf_to_read ++ (handed ∷ []))) [] from_shelf (reads 2) (is 0 5 ∷ []) (is 0 0 ∷ [])

-- Package 1 makes a type, of which package 0 makes an object with a segment in inner place 0; package 0 then drops the type,
-- and keeps a capability on the object with store permissions and reading in slot 3. Far opens it by its type.
abbrev pub object_of_far_type : List Call
object_of_far_type =
    by 1 6 0 7 0 4 0
    ∷ by HOST 3 1 4 0 5 0
    ∷ by 0 7 0 7 5 6 0
    ∷ by 0 4 0 8 0 2 0
    ∷ by 0 15 5 6 0 2 0
    ∷ by 0 2 5 0 0 0 0
    ∷ by 0 1 6 7 3 0 0
    ∷ []

abbrev pub from_object : List Call
from_object = by 1 16 4 2 0 3 0 ∷ writes 3 ∷ []

abbrev pub far_names_object : Pair
far_names_object = pair FAR_KINDS (run fresh (object_of_far_type ++ (handed ∷ []))) [] from_object (reads 2) (is 0 5 ∷ []) (is 0 0 ∷ [])

-- A hand-over from far to near.
abbrev pub handed_back : Pair
handed_back = pair NONE_BACK fresh far_segment (writes 2 ∷ []) (reads 2) (is 0 5 ∷ []) (is 0 0 ∷ [])

-- From near to far: right 8 on a segment; a living directory; a living extended object.
abbrev pub handed_to_write : Pair
handed_to_write =
    pair ONLY_SUCH fresh (near_segment 15 ++ (handed ∷ [])) (writes 2 ∷ []) (reads 2)
    (is 0 3 ∷ done ∷ done ∷ is 0 5 ∷ []) (is 0 3 ∷ done ∷ done ∷ is 0 0 ∷ [])

abbrev pub handed_directory : Pair
handed_directory =
    pair ONLY_SUCH fresh (shelf_to_read ++ (handed ∷ [])) from_shelf (reads 2)
    (is 0 3 ∷ done ∷ done ∷ is 0 5 ∷ []) (is 0 3 ∷ done ∷ done ∷ is 0 0 ∷ [])

abbrev pub handed_object : Pair
handed_object =
    pair ONLY_SUCH (run fresh object_of_far_type) (handed ∷ []) from_object (reads 2) (done ∷ is 0 5 ∷ []) (done ∷ is 0 0 ∷ [])

abbrev pub pairs : List Pair
pairs =
    not_well_formed
    ∷ near_holds
    ∷ near_lists
    ∷ near_keeps
    ∷ far_holds
    ∷ far_lists
    ∷ far_keeps
    ∷ far_reads_directory
    ∷ far_names_object
    ∷ handed_back
    ∷ handed_to_write
    ∷ handed_directory
    ∷ handed_object
    ∷ []
