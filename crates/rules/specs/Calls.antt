-- The seventeen calls: for each its checks in their order, each with its refusal, and then what is done (01, "The seventeen
-- calls"). What the numbers are is in the table of rows; a call stands here after BAD TABLES and BAD NUMBER.
-- Assumes nothing.
use Rattle.std.specs.Prelude.{ℕ, ◌+◌, Bool, true, false, not, ◌&&◌, ◌||◌, List, [], ◌∷◌, ◌++◌, get_or, replicate, eqb, ltb}
use Rattle.things.specs.declared.ObjectNumber.{ObjectNumber}
use Rattle.things.specs.declared.Capability.{Capability}
use Rattle.things.specs.declared.Refusal.TheVariants.{Empty, NoAbility, Gone, WrongType, Outside, NoEntry, NameUsed, WrongEntry, NotAddable, Occupied, NoRoom, NoPlace, Spent}
use Rattle.things.specs.Lists.{some, up_from}
use Rattle.things.specs.Rights.{object, maker, serial, capability, null, is_null, has_right, restricted, addable, made_rights, STORE, READ, WRITE, REMOVE, DELETE, MAKE, OPEN, NONE}
use Rattle.rules.specs.Machine.{WORDS, INNERS, LAST_SERIAL, SEGMENT, DIRECTORY, TYPE, EXTENDED, Entry, no_entry, Body, segment, type, extended, Place, empty, holding, Machine, last_of, slot_of, places_of, is_empty, words_of, entries_of, inners_of, permits_of, type_of, place_of, living, empty_place, is_used, has_entry, entry_of, entry_named, empty_entry, used_entries, empty_directory}
use Rattle.rules.specs.Changes.{Change, set_last, set_slot, set_place, set_entry, set_inner, set_word}
use Rattle.rules.specs.Checks.{Result, done, Check, ◌when◌, unless, gone, checked}

-- ---- on slots

-- 1: "slot c gets a's capability, rights a AND b; null gives null"
unfoldable pub restrict : Machine → ℕ → ℕ → ℕ → ℕ → ℕ → ℕ → Result
restrict M p a b c d e = done 0 (set_slot p c (restricted (slot_of M p a) b) ∷ [])

-- 2: "slot a becomes null"
unfoldable pub drop : Machine → ℕ → ℕ → ℕ → ℕ → ℕ → ℕ → Result
drop M p a b c d e = done 0 (set_slot p a null ∷ [])

-- 3, by the host: "not null; has store permission 1, else 9"; "copies a's slot b into c's slot d"
unfoldable pub hand : Machine → ℕ → ℕ → ℕ → ℕ → ℕ → ℕ → Result
hand M p a b c d e =
    unless
    ((Empty when is_null (slot_of M a b))
    ∷ (NotAddable when not (has_right (slot_of M a b) STORE))
    ∷ [])
    (done 0 (set_slot c d (slot_of M a b) ∷ []))

-- ---- on directories

-- what slot a's capability names
unfoldable pub named : Machine → ℕ → ℕ → ObjectNumber
named M p a = (slot_of M p a).object

-- the living object that slot a names
unfoldable pub opened : Machine → ℕ → ℕ → Place
opened M p a = living M (named M p a)

-- an entry of that object is stored, at this position
abbrev pub store_entry : Machine → ObjectNumber → ℕ → Entry → Change
store_entry M o j e = set_entry (maker o) (place_of M o) j e

abbrev pub entry : ℕ → Capability → Bool → Entry
entry name c distinguished = record { name = name; capability = c; distinguished = distinguished }

-- the directory is to take a further entry b with this capability
abbrev pub takes_entry : Place → ℕ → Capability → List Check
takes_entry x b c =
    (NameUsed when has_entry x b)
    ∷ (NotAddable when not (addable c (permits_of x)))
    ∷ (NoRoom when not (has_entry x 0))
    ∷ []

-- the number of the object that package p makes next, and the capability on it that a make with permits s gives
unfoldable pub next_serial : Machine → ℕ → ℕ
next_serial M p = last_of M p + 1

unfoldable pub made : Machine → ℕ → ℕ → Capability
made M p s = capability (object p (next_serial M p)) (made_rights s)

-- "the caller's 16 places all hold objects"; "the caller's last serial is 65,535"
abbrev pub makes_one : Machine → ℕ → List Check
makes_one M p =
    (NoPlace when not (some is_empty (places_of M p)))
    ∷ (Spent when eqb (last_of M p) LAST_SERIAL)
    ∷ []

-- a new object with this body and permits s: "its capability in a distinguished entry b and in slot d"
unfoldable pub making : Machine → ℕ → Body → ℕ → ℕ → ℕ → ℕ → Result
making M p body a b s d =
    done (next_serial M p)
    (set_last p (next_serial M p)
    ∷ store_entry M (named M p a) (empty_entry (opened M p a)) (entry b (made M p s) true)
    ∷ set_place p (empty_place M p) (holding (next_serial M p) body)
    ∷ set_slot p d (made M p s)
    ∷ [])

-- 4, 5, 6: "a: 8, directory"
unfoldable pub make : Body → Machine → ℕ → ℕ → ℕ → ℕ → ℕ → Result
make body M p a b c d =
    unless
    (checked M (slot_of M p a) WRITE DIRECTORY
    ++ takes_entry (opened M p a) b (made M p c)
    ++ makes_one M p)
    (making M p body a b c d)

unfoldable pub make_segment : Machine → ℕ → ℕ → ℕ → ℕ → ℕ → ℕ → Result
make_segment M p a b c d e = make (segment (replicate WORDS 0)) M p a b c d

unfoldable pub make_directory : Machine → ℕ → ℕ → ℕ → ℕ → ℕ → ℕ → Result
make_directory M p a b c d e = make (empty_directory c) M p a b c d

unfoldable pub make_type : Machine → ℕ → ℕ → ℕ → ℕ → ℕ → ℕ → Result
make_type M p a b c d e = make type M p a b c d

-- 7: "a: 8, directory; c: 64, type"; "as 4, of type c"
unfoldable pub make_object : Machine → ℕ → ℕ → ℕ → ℕ → ℕ → ℕ → Result
make_object M p a b c d e =
    unless
    (checked M (slot_of M p a) WRITE DIRECTORY
    ++ checked M (slot_of M p c) MAKE TYPE
    ++ takes_entry (opened M p a) b (made M p e)
    ++ makes_one M p)
    (making M p (extended (named M p c) e (replicate INNERS null)) a b e d)

-- the entry b of the directory that slot a names, and what its own capability names
unfoldable pub listed : Machine → ℕ → ℕ → ℕ → Entry
listed M p a b = entry_named (opened M p a) b

unfoldable pub listed_object : Machine → ℕ → ℕ → ℕ → ObjectNumber
listed_object M p a b = (listed M p a b).capability.object

abbrev pub remove_entry : Machine → ℕ → ℕ → ℕ → Change
remove_entry M p a b = store_entry M (named M p a) (entry_of (opened M p a) b) no_entry

-- 8: "a: 16, directory; then the entry's own capability: 32, living"; "removes the distinguished entry and its object"
unfoldable pub delete : Machine → ℕ → ℕ → ℕ → ℕ → ℕ → ℕ → Result
delete M p a b c d e =
    unless
    (checked M (slot_of M p a) REMOVE DIRECTORY
    ++ (NoEntry when not (has_entry (opened M p a) b))
    ∷ (WrongEntry when not (listed M p a b).distinguished)
    ∷ (NoAbility when not (has_right (listed M p a b).capability DELETE))
    ∷ (Gone when gone M (listed_object M p a b))
    ∷ (Occupied when some is_used (entries_of (living M (listed_object M p a b))))
    ∷ [])
    (done 0
    (remove_entry M p a b
    ∷ set_place (maker (listed_object M p a b)) (place_of M (listed_object M p a b)) empty
    ∷ []))

-- 9: "a: 8, directory; c: not null"; "plain entry"
unfoldable pub add_entry : Machine → ℕ → ℕ → ℕ → ℕ → ℕ → ℕ → Result
add_entry M p a b c d e =
    unless
    (checked M (slot_of M p a) WRITE DIRECTORY
    ++ (Empty when is_null (slot_of M p c))
    ∷ takes_entry (opened M p a) b (slot_of M p c))
    (done 0 (store_entry M (named M p a) (empty_entry (opened M p a)) (entry b (slot_of M p c) false) ∷ []))

-- 10: "a: 16, directory"; "removes a plain entry"
unfoldable pub drop_entry : Machine → ℕ → ℕ → ℕ → ℕ → ℕ → ℕ → Result
drop_entry M p a b c d e =
    unless
    (checked M (slot_of M p a) REMOVE DIRECTORY
    ++ (NoEntry when not (has_entry (opened M p a) b))
    ∷ (WrongEntry when (listed M p a b).distinguished)
    ∷ [])
    (done 0 (remove_entry M p a b ∷ []))

-- 11: "a: 4, directory"; "slot c gets the entry's capability"
unfoldable pub fetch : Machine → ℕ → ℕ → ℕ → ℕ → ℕ → ℕ → Result
fetch M p a b c d e =
    unless
    (checked M (slot_of M p a) READ DIRECTORY
    ++ (NoEntry when not (has_entry (opened M p a) b))
    ∷ [])
    (done 0 (set_slot p c (listed M p a b).capability ∷ []))

-- ---- on segments

-- the word at an offset, and storing one, in the segment that slot a names
unfoldable pub word_at : Machine → ℕ → ℕ → ℕ → ℕ
word_at M p a b = get_or (words_of (opened M p a)) b 0

abbrev pub store_word : Machine → ℕ → ℕ → ℕ → ℕ → Change
store_word M p a b w = set_word (maker (named M p a)) (place_of M (named M p a)) b w

-- 12: "a: 4, segment"; "value is the word"
unfoldable pub read : Machine → ℕ → ℕ → ℕ → ℕ → ℕ → ℕ → Result
read M p a b c d e =
    unless
    (checked M (slot_of M p a) READ SEGMENT
    ++ (Outside when not (ltb b WORDS))
    ∷ [])
    (done (word_at M p a b) [])

-- 13: "a: 8, segment"; "stores the word"
unfoldable pub write : Machine → ℕ → ℕ → ℕ → ℕ → ℕ → ℕ → Result
write M p a b c d e =
    unless
    (checked M (slot_of M p a) WRITE SEGMENT
    ++ (Outside when not (ltb b WORDS))
    ∷ [])
    (done 0 (store_word M p a b c ∷ []))

-- 14: "a: 4, segment; c: 8, segment"; "as if all words were read before any is stored": each is read from M
unfoldable pub copied : Machine → ℕ → ℕ → ℕ → ℕ → ℕ → ℕ → Change
copied M p a b c d k = store_word M p c (d + k) (word_at M p a (b + k))

unfoldable pub copy : Machine → ℕ → ℕ → ℕ → ℕ → ℕ → ℕ → Result
copy M p a b c d e =
    unless
    (checked M (slot_of M p a) READ SEGMENT
    ++ checked M (slot_of M p c) WRITE SEGMENT
    ++ (Outside when ltb WORDS (b + e) || ltb WORDS (d + e))
    ∷ [])
    (done 0 (up_from e 0 (copied M p a b c d)))

-- ---- on extended objects

-- "b isn't of type a"
unfoldable pub is_of : ObjectNumber → ObjectNumber → Bool
is_of o t = eqb (maker o) (maker t) && eqb (serial o) (serial t)

abbrev pub opens : Machine → ℕ → ℕ → ℕ → List Check
opens M p a b =
    checked M (slot_of M p a) OPEN TYPE
    ++ checked M (slot_of M p b) NONE EXTENDED
    ++ (WrongType when not (is_of (type_of (opened M p b)) (named M p a)))
    ∷ []

-- 15: "a: 128, type; b: no right, object"; "inner place c gets slot d; null clears it". "A null .. may be put in an inner
-- place whatever its permits."
unfoldable pub set_inner_place : Machine → ℕ → ℕ → ℕ → ℕ → ℕ → ℕ → Result
set_inner_place M p a b c d e =
    unless
    (opens M p a b
    ++ (NotAddable when not (is_null (slot_of M p d) || addable (slot_of M p d) (permits_of (opened M p b))))
    ∷ [])
    (done 0 (set_inner (maker (named M p b)) (place_of M (named M p b)) c (slot_of M p d) ∷ []))

-- 16: "a: 128, type; b: no right, object"; "slot d gets inner place c, null too"
unfoldable pub get_inner_place : Machine → ℕ → ℕ → ℕ → ℕ → ℕ → ℕ → Result
get_inner_place M p a b c d e =
    unless (opens M p a b)
    (done 0 (set_slot p d (get_or (inners_of (opened M p b)) c null) ∷ []))

-- 17: "a: no right, directory"; "value is the number of used entries"
unfoldable pub count : Machine → ℕ → ℕ → ℕ → ℕ → ℕ → ℕ → Result
count M p a b c d e =
    unless (checked M (slot_of M p a) NONE DIRECTORY)
    (done (used_entries (opened M p a)) [])
