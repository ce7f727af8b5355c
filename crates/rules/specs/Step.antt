-- The table of calls, one call by number, and a run of a tape of calls.
-- Assumes nothing.
use Rattle.std.specs.Prelude.{ℕ, ◌<◌, Bool, true, false, not, ◌&&◌, List, [], ◌∷◌, get_or, eqb, ltb}
use Rattle.things.specs.declared.Refusal.TheVariants.{BadNumber}
use Rattle.things.specs.Answers.{Answer}
use Rattle.rules.specs.Machine.{Machine, PACKAGES, HOST, SLOTS, INNERS, NUMBERS}
use Rattle.rules.specs.Checks.{Result, refused, ◌when◌, unless, answer_of, after}
use Rattle.rules.specs.Calls.{restrict, drop, hand, make_segment, make_directory, make_type, make_object, delete, add_entry, drop_entry, fetch, read, write, copy, set_inner_place, get_inner_place, count}
pub use Rattle.things.specs.declared.Call.{Call}
pub use Rattle.things.specs.declared.table.Listed.{Listed}
pub use Rattle.things.specs.declared.table.Listed.TheVariants.{Slot, Mask, Package, Name, Permits, Inner, Any, Unlisted}
pub use Rattle.things.specs.declared.table.Callers.{Callers}
pub use Rattle.things.specs.declared.table.Callers.TheVariants.{Packages, Host, Nobody}

-- "Each call has a caller and a call number (0 to 255) and five numbers a to e (0 to 65,535)": `Call`, of the code's own words.
-- The five numbers are 16-bit numbers, as those of a record on a tape and those of the lent boundary are.
pub record SixteenBit (x : Call) : Type 0 where
  pub a : x.a < NUMBERS
  pub b : x.b < NUMBERS
  pub c : x.c < NUMBERS
  pub d : x.d < NUMBERS
  pub e : x.e < NUMBERS

-- The column "Numbers": what a call's number is. Offsets, counts and words are any numbers; an unlisted number is 0.
unfoldable pub in_range : Listed → ℕ → Bool
in_range Slot n = ltb n SLOTS
in_range Mask n = ltb n 256
in_range Package n = ltb n PACKAGES
in_range Name n = ltb 0 n
in_range Permits n = ltb n 4
in_range Inner n = ltb n INNERS
in_range Any n = true
in_range Unlisted n = eqb n 0

-- Who may call: "hand by other than 8; another call by other than 0..7" is BAD NUMBER.
unfoldable pub may_call : Callers → ℕ → Bool
may_call Packages p = ltb p PACKAGES
may_call Host p = eqb p HOST
may_call Nobody p = false

pub record Row : Type 0 where
  pub callers : Callers
  pub a : Listed
  pub b : Listed
  pub c : Listed
  pub d : Listed
  pub e : Listed
  pub does : Machine → ℕ → ℕ → ℕ → ℕ → ℕ → ℕ → Result

abbrev pub row : Callers → Listed → Listed → Listed → Listed → Listed → (Machine → ℕ → ℕ → ℕ → ℕ → ℕ → ℕ → Result) → Row
row callers a b c d e does = record { callers = callers; a = a; b = b; c = c; d = d; e = e; does = does }

-- A number that no call has.
abbrev pub no_call : Row
no_call = row Nobody Unlisted Unlisted Unlisted Unlisted Unlisted (λ M p a b c d e. refused BadNumber)

-- 01's table, from number 0, which no call has.
unfoldable pub rows : List Row
rows =
    no_call
    ∷ row Packages Slot Mask Slot Unlisted Unlisted restrict
    ∷ row Packages Slot Unlisted Unlisted Unlisted Unlisted drop
    ∷ row Host Package Slot Package Slot Unlisted hand
    ∷ row Packages Slot Name Permits Slot Unlisted make_segment
    ∷ row Packages Slot Name Permits Slot Unlisted make_directory
    ∷ row Packages Slot Name Permits Slot Unlisted make_type
    ∷ row Packages Slot Name Slot Slot Permits make_object
    ∷ row Packages Slot Name Unlisted Unlisted Unlisted delete
    ∷ row Packages Slot Name Slot Unlisted Unlisted add_entry
    ∷ row Packages Slot Name Unlisted Unlisted Unlisted drop_entry
    ∷ row Packages Slot Name Slot Unlisted Unlisted fetch
    ∷ row Packages Slot Any Unlisted Unlisted Unlisted read
    ∷ row Packages Slot Any Any Unlisted Unlisted write
    ∷ row Packages Slot Any Slot Any Any copy
    ∷ row Packages Slot Slot Inner Slot Unlisted set_inner_place
    ∷ row Packages Slot Slot Inner Slot Unlisted get_inner_place
    ∷ row Packages Slot Unlisted Unlisted Unlisted Unlisted count
    ∷ []

abbrev pub row_of : ℕ → Row
row_of n = get_or rows n no_call

-- The caller may call this, and each number is what the row lists.
unfoldable pub good_numbers : Row → Call → Bool
good_numbers r x =
    may_call r.callers x.caller
    && (in_range r.a x.a
    && (in_range r.b x.b
    && (in_range r.c x.c
    && (in_range r.d x.d
    && in_range r.e x.e))))

-- What a row does with a call, after BAD TABLES.
unfoldable pub obey : Row → Machine → Call → Result
obey r M x =
    unless
    ((BadNumber when not (good_numbers r x))
    ∷ [])
    (r.does M x.caller x.a x.b x.c x.d x.e)

unfoldable pub step : Machine → Call → Result
step M x = obey (row_of x.number) M x

-- A run: each call on the machine that the call before left.
unfoldable pub answers : Machine → List Call → List Answer
answers M [] = []
answers M (x ∷ xs) = let r = step M x in (answer_of r ∷ answers (after M r) xs)

unfoldable pub run : Machine → List Call → Machine
run M [] = M
run M (x ∷ xs) = run (after M (step M x)) xs
