-- 01's worked cases, from the fresh machine: the calls of each, and the answers and values that they get.
-- Assumes nothing.
use Rattle.std.specs.Prelude.{ℕ, zero, suc, ◌≡◌, List, [], ◌∷◌, ◌++◌}
use Rattle.things.specs.Answers.{Answer}
use Rattle.things.specs.Answers.{answer_number, answer_value}
use Rattle.rules.specs.Machine.{HOST, fresh}
use Rattle.rules.specs.Step.{Call, answers}

-- An answer in numbers.
pub record Told : Type 0 where
  pub answer : ℕ
  pub value : ℕ

abbrev pub tell : List Answer → List Told
tell [] = []
tell (x ∷ xs) = record { answer = answer_number x; value = answer_value x } ∷ tell xs

pub record Case : Type 0 where
  pub calls : List Call
  pub told : List Told

abbrev pub by : ℕ → ℕ → ℕ → ℕ → ℕ → ℕ → ℕ → Call
by caller number a b c d e = record { caller = caller; number = number; a = a; b = b; c = c; d = d; e = e }

-- "package 5 unless said"
abbrev pub five : ℕ → ℕ → ℕ → ℕ → ℕ → ℕ → Call
five = by 5

abbrev pub is : ℕ → ℕ → Told
is answer value = record { answer = answer; value = value }

abbrev pub case : List Call → List Told → Case
case calls told = record { calls = calls; told = told }

abbrev pub done : Told
done = is 0 0

abbrev pub refusal : ℕ → Told
refusal n = is n 0

-- P1 to P12. Where a case names no entry, the name is 7; where it names no slot for what is made, slot 2.
abbrev pub cases : List Case
cases =
    -- P1 count slot 0: done, 0
    case (five 17 0 0 0 0 0 ∷ []) (is 0 0 ∷ [])
    -- P2 count slot 9: 2
    ∷ case (five 17 9 0 0 0 0 ∷ []) (refusal 2 ∷ [])
    -- P3 count slot 16: 1
    ∷ case (five 17 16 0 0 0 0 ∷ []) (refusal 1 ∷ [])
    -- P4 restrict slot 0 by 247 into slot 0, then make in it: 3
    ∷ case (five 1 0 247 0 0 0 ∷ five 4 0 7 0 2 0 ∷ []) (done ∷ refusal 3 ∷ [])
    -- P5 read slot 0 offset 0: 5
    ∷ case (five 12 0 0 0 0 0 ∷ []) (refusal 5 ∷ [])
    -- P6 make segment, slot 0, permits 1: 9; in slot 1: done, 3
    ∷ case (five 4 0 7 1 2 0 ∷ five 4 1 7 1 2 0 ∷ []) (refusal 9 ∷ is 0 3 ∷ [])
    -- P7 the same name made twice: 7
    ∷ case (five 4 0 7 0 2 0 ∷ five 4 0 7 0 3 0 ∷ []) (is 0 3 ∷ refusal 7 ∷ [])
    -- P8 made, deleted, then read by its slot: 4
    ∷ case (five 4 0 7 0 2 0 ∷ five 8 0 7 0 0 0 ∷ five 12 2 0 0 0 0 ∷ []) (is 0 3 ∷ done ∷ refusal 4 ∷ [])
    -- P9 hand slot 1 to package 6: 9; slot 0: done
    ∷ case (by HOST 3 5 1 6 2 0 ∷ by HOST 3 5 0 6 2 0 ∷ []) (refusal 9 ∷ done ∷ [])
    -- P10 words 1 2 3 at 0, copied within the segment from 0 to 1, count 3: 1 1 2 3. Count 0 at 32: done; count 1: 10
    ∷ case
    (five 4 0 7 0 2 0 ∷ five 13 2 0 1 0 0 ∷ five 13 2 1 2 0 0 ∷ five 13 2 2 3 0 0
    ∷ five 14 2 0 2 1 3
    ∷ five 12 2 0 0 0 0 ∷ five 12 2 1 0 0 0 ∷ five 12 2 2 0 0 0 ∷ five 12 2 3 0 0 0
    ∷ five 14 2 32 2 32 0 ∷ five 14 2 32 2 32 1 ∷ [])
    (is 0 3 ∷ done ∷ done ∷ done
    ∷ done
    ∷ is 0 1 ∷ is 0 1 ∷ is 0 2 ∷ is 0 3
    ∷ done ∷ refusal 10 ∷ [])
    -- P11 remove a distinguished entry: 8; delete a plain one: 8
    ∷ case (five 4 0 7 0 2 0 ∷ five 10 0 7 0 0 0 ∷ five 9 0 8 2 0 0 ∷ five 8 0 8 0 0 0 ∷ []) (is 0 3 ∷ refusal 8 ∷ done ∷ refusal 8 ∷ [])
    -- P12 an empty slot and name 0 in one call: 1
    ∷ case (five 4 9 0 0 2 0 ∷ []) (refusal 1 ∷ [])
    ∷ []

-- Where two refusals apply, the answer is the one that stands first in 01's table; and what count, delete, drop, fetch and
-- the inner places do, which P1 to P12 don't show.
abbrev pub orders : List Case
orders =
    -- a hand-over of an empty slot: 2 before 9
    case (by HOST 3 5 9 6 2 0 ∷ []) (refusal 2 ∷ [])
    -- a read of an empty slot: 2 before 3
    ∷ case (five 12 9 0 0 0 0 ∷ []) (refusal 2 ∷ [])
    -- a read without the right, of a deleted segment: 3 before 4
    ∷ case
    (five 4 0 7 0 2 0 ∷ five 1 2 3 3 0 0 ∷ five 8 0 7 0 0 0 ∷ five 12 3 0 0 0 0 ∷ [])
    (is 0 3 ∷ done ∷ done ∷ refusal 3 ∷ [])
    -- a make under a used name, not addable: 7 before 9
    ∷ case (five 4 0 7 0 2 0 ∷ five 4 0 7 1 3 0 ∷ []) (is 0 3 ∷ refusal 7 ∷ [])
    -- a delete of a plain entry whose own capability lacks 32: 8 before 3
    ∷ case
    (five 4 0 7 0 2 0 ∷ five 1 2 7 3 0 0 ∷ five 9 0 8 3 0 0 ∷ five 8 0 8 0 0 0 ∷ [])
    (is 0 3 ∷ done ∷ done ∷ refusal 8 ∷ [])
    -- set inner and get inner with an empty type slot and a segment for the object: 2, in the order of the letters
    ∷ case (five 4 0 7 0 2 0 ∷ five 15 9 2 0 2 0 ∷ five 16 9 2 0 2 0 ∷ []) (is 0 3 ∷ refusal 2 ∷ refusal 2 ∷ [])
    -- a copy from an empty slot into a directory: 2, in the order of the letters
    ∷ case (five 14 9 0 0 0 1 ∷ []) (refusal 2 ∷ [])
    -- a count after a make: one entry
    ∷ case (five 4 0 7 0 2 0 ∷ five 17 0 0 0 0 0 ∷ []) (is 0 3 ∷ is 0 1 ∷ [])
    -- made, deleted, made again under the same name: the entry is gone
    ∷ case (five 4 0 7 0 2 0 ∷ five 8 0 7 0 0 0 ∷ five 4 0 7 0 2 0 ∷ []) (is 0 3 ∷ done ∷ is 0 4 ∷ [])
    -- a dropped slot is empty
    ∷ case (five 2 0 0 0 0 0 ∷ five 17 0 0 0 0 0 ∷ []) (done ∷ refusal 2 ∷ [])
    -- a fetched capability names the entry's own segment
    ∷ case
    (five 4 0 7 0 2 0 ∷ five 13 2 0 91 0 0 ∷ five 11 0 7 4 0 0 ∷ five 12 4 0 0 0 0 ∷ [])
    (is 0 3 ∷ done ∷ done ∷ is 0 91 ∷ [])
    -- a segment put in inner place 1 of an object is what inner place 1 gives; inner place 2 gives null
    ∷ case
    (five 6 0 7 0 2 0 ∷ five 7 0 8 2 3 0 ∷ five 4 0 9 0 4 0 ∷ five 13 4 0 91 0 0
    ∷ five 15 2 3 1 4 0 ∷ five 16 2 3 1 5 0 ∷ five 12 5 0 0 0 0
    ∷ five 16 2 3 2 5 0 ∷ five 12 5 0 0 0 0 ∷ [])
    (is 0 3 ∷ is 0 4 ∷ is 0 5 ∷ done
    ∷ done ∷ done ∷ is 0 91
    ∷ done ∷ refusal 2 ∷ [])
    ∷ []

-- Each case gets what it says.
abbrev pub Hold : List Case → Type 0
Hold [] = Unit {0}
Hold (x ∷ xs) = (tell (answers fresh x.calls) ≡ x.told) × Hold xs

-- n makes, of names n down to 1, and what they are told, from serial k on.
abbrev pub makes : ℕ → List Call
makes zero = []
makes (suc n) = five 4 0 (suc n) 0 2 0 ∷ makes n

abbrev pub serials_from : ℕ → ℕ → List Told
serials_from zero k = []
serials_from (suc n) k = is 0 k ∷ serials_from n (suc k)

-- "14 makes done, the 15th: 14. Delete one, make again: done, serial 17."
abbrev pub fourteen : Case
fourteen =
    case
    (makes 14 ++ (five 4 0 99 0 2 0 ∷ five 8 0 3 0 0 0 ∷ five 4 0 99 0 2 0 ∷ []))
    (serials_from 14 3 ++ (refusal 14 ∷ done ∷ is 0 17 ∷ []))
