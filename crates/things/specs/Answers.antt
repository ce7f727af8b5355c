-- The sixteen refusals' numbers, and what an answer is in numbers (01, "The sixteen refusals").
-- Assumes nothing.
use Rattle.std.specs.Prelude.{ℕ, Result, Ok, Err}
use Rattle.things.specs.declared.Refusal.{Refusal}
use Rattle.things.specs.declared.Refusal.TheVariants.{BadTables, BadNumber, Empty, NoAbility, Gone, WrongKind, WrongType, Outside, NoEntry, NameUsed, WrongEntry, NotAddable, Occupied, NoRoom, NoPlace, Spent}
use Rattle.things.specs.declared.Outcome.{Outcome}

-- What a call answers: done, with its value, or refused.
abbrev pub Answer : Type 0
Answer = Result ℕ Refusal

-- The column "No.", in the order of the checks.
abbrev pub refusal_number : Refusal → ℕ
refusal_number BadTables = 16
refusal_number BadNumber = 1
refusal_number Empty = 2
refusal_number NoAbility = 3
refusal_number Gone = 4
refusal_number WrongKind = 5
refusal_number WrongType = 12
refusal_number Outside = 10
refusal_number NoEntry = 6
refusal_number NameUsed = 7
refusal_number WrongEntry = 8
refusal_number NotAddable = 9
refusal_number Occupied = 11
refusal_number NoRoom = 13
refusal_number NoPlace = 14
refusal_number Spent = 15

-- "Done is 0."
abbrev pub answer_number : Answer → ℕ
answer_number (Ok value) = 0
answer_number (Err why) = refusal_number why

-- "Each refusal is given .. with value 0."
abbrev pub answer_value : Answer → ℕ
answer_value (Ok value) = value
answer_value (Err why) = 0

-- An answer as C takes it, and as the tape program prints it: its number, and the value.
abbrev pub in_numbers : Answer → Outcome
in_numbers r = record { answer = answer_number r; value = answer_value r }
