-- A call by its number, and what the table's row does with it.
-- Assumes nothing.
use Rattle.std.specs.Prelude.{ℕ}
use Rattle.rules.specs.Machine.{Machine}
use Rattle.rules.specs.Checks.{Result}
use Rattle.rules.specs.Step.{Call, row_of}
use Rattle.calls.specs.declared.table.Deed.{Deed}
use Rattle.calls.specs.declared.table.Deed.TheVariants.{Restrict, Drop, Hand, MakeSegment, MakeDirectory, MakeType, MakeObject, Delete, AddEntry, DropEntry, Fetch, Read, Write, Copy, SetInner, GetInner, Count}

-- The column "No." of the table of calls.
abbrev pub deed_number : Deed → ℕ
deed_number Restrict = 1
deed_number Drop = 2
deed_number Hand = 3
deed_number MakeSegment = 4
deed_number MakeDirectory = 5
deed_number MakeType = 6
deed_number MakeObject = 7
deed_number Delete = 8
deed_number AddEntry = 9
deed_number DropEntry = 10
deed_number Fetch = 11
deed_number Read = 12
deed_number Write = 13
deed_number Copy = 14
deed_number SetInner = 15
deed_number GetInner = 16
deed_number Count = 17

abbrev pub call : ℕ → ℕ → ℕ → ℕ → ℕ → ℕ → ℕ → Call
call caller number a b c d e = record { caller = caller; number = number; a = a; b = b; c = c; d = d; e = e }

-- What is done once the numbers are good.
unfoldable pub deed : Machine → Call → Result
deed M x = (row_of x.number).does M x.caller x.a x.b x.c x.d x.e
