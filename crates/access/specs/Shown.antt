-- What well-formed tables, and a directory in them, show.
-- Assumes nothing.
use Rattle.std.specs.Prelude.{List}
use Rattle.rules.specs.Machine.{Place, Machine, Entry, inside, entries_of}
use Rattle.tables.specs.Layout.{machine}
use Rattle.access.specs.declared.lent.Tables.{Tables}
use Rattle.access.specs.declared.lent.Directory.{Directory}

-- The machine.
abbrev pub shown : Tables → Machine
shown t = machine t.numbers.now

-- What lies in the directory's place, and its entries.
abbrev pub lies_in : Directory → Place
lies_in d = inside (machine d.numbers.now) d.at.maker d.at.number

abbrev pub listed_in : Directory → List Entry
listed_in d = entries_of (lies_in d)
