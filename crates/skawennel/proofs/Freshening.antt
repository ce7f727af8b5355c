-- How making fresh tables ends.
-- Assumes nothing.
use Prim.Native.Nat.{ℕ}
use mathlib.Core.Path.{◌≡◌}
use mathlib.Core.List.{List}
use lib.ListN.{length}
use borrow.Author.Tests.{eq-eqb, ne_eqb}
use Rattle.std.specs.Prelude.{Ok, Err}
use Rattle.things.specs.declared.Refusal.TheVariants.{BadTables}
use Rattle.tables.specs.Layout.{tables_size}
use Rattle.tables.specs.Call.{fresh_tables}
use Rattle.skawennel.specs.Boundary.{Freshened}

pub other_length : (t : List ℕ) → (length t ≡ tables_size → ⊥) → Freshened t t (Err BadTables)
other_length t h = let e = ne_eqb (length t) tables_size h in record { told = rw e; left = rw e }

pub right-length : (t u : List ℕ) → length t ≡ tables_size → u ≡ fresh_tables → Freshened t u (Ok 0)
right-length t u h e = let f = eq-eqb (length t) tables_size h in record { told = rw f; left = rw f e }
