-- What C is told, and what is left in the tables.
-- Assumes nothing.
use Rattle.std.specs.Prelude.{ℕ, ◌≡◌, Bool, List, length, eqb}
use Rattle.things.specs.declared.Refusal.TheVariants.{BadTables}
use Rattle.things.specs.Answers.{Answer}
use Rattle.std.specs.Prelude.{Ok, Err}
use Rattle.things.specs.Answers.{answer_number}
use Rattle.things.specs.Lists.{pick}
use Rattle.rules.specs.Step.{Call}
use Rattle.tables.specs.Layout.{tables_size}
use Rattle.tables.specs.Call.{answer, next, fresh_tables}
use Rattle.things.specs.declared.Outcome.{Outcome}
use Rattle.things.specs.Answers.{in_numbers}

-- One call in numbers: the answer's number and value, and every number of the tables.
pub record Stepped (t : List ℕ) (x : Call) (o : Outcome) (u : List ℕ) : Type 0 where
  pub told : o ≡ in_numbers (answer t x)
  pub left : u ≡ next t x

-- Fresh tables are made in tables of exactly the required length; others are BAD TABLES and stay.
abbrev pub fits : List ℕ → Bool
fits t = eqb (length t) tables_size

pub record Freshened (t u : List ℕ) (r : Answer) : Type 0 where
  pub told : r ≡ pick (fits t) (Ok 0) (Err BadTables)
  pub left : u ≡ pick (fits t) fresh_tables t

pub record FreshenedInNumbers (t u : List ℕ) (n : ℕ) : Type 0 where
  pub told : n ≡ answer_number (pick (fits t) (Ok 0) (Err BadTables))
  pub left : u ≡ pick (fits t) fresh_tables t
