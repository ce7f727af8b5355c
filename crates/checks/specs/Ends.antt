-- What a call of the code has to answer and to leave in the tables.
-- Assumes nothing.
use Rattle.std.specs.Prelude.{ℕ, ◌≡◌, List}
use Rattle.things.specs.Answers.{Answer}
use Rattle.rules.specs.Checks.{Result, answer_of}
use Rattle.tables.specs.Call.{tables_after}

-- The answer is the result's, and so is every number of the tables.
pub record Ends (R : Result) (t u : List ℕ) (r : Answer) : Type 0 where
  pub answered : r ≡ answer_of R
  pub left : u ≡ tables_after t R
