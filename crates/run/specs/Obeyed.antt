-- One call of a run on well-formed tables: its answer, and tables that are well formed again and show the machine after it.
-- Assumes nothing.
use Rattle.std.specs.Prelude.{ℕ, ◌≡◌, List}
use Rattle.things.specs.Answers.{Answer}
use Rattle.rules.specs.Checks.{answer_of, after}
use Rattle.rules.specs.Step.{Call, step}
use Rattle.tables.specs.Layout.{machine}
use Rattle.access.specs.Lent.{Lent}

pub record Obeyed (t : List ℕ) (x : Call) (r : Answer) (u : List ℕ) : Type 0 where
  pub answered : r ≡ answer_of (step (machine t) x)
  pub again : Lent u
  pub shown : machine u ≡ after (machine t) (step (machine t) x)
