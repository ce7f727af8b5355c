-- What the function that judges a call answers, of which the two calls are made.
-- Assumes nothing.
use Rattle.std.specs.Prelude.{Bool, Ok, Err}
use Rattle.things.specs.declared.Refusal.TheVariants.{BadTables, BadNumber}
use Rattle.things.specs.Answers.{Answer}
use Rattle.things.specs.Lists.{pick}

-- The answer, of whether the list is sound and whether the numbers are in range.
unfoldable pub judged : Bool → Bool → Answer
judged sound in_range = pick sound (pick in_range (Ok 0) (Err BadNumber)) (Err BadTables)
