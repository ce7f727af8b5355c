-- A call on lent tables, good or damaged, and a run of calls: demands 1 and 2 as definitions.
-- Assumes nothing.
use Rattle.std.specs.Prelude.{ℕ, not, List, [], ◌∷◌}
use Rattle.things.specs.declared.Refusal.TheVariants.{BadTables}
use Rattle.things.specs.Answers.{Answer}
use Rattle.rules.specs.Machine.{fresh}
use Rattle.rules.specs.Changes.{apply_all}
use Rattle.rules.specs.Checks.{Result, refused, done, answer_of, ◌when◌, unless}
use Rattle.rules.specs.Step.{Call, step}
use Rattle.tables.specs.Layout.{numbers, machine}
use Rattle.tables.specs.WellFormed.{well_formed}

-- "BAD TABLES: not well formed", before every other check; then the rules, on the machine that the tables show.
unfoldable pub decide : List ℕ → Call → Result
decide t x =
    unless
    ((BadTables when not (well_formed t))
    ∷ [])
    (step (machine t) x)

-- "Each refusal is given .. with value 0 and the tables untouched."
unfoldable pub tables_after : List ℕ → Result → List ℕ
tables_after t (refused why) = t
tables_after t (done value xs) = numbers (apply_all (machine t) xs)

-- A call's answer, and every number of the tables after it.
abbrev pub answer : List ℕ → Call → Answer
answer t x = answer_of (decide t x)

abbrev pub next : List ℕ → Call → List ℕ
next t x = tables_after t (decide t x)

-- A run: each call on the tables that the call before left.
unfoldable pub answers_on : List ℕ → List Call → List Answer
answers_on t [] = []
answers_on t (x ∷ xs) = answer t x ∷ answers_on (next t x) xs

unfoldable pub run_on : List ℕ → List Call → List ℕ
run_on t [] = t
run_on t (x ∷ xs) = run_on (next t x) xs

-- The tables of the fresh machine.
unfoldable pub fresh_tables : List ℕ
fresh_tables = numbers fresh
