-- 01, "Well formed". Of the paragraph's sentences two are about the tables: "The tables have exactly the required length"
-- and "Unused fields are zero": they are the numbers of the machine that they show. The others are `sound` of that machine.
-- Assumes nothing.
use Rattle.std.specs.Prelude.{ℕ, Bool, true, false, ◌&&◌, List, [], ◌∷◌, eqb}
use Rattle.rules.specs.Sound.{is_many, sound}
use Rattle.tables.specs.Layout.{tables_size, numbers, machine}

-- The same numbers in the same order.
unfoldable pub same : List ℕ → List ℕ → Bool
same [] [] = true
same [] (y ∷ ys) = false
same (x ∷ xs) [] = false
same (x ∷ xs) (y ∷ ys) = eqb x y && same xs ys

unfoldable pub well_formed : List ℕ → Bool
well_formed t = is_many tables_size t && (same t (numbers (machine t)) && sound (machine t))
