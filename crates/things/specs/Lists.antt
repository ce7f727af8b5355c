-- What is asked of a list: all of it, any of it, how many, the first; and whether numbers are distinct.
-- Assumes nothing.
use Rattle.std.specs.Prelude.{ℕ, zero, suc, Bool, true, false, not, ◌&&◌, ◌||◌, List, [], ◌∷◌, ◌++◌, eqb}

-- One of two, by a test.
abbrev pub pick : {A : Type 0} → Bool → A → A → A
pick true a b = a
pick false a b = b

-- Every element passes.
unfoldable pub every : {A : Type 0} → (A → Bool) → List A → Bool
every f [] = true
every f (x ∷ xs) = f x && every f xs

-- Some element passes.
unfoldable pub some : {A : Type 0} → (A → Bool) → List A → Bool
some f [] = false
some f (x ∷ xs) = f x || some f xs

-- How many elements pass.
unfoldable pub how_many : {A : Type 0} → (A → Bool) → List A → ℕ
how_many f [] = 0
how_many f (x ∷ xs) = pick (f x) (suc (how_many f xs)) (how_many f xs)

-- The position of the first element that passes; the list's length where none does.
unfoldable pub first : {A : Type 0} → (A → Bool) → List A → ℕ
first f [] = zero
first f (x ∷ xs) = pick (f x) zero (suc (first f xs))

-- No two of the numbers are equal, zeros aside.
unfoldable pub distinct : List ℕ → Bool
distinct [] = true
distinct (n ∷ ns) = (eqb n 0 || not (some (eqb n) ns)) && distinct ns

-- The numbers of each element, one element after another.
unfoldable pub flat : {A : Type 0} → (A → List ℕ) → List A → List ℕ
flat f [] = []
flat f (x ∷ xs) = f x ++ flat f xs

-- What f gives for n numbers from k on.
unfoldable pub up_from : {A : Type 0} → ℕ → ℕ → (ℕ → A) → List A
up_from zero k f = []
up_from (suc n) k f = f k ∷ up_from n (suc k) f
