-- Text as bytes: quoted text, numbers in decimal, one text after another.
-- Assumes nothing.
use Rattle.std.specs.Prelude.{ℕ, zero, suc, ◌+◌, ◌/◌, ◌%◌, List, [], ◌∷◌, ◌++◌, ltb}
use Prim.Native.Char.{code}
use Prim.Native.String.{String}
use Rattle.things.specs.Lists.{pick}

-- The bytes of a quoted text; every character that is quoted here is a single byte.
abbrev pub say : String → List ℕ
say String.[] = []
say (String.◌∷◌ c s) = code c ∷ say s

-- One text, and another after it.
infixr 40 ◌▹◌
unfoldable pub ◌▹◌ : List ℕ → List ℕ → List ℕ
t ▹ u = t ++ u

-- n in decimal, of at most `digits` digits.
unfoldable pub decimal_in : ℕ → ℕ → List ℕ
decimal_in zero n = []
decimal_in (suc digits) n = pick (ltb n 10) ((48 + n) ∷ []) (decimal_in digits (n / 10) ++ ((48 + n % 10) ∷ []))

-- No number that is printed has more than twenty digits.
unfoldable pub decimal : ℕ → List ℕ
decimal n = decimal_in 20 n

-- A number, and what stands after it.
unfoldable pub number : ℕ → String → List ℕ
number n s = decimal n ▹ say s

-- The texts of each element, one after another.
unfoldable pub texts : {A : Type 0} → (A → List ℕ) → List A → List ℕ
texts f [] = []
texts f (x ∷ xs) = f x ▹ texts f xs
