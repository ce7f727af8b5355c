-- What a list of checks comes to, and how a function that makes them answers.
-- Assumes nothing.
use Rattle.std.specs.Prelude.{◌≡◌, List, [], ◌∷◌, Result, MatchResult}
use Rattle.things.specs.declared.Refusal.{Refusal}
use Rattle.things.specs.Lists.{pick}
use Rattle.rules.specs.Checks.{Check}

-- The first that applies stops.
pub data Verdict : Type 0 where
  passes : Verdict
  stops : Refusal → Verdict

unfoldable pub verdict : List Check → Verdict
verdict [] = passes
verdict (x ∷ xs) = pick x.applies (stops x.refusal) (verdict xs)

-- What is asked for is answered where all pass, and else the refusal of the first that applies.
abbrev pub Judged : {A : Type 0} → Result A Refusal → List Check → (A → Type 0) → Type 0
Judged r xs P = MatchResult r (λ x. (verdict xs ≡ passes) × P x) (λ why. verdict xs ≡ stops why)
