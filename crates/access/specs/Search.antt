-- What a search answers: the place of a package or the position in a directory that is found, or that there is none.
-- Assumes nothing.
use Rattle.std.specs.Prelude.{ℕ, ◌≡◌, ◌≤◌, Option, MatchOption}
use Rattle.rules.specs.Machine.{PLACES, ENTRIES}
use Rattle.access.specs.declared.which.Place.{Place}
use Rattle.access.specs.declared.which.Position.{Position}

-- The search came to place i of package p; past the sixteenth there is none.
abbrev pub FoundIn : Option Place → ℕ → ℕ → Type 0
FoundIn r p i = MatchOption r (PLACES ≤ i) (λ at. (at.maker ≡ p) × (at.number ≡ i))

-- The search came to position j; past the sixteenth there is none.
abbrev pub FoundAt : Option Position → ℕ → Type 0
FoundAt r j = MatchOption r (ENTRIES ≤ j) (λ at. at.number ≡ j)
