-- What a make puts into a place, by kind, as the code stores it.
-- Assumes nothing.
use Rattle.std.specs.Prelude.{ℕ, zero, suc, List, ◌∷◌, replicate, eqb}
use Rattle.things.specs.declared.ObjectNumber.{ObjectNumber}
use Rattle.things.specs.Lists.{pick}
use Rattle.tables.specs.Layout.{inside_size}
use Rattle.rules.specs.Machine.{WORDS, DIRECTORY, Body, segment, type, empty_directory}

-- Kinds 1, 2 and 3.
unfoldable pub new_body : ℕ → ℕ → Body
new_body zero permits = type
new_body (suc zero) permits = segment (replicate WORDS 0)
new_body (suc (suc zero)) permits = empty_directory permits
new_body (suc (suc (suc kind))) permits = type

abbrev pub new_permits : ℕ → ℕ → ℕ
new_permits kind permits = pick (eqb kind DIRECTORY) permits 0

-- A place's head, and nothing inside yet.
unfoldable pub headed : ℕ → ℕ → ℕ → ObjectNumber → List ℕ
headed kind serial permits of = kind ∷ serial ∷ permits ∷ of.0 ∷ of.1 ∷ replicate inside_size 0
