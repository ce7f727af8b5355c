-- Demand 3 over lent tables: a side's tables are whole blocks, and the premises are those of the machine that the tables show at
-- each moment.
-- Assumes nothing.
use Rattle.std.specs.Prelude.{ℕ, ◌*◌, ◌<◌, ◌≡◌, Bool, true, ◌&&◌, List, [], ◌∷◌, take, drop}
use Rattle.rules.specs.Machine.{PACKAGES, Machine}
use Rattle.rules.specs.Step.{Call}
use Rattle.tables.specs.Layout.{block_size, machine}
use Rattle.tables.specs.WellFormed.{well_formed}
use Rattle.tables.specs.Call.{next, answers_on, run_on}
use Rattle.sides.specs.Sides.{Split, near_names, far_rights, far_kinds, not_far_to_near, gives_such, near_answers}

-- Package p's block: its last serial, slots and places.
unfoldable pub block : List ℕ → ℕ → List ℕ
block t p = take block_size (drop (p * block_size) t)

-- At each call of a run, on the machine that the tables show then.
unfoldable pub throughout_on : (Machine → Call → Bool) → List ℕ → List Call → Bool
throughout_on f t [] = true
throughout_on f t (x ∷ xs) = f (machine t) x && throughout_on f (next t x) xs

-- The letter's premises, of tables and a tape.
pub record PremisesOn (kinds : List ℕ) (near : Split) (t : List ℕ) (xs : List Call) : Type 0 where
  pub well-formed : well_formed t ≡ true
  pub near-names : near_names near (machine t) ≡ true
  pub far-rights : far_rights near (machine t) ≡ true
  pub far-kinds : far_kinds kinds near (machine t) ≡ true
  pub none-back : throughout_on (not_far_to_near near) t xs ≡ true
  pub only-such : throughout_on (gives_such kinds near) t xs ≡ true

-- "the same near tables"
abbrev pub SameBlocks : Split → List ℕ → List ℕ → Type 0
SameBlocks near t u = (p : ℕ) → p < PACKAGES → near p ≡ true → block t p ≡ block u p

pub record SameForNearOn (near : Split) (t : List ℕ) (xs : List Call) (u : List ℕ) (ys : List Call) : Type 0 where
  pub answers-same : near_answers near xs (answers_on t xs) ≡ near_answers near ys (answers_on u ys)
  pub ends_same : SameBlocks near (run_on t xs) (run_on u ys)
