-- What an inner function takes for granted of the tables: that they are well formed, and so have their length.
-- Assumes nothing.
use Rattle.std.specs.Prelude.{ℕ, ◌≡◌, true, List, length}
use Rattle.tables.specs.Layout.{tables_size}
use Rattle.tables.specs.WellFormed.{well_formed}

pub record Lent (t : List ℕ) : Type 0 where
  pub formed : well_formed t ≡ true
  pub sized : length t ≡ tables_size
