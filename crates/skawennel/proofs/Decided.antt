-- A call on tables that are damaged, and on tables that aren't.
-- Assumes nothing.
use Prim.Native.Nat.{ℕ}
use mathlib.Core.Path.{◌≡◌, refl, ap}
use mathlib.Core.Bool.{Bool, true, false, not}
use mathlib.Core.List.{List}
use Rattle.things.specs.declared.Refusal.TheVariants.{BadTables}
use Rattle.rules.specs.Checks.{refused}
use Rattle.rules.specs.Step.{Call}
use lib.ListN.{length}
use Rattle.tables.specs.Layout.{tables_size}
use Rattle.tables.proofs.Laws.{formed}
use Rattle.tables.specs.WellFormed.{well_formed}
use Rattle.tables.specs.Call.{decide}
use Rattle.checks.proofs.Deciding.{refusing}

pub other-length : (t : List ℕ) → (length t ≡ tables_size → ⊥) → well_formed t ≡ false
other-length t h = go (well_formed t) refl
  where
    go : (b : Bool) → well_formed t ≡ b → well_formed t ≡ false
    go true e = absurd (h (formed t e).long)
    go false e = e

pub decide-damaged : (t : List ℕ) (x : Call) → well_formed t ≡ false → decide t x ≡ refused BadTables
unfolding decide
decide-damaged t x h = refusing _ _ _ (ap not h)
