-- The table's rows by number.
-- Assumes nothing.
use Prim.Native.Nat.{ℕ, zero, suc, ◌≤◌}
use native.Mathlib.Omega.{arith}
use mathlib.Core.Path.{◌≡◌, refl}
use lib.Dec.{leb}
use lib.ListN.{get_or-eq_default}
use borrow.Author.Tests.{leb-true, leb-false}
use mathlib.Core.Bool.{Bool, true, false}
use Rattle.rules.specs.Step.{rows, no_call, row_of}

-- A number that is none of the seventeen.
pub no_such : (n : ℕ) → (1 ≤ n → n ≤ 17 → ⊥) → row_of n ≡ no_call
unfolding rows
no_such zero h = refl
no_such (suc n) h = get_or-eq_default rows no_call (go (leb 18 (suc n)) refl)
  where
    go : (b : Bool) → leb 18 (suc n) ≡ b → 18 ≤ suc n
    go true e = leb-true 18 (suc n) e
    go false e = let l = leb-false 18 (suc n) e in absurd (h (omega arith) (omega arith))
