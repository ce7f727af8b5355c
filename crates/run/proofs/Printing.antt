-- What a text function answers is within the buffer that it wrote into.
-- Assumes nothing.
use Prim.Native.Nat.{ℕ, ◌≤◌}
use mathlib.Core.List.{List}
use lib.ListN.{length}
use Rattle.print.specs.Writing.{Wrote}
use Rattle.print.proofs.Writing.{wrote-within}

pub text_within : {l l' : List ℕ} {n : ℕ} {t : List ℕ} → Wrote l l' 0 n t → n ≤ length l'
text_within w = wrote-within w
