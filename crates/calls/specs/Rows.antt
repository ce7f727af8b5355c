-- A row of the table in the code is a row of the rules, but for what it does.
-- Assumes nothing.
use Rattle.std.specs.Prelude.{◌≡◌}
use Rattle.rules.specs.Step.{Row}
use Rattle.calls.specs.declared.table.Row.{Row as Written}

abbrev pub IsRow : Row → Written → Type 0
IsRow r w = (w.callers ≡ r.callers) × (w.a ≡ r.a) × (w.b ≡ r.b) × (w.c ≡ r.c) × (w.d ≡ r.d) × (w.e ≡ r.e)
