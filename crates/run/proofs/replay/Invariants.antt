use Rattle.tables.specs.Layout.{machine}
use Rattle.access.specs.Lent.{Lent}
use Rattle.records.proofs.Running.{Running}
use Rattle.run.proofs.replay.Given as goal

abbrev pub invariant-loop-record : goal.invariant-loop-record
invariant-loop-record l = Lent l.t × Running l.bytes l.record-iterator (machine l.t)
