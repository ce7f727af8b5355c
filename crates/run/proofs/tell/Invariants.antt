use Rattle.tables.specs.Layout.{machine}
use Rattle.access.specs.Lent.{Lent}
use Rattle.records.proofs.Telling.{Telling}
use Rattle.run.proofs.tell.Given as goal

abbrev pub invariant-loop-record : goal.invariant-loop-record
invariant-loop-record l = Lent l.t × Telling l.bytes l.initial.text l.text l.n l.record-iterator (machine l.t)
