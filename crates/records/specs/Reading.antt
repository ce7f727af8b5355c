-- What a reader of a tape gives, one record at a time, and what is left to tell.
-- Assumes nothing.
use Rattle.std.specs.Prelude.{ℕ, suc, ◌+◌, ◌≡◌, true, false, List, length, drop, Option, Some, None, Result, Ok, Err}
use Rattle.things.specs.Lists.{pick}
use Rattle.rules.specs.Machine.{Machine}
use Rattle.rules.specs.Step.{Call}
use Rattle.text.specs.Text.{◌▹◌}
use Rattle.text.specs.Tape.{Tape, nothing_more, with_call, is_end, is_record, call_from, tape, lines, ending}
use Rattle.records.specs.declared.NoRecord.{NoRecord}

-- From a tape: its first call, and the rest is left; or its end; or that it stops here, and nothing is left.
abbrev pub Gives : Tape → Option (Result Call NoRecord) → Tape → Type 0
Gives t None left = (t ≡ nothing_more true) × (left ≡ nothing_more true)
Gives t (Some (Ok x)) left = t ≡ with_call x left
Gives t (Some (Err e)) left = (t ≡ nothing_more false) × (left ≡ nothing_more true)

-- The tape from a position on.
abbrev pub tape_from : List ℕ → ℕ → Tape
tape_from bs k = tape (drop k bs)

-- What is given at a position: nothing at the tape's end, a record's call, or that none begins: it is cut short or has
-- another mark.
unfoldable pub read_at : List ℕ → ℕ → Option (Result Call NoRecord)
read_at bs k = pick (is_end (drop k bs)) None (pick (is_record (drop k bs)) (Some (Ok (call_from (drop k bs)))) (Some (Err (record {}))))

-- How many times something is given before the end: each call, and that the tape stops.
abbrev pub items_left : Tape → ℕ
items_left t = length t.calls + pick t.ended 0 1

-- What is told of the rest of a tape, after n records.
unfoldable pub told_from : ℕ → Machine → Tape → List ℕ
told_from n M t = lines (suc n) M t.calls ▹ ending (n + length t.calls) t.ended
