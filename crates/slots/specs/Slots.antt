-- "The sixteen slots of one package are also offered as a list of capability records, changed only by the call. Restrict
-- and drop work on it" (01, at the end of "The tape and the two programs"). All is said by the definitions of the calls
-- on the tables.
-- Assumes nothing.
use Rattle.std.specs.Prelude.{ℕ, ◌≡◌, Bool, not, ◌&&◌, List, [], ◌∷◌, ltb}
use Rattle.things.specs.declared.ObjectNumber.{ObjectNumber}
use Rattle.things.specs.declared.Capability.{Capability}
use Rattle.things.specs.declared.Outcome.{Outcome}
use Rattle.things.specs.declared.Refusal.TheVariants.{BadTables}
use Rattle.things.specs.Answers.{Answer, in_numbers}
use Rattle.things.specs.Lists.{every}
use Rattle.things.specs.Rights.{maker, serial}
use Rattle.rules.specs.Machine.{PACKAGES, SLOTS, Machine, package_of}
use Rattle.rules.specs.Sound.{is_many, capability_sound}
use Rattle.rules.specs.Checks.{Result, answer_of, after, ◌when◌, unless}
use Rattle.rules.specs.Step.{Call, step}

-- "Whether a serial was issued isn't looked at there": a maker, and any serial but 0. Its field has no room for one above
-- 65,535.
unfoldable pub could_be_issued : ObjectNumber → Bool
could_be_issued o = ltb (maker o) PACKAGES && ltb 0 (serial o)

-- "Another length, a field out of range, or serial 0 in a record that isn't all zero is BAD TABLES": what is asked of a
-- package's slots in the tables, of any number that could be issued.
unfoldable pub slots_sound : List Capability → Bool
slots_sound l = is_many SLOTS l && every (capability_sound could_be_issued) l

-- The package whose slots these are, alone: restrict and drop look at nothing else. It is package 0, and the caller.
abbrev pub alone : List Capability → Machine
alone l = record { last = 0; slots = l; places = [] } ∷ []

-- A call by a package with its numbers; d and e are unlisted in both calls.
abbrev pub called_by : ℕ → ℕ → ℕ → ℕ → ℕ → Call
called_by p number a b c = record { caller = p; number = number; a = a; b = b; c = c; d = 0; e = 0 }

-- The two calls by the package whose list it is.
abbrev pub to_restrict : ℕ → ℕ → ℕ → Call
to_restrict a b c = called_by 0 1 a b c

abbrev pub to_drop : ℕ → Call
to_drop a = called_by 0 2 a 0 0

-- BAD TABLES before every other check; then the rules.
unfoldable pub decide : List Capability → Call → Result
decide l x =
    unless
    ((BadTables when not (slots_sound l))
    ∷ [])
    (step (alone l) x)

-- A call's answer, and every record of the list after it.
unfoldable pub answer : List Capability → Call → Answer
answer l x = answer_of (decide l x)

unfoldable pub next : List Capability → Call → List Capability
next l x = (package_of (after (alone l) (decide l x)) 0).slots

-- How a call on the list l ends: its outcome r, and the list k after it.
pub record Ended (l : List Capability) (x : Call) (r : Outcome) (k : List Capability) : Type 0 where
  pub outcome : r ≡ in_numbers (answer l x)
  pub list : k ≡ next l x
