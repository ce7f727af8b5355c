-- The tape, and what the tape program prints for any input bytes.
-- Assumes nothing.
use Rattle.std.specs.Prelude.{ℕ, zero, suc, ◌+◌, ◌*◌, Bool, true, false, ◌&&◌, List, [], ◌∷◌, length, get_or, drop, eqb, ltb, leb}
use Rattle.things.specs.Answers.{Answer}
use Rattle.things.specs.Answers.{answer_number, answer_value}
use Rattle.things.specs.Lists.{pick}
use Rattle.rules.specs.Machine.{Machine, fresh}
use Rattle.rules.specs.Checks.{answer_of, after}
use Rattle.rules.specs.Step.{Call, step}
use Rattle.text.specs.Text.{say, number, ◌▹◌}

-- "A record is 14 bytes"; "at most 57,344 bytes (4,096 records)"
abbrev pub record_size : ℕ
record_size = 14

abbrev pub longest : ℕ
longest = 4096 * record_size

-- "every record on the tape begins with the bytes 50 43 (hex)"
unfoldable pub is_record : List ℕ → Bool
is_record bs = leb record_size (length bs) && (eqb (get_or bs 0 0) 0x50 && eqb (get_or bs 1 0) 0x43)

-- "16-bit numbers, low byte first"
abbrev pub word_at : List ℕ → ℕ → ℕ
word_at bs i = get_or bs i 0 + 256 * get_or bs (i + 1) 0

-- ".. then caller, call, and a to e"
unfoldable pub call_from : List ℕ → Call
call_from bs =
    record {
      caller = get_or bs 2 0;
      number = get_or bs 3 0;
      a = word_at bs 4;
      b = word_at bs 6;
      c = word_at bs 8;
      d = word_at bs 10;
      e = word_at bs 12;
    }

-- The calls of a tape up to its end or its stop, and whether it ended: that is, no record was cut short or had another mark.
pub record Tape : Type 0 where
  pub calls : List Call
  pub ended : Bool

abbrev pub nothing_more : Bool → Tape
nothing_more ended = record { calls = []; ended = ended }

unfoldable pub with_call : Call → Tape → Tape
with_call x t = record { calls = x ∷ t.calls; ended = t.ended }

unfoldable pub is_end : List ℕ → Bool
is_end [] = true
is_end (b ∷ bs) = false

-- No tape has more records than bytes.
unfoldable pub records_in : ℕ → List ℕ → Tape
records_in zero bs = nothing_more (is_end bs)
records_in (suc most) bs =
    let more = with_call (call_from bs) (records_in most (drop record_size bs)) in
    pick (is_end bs) (nothing_more true) (pick (is_record bs) more (nothing_more false))

unfoldable pub tape : List ℕ → Tape
tape bs = records_in (length bs) bs

-- "Per record it prints record number from 1, caller, call, answer, value."
unfoldable pub line : ℕ → Call → Answer → List ℕ
line n x y =
    number n " " ▹ number x.caller " " ▹ number x.number " " ▹ number (answer_number y) " " ▹ number (answer_value y) "\n"

unfoldable pub lines : ℕ → Machine → List Call → List ℕ
lines n M [] = []
lines n M (x ∷ xs) = line n x (answer_of (step M x)) ▹ lines (suc n) (after M (step M x)) xs

-- "It ends with `END` and the count of records. At a record that is cut short or has another mark it prints `STOP` and
-- that record's number instead, and no more."
unfoldable pub ending : ℕ → Bool → List ℕ
ending n true = say "END " ▹ number n "\n"
ending n false = say "STOP " ▹ number (suc n) "\n"

unfoldable pub told : Machine → Tape → List ℕ
told M t = lines 1 M t.calls ▹ ending (length t.calls) t.ended

-- "a longer tape prints only `LONG`"
unfoldable pub unless_long : List ℕ → List ℕ → List ℕ
unless_long bs text = pick (ltb longest (length bs)) (say "LONG\n") text

-- What the tape program prints, which "starts fresh".
unfoldable pub tape_text : List ℕ → List ℕ
tape_text bs = unless_long bs (told fresh (tape bs))
