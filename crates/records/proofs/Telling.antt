-- What a run of a tape has told, record by record, and what is left to tell.
-- Assumes nothing.
use Prim.Native.Nat.{ℕ, suc, ◌+◌, ◌*◌, ◌<◌, ◌≤◌}
use native.Mathlib.Omega.{arith}
use native.Mathlib.Nat.{add-zero, zero-add}
use native.Mathlib.Numerals.{add-one}
use mathlib.Core.Path.{◌≡◌, ap, subst, ◌∙◌}
use mathlib.Core.Bool.{Bool, true, false}
use mathlib.Core.List.{List, [], ◌∷◌}
use lib.ListN.{length}
use borrow.Author.Tests.{lt-ltb, le-ltb}
use Rattle.std.specs.Borrow.{MutBor}
use Rattle.things.specs.Answers.{Answer}
use Rattle.rules.specs.Machine.{Machine, fresh}
use Rattle.rules.specs.Checks.{answer_of, after}
use Rattle.rules.specs.Sound.{sound}
use Rattle.rules.specs.Step.{Call, step, run}
use Rattle.rules.proofs.KeepCalls.{step_keeps}
use Rattle.rules.proofs.Worked.{fresh-sound}
use Rattle.text.specs.Text.{say, ◌▹◌}
use Rattle.text.specs.Tree.{trees, tree_text}
use Rattle.text.specs.Tape.{Tape, unless_long, tape_text, longest, nothing_more, with_call, tape, line, lines, ending, told}
use Rattle.print.specs.declared.Text.{Text}
use Rattle.print.specs.Writing.{blank, followed_by, Room, Wrote}
use Rattle.print.proofs.Writing.{none_both, both-assoc, both-length, first, blank-room, wrote, Left, left-start, left_as, left_step, left-last}
use Rattle.print.proofs.Lines.{tape-line-length, ending-length}
use Rattle.records.specs.Reading.{Gives, told_from}
use Rattle.std.proofs.Common.{Fits, w8, get_or}
use Rattle.std.specs.Prelude.{Some, None, Result, Ok, Err}
use Rattle.records.proofs.Values.{value-small}
use Rattle.records.specs.declared.NoRecord.{NoRecord}
use Rattle.records.proofs.Steps.{AllOnTape, tape_calls, tape_few, gives_call, gives_stop}
use Rattle.records.proofs.Running.{Running, running_start, running_record}

-- What is told, by one record at a time.
pub told_start : (M : Machine) (T : Tape) → told M T ≡ told_from 0 M T
unfolding told told_from
told_start M T = rw (zero-add (length T.calls))

pub told_none : (n : ℕ) (M : Machine) (b : Bool) → told_from n M (nothing_more b) ≡ ending n b
unfolding told_from lines
told_none n M b = rw (add-zero n) (none_both (ending n b))

pub told_record : (n : ℕ) (M : Machine) (x : Call) (T : Tape) → told_from n M (with_call x T) ≡ line (suc n) x (answer_of (step M x)) ▹ told_from (suc n) (after M (step M x)) T
unfolding told_from lines with_call
told_record n M x T =
    let e : n + suc (length T.calls) ≡ suc n + length T.calls = omega arith in
    rw e (both-assoc (line (suc n) x (answer_of (step M x))) (lines (suc (suc n)) (after M (step M x)) T.calls) (ending (suc n + length T.calls) T.ended))

-- A buffer for any tape that is not too long: 4,096 lines of at most 22 bytes each, and an ending.
abbrev pub told_size : ℕ
told_size = 22 * 4096 + 10

lines_length : (n : ℕ) (M : Machine) (xs : List Call) → n + length xs ≤ 4097 → AllOnTape xs → sound M ≡ true → length (lines n M xs) ≤ 22 * length xs
unfolding lines
lines_length n M [] few calls good = omega arith
lines_length n M (x ∷ xs) few calls good =
    let a = tape-line-length n x (answer_of (step M x)) (omega arith) calls.0.caller calls.0.number (value-small M x good) in
    let b = lines_length (suc n) (after M (step M x)) xs (omega arith) calls.1 (step_keeps M x calls.0.sixteen good) in
    let e = both-length (line n x (answer_of (step M x))) (lines (suc n) (after M (step M x)) xs) in
    omega arith

pub told_length : (bs : List ℕ) → ((i : ℕ) → Fits w8 (get_or bs i 0)) → length bs ≤ longest → length (told fresh (tape bs)) ≤ told_size
unfolding told
told_length bs h few =
    let f = tape_few bs few in
    let a = lines_length 1 fresh (tape bs).calls (omega arith) (tape_calls bs (λ i. (h i).fits)) fresh-sound in
    let b = ending-length (length (tape bs).calls) (tape bs).ended (omega arith) in
    let e = both-length (lines 1 fresh (tape bs).calls) (ending (length (tape bs).calls) (tape bs).ended) in
    omega arith

-- A run that has told n records: what is left to tell leads where all there was to tell led, and has room.
pub record Telling (bs : List ℕ) (s₀ s : Text) (n : ℕ) (t : Tape) (M : Machine) : Type 0 where
  pub running : Running bs t M
  pub place : n + length t.calls ≡ length (tape bs).calls
  pub room : Room s₀ (told fresh (tape bs))
  pub left : Left s₀ (told fresh (tape bs)) s (told_from n M t)

pub telling_start : {bs : List ℕ} {b : MutBor (List ℕ)} {s : Text} {t : Tape} {M : Machine} → ((i : ℕ) → Fits w8 (get_or bs i 0)) → length bs ≤ longest → s ≡ blank b → told_size ≤ length b.now → t ≡ tape bs → M ≡ fresh → Telling bs s s 0 t M
telling_start {bs} {b} {s} {t} {M} h few start room e f =
    let n = told_length bs h few in
    let r = blank-room (told fresh (tape bs)) start (omega arith) in
    record { running = running_start h e f; place = rw e (omega arith); room = r; left = rw (e, f) (left_as (told_start fresh (tape bs)) (left-start r)) }

module _ {bs : List ℕ} {s₀ s : Text} {n : ℕ} {t : Tape} {M : Machine} (r : Telling bs s₀ s n t M) where
  pub telling_few : length bs ≤ longest → n ≤ 4096
  telling_few few = let f = tape_few bs few in omega (arith, r.place)

  -- A call, which the machine answers y.
  module _ (x : Call) (left : Tape) {y : Answer} (e : t ≡ with_call x left) (f : y ≡ answer_of (step M x)) where
    one_more : n + suc (length left.calls) ≡ length (tape bs).calls
    unfolding with_call
    one_more = subst (λ (u : Tape). n + length u.calls ≡ length (tape bs).calls) e r.place

    left_more : Left s₀ (told fresh (tape bs)) s (line (n + 1) x y ▹ told_from (suc n) (after M (step M x)) left)
    left_more = rw (add-one n, f) (left_as (ap (told_from n M) e ∙ told_record n M x left) r.left)

    told_one : {N : Machine} {s' : Text} → N ≡ after M (step M x) → s' ≡ followed_by s (line (n + 1) x y) → Telling bs s₀ s' (n + 1) left N
    told_one p w = record {
      running = running_record r.running x left e p;
      place = omega (arith, one_more);
      room = r.room;
      left = rw (add-one n, p) (left_step _ _ left_more w);
    }

  module _ {g : Result Call NoRecord} (left : Tape) (a : Gives t (Some g) left) where
    pub telling_room : {x : Call} {y : Answer} → g ≡ Ok x → y ≡ answer_of (step M x) → Room s (line (n + 1) x y)
    telling_room {x} e f = first _ _ (left_more x left (gives_call t left a e) f).room

    pub telling_given : {x : Call} {y : Answer} {N : Machine} {s' : Text} → g ≡ Ok x → y ≡ answer_of (step M x) → N ≡ after M (step M x) → s' ≡ followed_by s (line (n + 1) x y) → Telling bs s₀ s' (n + 1) left N
    telling_given {x} e f p w = told_one x left (gives_call t left a e) f p w

  -- How it ends.
  left_last : (b : Bool) → t ≡ nothing_more b → Left s₀ (told fresh (tape bs)) s (ending n b)
  left_last b e = left_as (ap (told_from n M) e ∙ told_none n M b) r.left

  -- A text that started in a buffer, after its last line.
  all_told : {b : MutBor (List ℕ)} {s' : Text} {u : List ℕ} {k : ℕ} → Left s₀ (told fresh (tape bs)) s u → s₀ ≡ blank b → s' ≡ followed_by s u → k ≡ s'.at → Wrote b.now s'.out.now 0 k (told fresh (tape bs))
  all_told {b} a start w end =
      let m : Room (blank b) (told fresh (tape bs)) = subst (λ (x : Text). Room x (told fresh (tape bs))) start r.room in
      wrote start (omega (arith, m.fits)) (left-last a w) end

  module _ (left : Tape) (a : Gives t None left) where
    pub end_room : Room s (ending n true)
    end_room = (left_last true a.0).room

    pub telling_end : {b : MutBor (List ℕ)} {s' : Text} {k : ℕ} → s₀ ≡ blank b → s' ≡ followed_by s (ending n true) → k ≡ s'.at → Wrote b.now s'.out.now 0 k (told fresh (tape bs))
    telling_end start w end = all_told (left_last true a.0) start w end

  module _ {g : Result Call NoRecord} {e : NoRecord} (left : Tape) (a : Gives t (Some g) left) (f : g ≡ Err e) where
    pub stop_room : Room s (ending n false)
    stop_room = (left_last false (gives_stop t left a f)).room

    pub telling_stop : {b : MutBor (List ℕ)} {s' : Text} {k : ℕ} → s₀ ≡ blank b → s' ≡ followed_by s (ending n false) → k ≡ s'.at → Wrote b.now s'.out.now 0 k (told fresh (tape bs))
    telling_stop start w end = all_told (left_last false (gives_stop t left a f)) start w end

-- What both programs print, by the tape's length.
module _ (bs : List ℕ) where
  pub too_long : longest < length bs → (tape_text bs ≡ say "LONG\n") × (tree_text bs ≡ say "LONG\n")
  unfolding tape_text tree_text unless_long
  too_long h = (rw (lt-ltb longest (length bs) h), rw (lt-ltb longest (length bs) h))

  pub not-long : length bs ≤ longest → (tape_text bs ≡ told fresh (tape bs)) × (tree_text bs ≡ trees (run fresh (tape bs).calls))
  unfolding tape_text tree_text unless_long
  not-long h = (rw (le-ltb longest (length bs) h), rw (le-ltb longest (length bs) h))
