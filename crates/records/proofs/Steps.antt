-- A tape from its bytes, whatever number of records it is asked for: its end, a record and the rest, or a stop.
-- Assumes nothing.
use Prim.Native.Nat.{ℕ, zero, suc, ◌+◌, ◌*◌, ◌-◌, ◌<◌, ◌≤◌}
use native.Mathlib.Omega.{arith}
use mathlib.Core.Path.{◌≡◌, refl, sym, ap, subst, ◌∙◌}
use mathlib.Core.Bool.{Bool, true, false}
use mathlib.Core.List.{List, [], ◌∷◌}
use lib.ListN.{length, get_or, take, drop, length-drop}
use Rattle.std.proofs.lemmas.List.{take_rest}
use lib.Seq.{get_or-drop, drop-drop}
use lib.Dec.{leb}
use borrow.Author.Tests.{leb-true}
use Rattle.std.specs.Prelude.{Option, None, Some, Result, Ok, Err}
use Rattle.things.specs.Lists.{pick}
use Rattle.things.proofs.ListLaws.{and_parts, never}
use Rattle.rules.specs.Step.{Call, SixteenBit}
use Rattle.rules.proofs.KeepCalls.{AllSixteenBit}
use Rattle.text.specs.Tape.{Tape, nothing_more, with_call, is_end, is_record, word_at, call_from, records_in, tape, longest}
use Rattle.records.specs.Reading.{Gives, tape_from, read_at, items_left}
use Rattle.records.specs.declared.NoRecord.{NoRecord}

-- No more than the number of bytes is ever needed.
enough : (n m : ℕ) (bs : List ℕ) → length bs ≤ n → length bs ≤ m → records_in n bs ≡ records_in m bs
unfolding records_in is_end
enough zero zero [] h g = refl
enough zero (suc m) [] h g = refl
enough (suc n) zero [] h g = refl
enough (suc n) (suc m) [] h g = refl
enough zero zero (b ∷ bs) h g = refl
enough zero (suc m) (b ∷ bs) h g = let z : ⊥ = omega arith in absurd z
enough (suc n) zero (b ∷ bs) h g = let z : ⊥ = omega arith in absurd z
enough (suc n) (suc m) (b ∷ bs) h g =
    let e : length (drop 14 (b ∷ bs)) ≡ suc (length bs) - 14 = length-drop 14 (b ∷ bs) in
    let r : records_in n (drop 14 (b ∷ bs)) ≡ records_in m (drop 14 (b ∷ bs)) = enough n m (drop 14 (b ∷ bs)) (omega arith) (omega arith) in
    ap (λ (t : Tape). pick (is_record (b ∷ bs)) (with_call (call_from (b ∷ bs)) t) (nothing_more false)) r

-- The three steps.
pub tape_end : (bs : List ℕ) → length bs ≡ 0 → tape bs ≡ nothing_more true
unfolding tape records_in is_end
tape_end [] e = refl
tape_end (b ∷ bs) e = let z : ⊥ = omega arith in absurd z

pub tape_stop : (bs : List ℕ) → 0 < length bs → is_record bs ≡ false → tape bs ≡ nothing_more false
unfolding tape records_in is_end
tape_stop [] e f = let z : ⊥ = omega arith in absurd z
tape_stop (b ∷ bs) e f = rw f

-- A record is whole.
pub record_whole : (bs : List ℕ) → is_record bs ≡ true → 14 ≤ length bs
unfolding is_record
record_whole bs h = leb-true 14 (length bs) (and_parts (leb 14 (length bs)) _ h).0

tape_record : (bs : List ℕ) → is_record bs ≡ true → tape bs ≡ with_call (call_from bs) (tape (drop 14 bs))
unfolding tape records_in is_end
tape_record [] f = let w = record_whole [] f in let z : ⊥ = omega arith in absurd z
tape_record (b ∷ bs) f =
    let l : length (drop 14 (b ∷ bs)) ≡ suc (length bs) - 14 = length-drop 14 (b ∷ bs) in
    rw f (ap (with_call (call_from (b ∷ bs))) (enough (length bs) (length (drop 14 (b ∷ bs))) (drop 14 (b ∷ bs)) (omega arith) (omega arith)))

-- The same with the call that was read, and the rest as the slice `&bytes[14..]` has it.
pub record_read : (bs : List ℕ) (x : Call) → is_record bs ≡ true → x ≡ call_from bs → tape bs ≡ with_call x (tape (take (length bs - 14) (drop 14 bs)))
record_read bs x h e = rw (e, take_rest bs 14) (tape_record bs h)

-- The rest of the bytes, as the slice `&bytes[k..]` has it.
abbrev pub from_on : List ℕ → ℕ → List ℕ
from_on bs k = take (length bs - k) (drop k bs)

ends : (bs : List ℕ) → length bs ≡ 0 → is_end bs ≡ true
unfolding is_end
ends [] e = refl
ends (b ∷ bs) e = let z : ⊥ = omega arith in absurd z

not_ended : (bs : List ℕ) → 0 < length bs → is_end bs ≡ false
unfolding is_end
not_ended [] h = let z : ⊥ = omega arith in absurd z
not_ended (b ∷ bs) h = refl

-- What is read at a position, by its three cases.
pub read_end : (bs : List ℕ) (k : ℕ) → length bs ≤ k → None ≡ read_at bs k
unfolding read_at
read_end bs k h = let n = length-drop k bs in rw (ends (drop k bs) (omega arith)) refl

pub read_stop : (bs : List ℕ) (k : ℕ) → k < length bs → is_record (from_on bs k) ≡ false → Some (Err (record {})) ≡ read_at bs k
unfolding read_at
read_stop bs k h f =
    let n = length-drop k bs in
    rw (not_ended (drop k bs) (omega arith), sym (ap is_record (take_rest bs k)) ∙ f) refl

pub read_record : (bs : List ℕ) (k : ℕ) (x : Call) → k < length bs → is_record (from_on bs k) ≡ true → x ≡ call_from (from_on bs k) → Some (Ok x) ≡ read_at bs k
unfolding read_at
read_record bs k x h f e =
    let n = length-drop k bs in
    rw (not_ended (drop k bs) (omega arith), sym (ap is_record (take_rest bs k)) ∙ f, e ∙ ap call_from (take_rest bs k)) refl

-- The call that is given leaves fewer.
pub call_fewer : (t left : Tape) (x : Call) → t ≡ with_call x left → items_left left < items_left t
unfolding with_call
call_fewer t left x e = rw e (omega arith)

-- Bytes make calls of 16-bit numbers, whose caller and number are bytes.
abbrev pub Bytes : List ℕ → Type 0
Bytes bs = (i : ℕ) → get_or bs i 0 < 256

pub record OnTape (x : Call) : Type 0 where
  pub caller : x.caller < 256
  pub number : x.number < 256
  pub sixteen : SixteenBit x

abbrev pub AllOnTape : List Call → Type 0
AllOnTape [] = Unit {0}
AllOnTape (x ∷ xs) = OnTape x × AllOnTape xs

bytes_drop : (bs : List ℕ) (n : ℕ) → Bytes bs → Bytes (drop n bs)
bytes_drop bs n h i = rw (get_or-drop n bs i 0) (h (n + i))

word_small : (bs : List ℕ) → Bytes bs → (i : ℕ) → word_at bs i < 65536
word_small bs h i = let a = h i in let b = h (i + 1) in omega arith

call_on_tape : (bs : List ℕ) → Bytes bs → OnTape (call_from bs)
unfolding call_from
call_on_tape bs h = record {
  caller = h 2;
  number = h 3;
  sixteen = record { a = word_small bs h 4; b = word_small bs h 6; c = word_small bs h 8; d = word_small bs h 10; e = word_small bs h 12 };
}

records_on_tape : (n : ℕ) (bs : List ℕ) → Bytes bs → AllOnTape (records_in n bs).calls
unfolding records_in with_call
records_on_tape zero bs h = tt
records_on_tape (suc n) bs h = go (is_end bs) (is_record bs) (records_on_tape n (drop 14 bs) (bytes_drop bs 14 h))
  where
    go : (b c : Bool) → AllOnTape (records_in n (drop 14 bs)).calls → AllOnTape (pick b (nothing_more true) (pick c (with_call (call_from bs) (records_in n (drop 14 bs))) (nothing_more false))).calls
    go true c r = tt
    go false true r = (call_on_tape bs h, r)
    go false false r = tt

pub tape_calls : (bs : List ℕ) → Bytes bs → AllOnTape (tape bs).calls
unfolding tape
tape_calls bs h = records_on_tape (length bs) bs h

all_sixteen : (xs : List Call) → AllOnTape xs → AllSixteenBit xs
all_sixteen [] h = tt
all_sixteen (x ∷ xs) h = (h.0.sixteen, all_sixteen xs h.1)

pub tape-sixteen : (bs : List ℕ) → Bytes bs → AllSixteenBit (tape bs).calls
tape-sixteen bs h = all_sixteen (tape bs).calls (tape_calls bs h)

-- A call takes a whole record.
records_few : (n : ℕ) (bs : List ℕ) → 14 * length (records_in n bs).calls ≤ length bs
unfolding records_in with_call
records_few zero bs = omega arith
records_few (suc n) bs = go (is_end bs) (is_record bs) refl (records_few n (drop 14 bs))
  where
    go : (b c : Bool) → is_record bs ≡ c → 14 * length (records_in n (drop 14 bs)).calls ≤ length (drop 14 bs) → 14 * length (pick b (nothing_more true) (pick c (with_call (call_from bs) (records_in n (drop 14 bs))) (nothing_more false))).calls ≤ length bs
    go true c e h = omega arith
    go false true e h = let w = record_whole bs e in let l = length-drop 14 bs in omega arith
    go false false e h = omega arith

pub tape_few : (bs : List ℕ) → length bs ≤ longest → length (tape bs).calls ≤ 4096
unfolding tape
tape_few bs h = let f = records_few (length bs) bs in omega arith

-- What was given, by its kind.
module _ (t left : Tape) {r : Result Call NoRecord} (g : Gives t (Some r) left) where
  pub gives_call : {x : Call} → r ≡ Ok x → t ≡ with_call x left
  gives_call e = subst (λ (r : Result Call NoRecord). Gives t (Some r) left) e g

  pub gives_stop : {why : NoRecord} → r ≡ Err why → t ≡ nothing_more false
  gives_stop e = (subst (λ (r : Result Call NoRecord). Gives t (Some r) left) e g).0

none_given : {P : Type 0} {b : Bool} (x : Call) (left : Tape) → nothing_more b ≡ with_call x left → P
unfolding with_call
none_given x left e = let n : 0 ≡ suc (length left.calls) = ap (λ (t : Tape). length t.calls) e in let z : ⊥ = omega arith in absurd z

same_given : {x y : Call} {u v : Tape} → with_call x u ≡ with_call y v → (x ≡ y) × (u ≡ v)
unfolding with_call
same_given {x} {y} {u} {v} e = (
  ap (λ (t : Tape). get_or t.calls 0 x) e,
  ap (λ (t : Tape). record { calls = drop 1 t.calls; ended = t.ended }) e,
)

-- What is given, and what is left, is the only thing that can be.
pub gives_one : (t : Tape) (r : Option (Result Call NoRecord)) (u : Tape) (s : Option (Result Call NoRecord)) (v : Tape) → Gives t r u → Gives t s v → (r ≡ s) × (u ≡ v)
unfolding with_call
gives_one t None u None v a b = (refl, a.1 ∙ sym b.1)
gives_one t None u (Some (Ok y)) v a b = none_given y v (sym a.0 ∙ b)
gives_one t None u (Some (Err e)) v a b = never (ap (λ (t : Tape). t.ended) (sym a.0 ∙ b.0))
gives_one t (Some (Ok x)) u None v a b = none_given x u (sym b.0 ∙ a)
gives_one t (Some (Ok x)) u (Some (Ok y)) v a b = let s = same_given (sym a ∙ b) in (ap (λ (x : Call). Some (Ok x)) s.0, s.1)
gives_one t (Some (Ok x)) u (Some (Err e)) v a b = none_given x u (sym b.0 ∙ a)
gives_one t (Some (Err e)) u None v a b = never (ap (λ (t : Tape). t.ended) (sym b.0 ∙ a.0))
gives_one t (Some (Err e)) u (Some (Ok y)) v a b = none_given y v (sym a.0 ∙ b)
gives_one t (Some (Err e)) u (Some (Err f)) v a b = (refl, a.1 ∙ sym b.1)

-- The same by position: where the end, a stop or a record's call is given, what the tape is from there.
pub record ARecord (bs : List ℕ) (k : ℕ) (x : Call) : Type 0 where
  pub rest : tape_from bs k ≡ with_call x (tape_from bs (k + 14))
  pub whole : k + 14 ≤ length bs
  pub of : x ≡ call_from (drop k bs)

a_record : (bs : List ℕ) (k : ℕ) → is_record (drop k bs) ≡ true → ARecord bs k (call_from (drop k bs))
a_record bs k f =
    let w = record_whole (drop k bs) f in
    let n = length-drop k bs in
    record { rest = tape_record (drop k bs) f ∙ ap (λ (r : List ℕ). with_call (call_from (drop k bs)) (tape r)) (drop-drop 14 k bs); whole = omega arith; of = refl }

-- Where no record begins, no call is given.
no_call : (bs : List ℕ) (x : Call) (left : Tape) → is_record bs ≡ false → tape bs ≡ with_call x left → ⊥
no_call [] x left f g = none_given x left (sym (tape_end [] refl) ∙ g)
no_call (b ∷ bs) x left f g = none_given x left (sym (tape_stop (b ∷ bs) (omega arith) f) ∙ g)

module _ (bs : List ℕ) (k : ℕ) {left : Tape} where
  pub record_given : {x : Call} → Gives (tape (drop k bs)) (Some (Ok x)) left → ARecord bs k x × (left ≡ tape_from bs (k + 14))
  record_given {x} g = go (is_record (drop k bs)) refl
    where
      go : (b : Bool) → is_record (drop k bs) ≡ b → ARecord bs k x × (left ≡ tape_from bs (k + 14))
      go true f =
          let a = a_record bs k f in
          let s = same_given (sym g ∙ a.rest) in
          (rw s.0 a, s.1)
      go false f = absurd (no_call (drop k bs) x left f g)

-- What stands at a position is given there, and nothing else can be.
abbrev pub left_at : List ℕ → ℕ → Tape
left_at bs k = pick (is_record (drop k bs)) (tape_from bs (k + 14)) (nothing_more true)

no_record : (bs : List ℕ) → is_record bs ≡ false → Gives (tape bs) (pick (is_end bs) None (Some (Err (record {})))) (nothing_more true)
unfolding is_end
no_record [] f = (tape_end [] refl, refl)
no_record (b ∷ bs) f = (tape_stop (b ∷ bs) (omega arith) f, refl)

module _ (bs : List ℕ) (k : ℕ) where
  pub gives_read : Gives (tape (drop k bs)) (read_at bs k) (left_at bs k)
  unfolding read_at
  gives_read = go (is_record (drop k bs)) refl
    where
      go : (b : Bool) → is_record (drop k bs) ≡ b → Gives (tape (drop k bs)) (pick (is_end (drop k bs)) None (pick b (Some (Ok (call_from (drop k bs)))) (Some (Err (record {}))))) (pick b (tape_from bs (k + 14)) (nothing_more true))
      go true f =
          let w = record_whole (drop k bs) f in
          rw (not_ended (drop k bs) (omega arith)) (a_record bs k f).rest
      go false f = no_record (drop k bs) f

  pub only_read : (r : Option (Result Call NoRecord)) (left : Tape) → Gives (tape (drop k bs)) r left → (r ≡ read_at bs k) × (left ≡ left_at bs k)
  only_read r left g = gives_one (tape (drop k bs)) r left (read_at bs k) (left_at bs k) g gives_read

  -- What stands at a position, by what is read there.
  read_gives : (r : Option (Result Call NoRecord)) → r ≡ read_at bs k → Gives (tape (drop k bs)) r (left_at bs k)
  read_gives r e = subst (λ (q : Option (Result Call NoRecord)). Gives (tape (drop k bs)) q (left_at bs k)) (sym e) gives_read

  pub at-end : None ≡ read_at bs k → tape_from bs k ≡ nothing_more true
  at-end e = (read_gives None e).0

  pub at-stop : {why : NoRecord} → Some (Err why) ≡ read_at bs k → tape_from bs k ≡ nothing_more false
  at-stop {why} e = (read_gives (Some (Err why)) e).0

  pub at-record : {x : Call} → Some (Ok x) ≡ read_at bs k → ARecord bs k x
  at-record {x} e = (record_given bs k (read_gives (Some (Ok x)) e)).0

-- The same of what a tape begins with.
module _ (bs : List ℕ) {r : Option (Result Call NoRecord)} (e : r ≡ read_at bs 0) where
  pub begins_end : r ≡ None → tape bs ≡ nothing_more true
  begins_end n = at-end bs 0 (sym n ∙ e)

  pub begins_stop : {why : NoRecord} → r ≡ Some (Err why) → tape bs ≡ nothing_more false
  begins_stop n = at-stop bs 0 (sym n ∙ e)

  pub begins_call : {x : Call} → r ≡ Some (Ok x) → tape bs ≡ with_call x (tape (from_on bs 14))
  begins_call n = rw (take_rest bs 14) (at-record bs 0 (sym n ∙ e)).rest

  pub begins_whole : {x : Call} → r ≡ Some (Ok x) → 14 ≤ length bs
  begins_whole n = (at-record bs 0 (sym n ∙ e)).whole

  pub begins_fewer : {x : Call} → r ≡ Some (Ok x) → items_left (tape (from_on bs 14)) < items_left (tape bs)
  begins_fewer {x} n = call_fewer (tape bs) (tape (from_on bs 14)) x (begins_call n)
