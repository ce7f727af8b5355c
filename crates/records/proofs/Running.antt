-- A run of a tape, record by record: the machine that it has left, and the machine that the rest leads to.
-- Assumes nothing.
use Prim.Native.Nat.{ℕ}
use mathlib.Core.Path.{◌≡◌, refl, subst}
use mathlib.Core.Bool.{true}
use mathlib.Core.List.{List}
use Rattle.rules.specs.Machine.{Machine, fresh}
use Rattle.rules.specs.Checks.{after}
use Rattle.rules.specs.Sound.{sound}
use Rattle.rules.specs.Step.{Call, step, run}
use Rattle.rules.proofs.KeepCalls.{step_keeps}
use Rattle.rules.proofs.Worked.{fresh-sound}
use Rattle.text.specs.Tape.{Tape, with_call, tape}
use Rattle.std.proofs.Common.{Fits, w8, get_or}
use Rattle.std.specs.Prelude.{Some, None, Result, Ok, Err}
use Rattle.records.specs.declared.NoRecord.{NoRecord}
use Rattle.records.specs.Reading.{Gives}
use Rattle.records.proofs.Steps.{OnTape, AllOnTape, tape_calls, gives_call, gives_stop}

-- A run of bs from fresh has left the machine M, and of the tape what t has.
pub record Running (bs : List ℕ) (t : Tape) (M : Machine) : Type 0 where
  pub leads : run M t.calls ≡ run fresh (tape bs).calls
  pub calls : AllOnTape t.calls
  pub good : sound M ≡ true

pub running_start : {bs : List ℕ} {t : Tape} {M : Machine} → ((i : ℕ) → Fits w8 (get_or bs i 0)) → t ≡ tape bs → M ≡ fresh → Running bs t M
running_start {bs} {t} {M} h e f = rw (e, f) (record { leads = refl; calls = tape_calls bs (λ i. (h i).fits); good = fresh-sound })

module _ {bs : List ℕ} {t : Tape} {M : Machine} (r : Running bs t M) where
  by : {u : Tape} → t ≡ u → Running bs u M
  by e = subst (λ (u : Tape). Running bs u M) e r

  -- a call that is given
  module _ (x : Call) (left : Tape) (e : t ≡ with_call x left) where
    pub running_call : OnTape x
    unfolding with_call
    running_call = (by e).calls.0

    pub running_record : {N : Machine} → N ≡ after M (step M x) → Running bs left N
    unfolding run with_call
    running_record f = rw f (record { leads = (by e).leads; calls = (by e).calls.1; good = step_keeps M x running_call.sixteen r.good })

  pub running_given : {g : Result Call NoRecord} {x : Call} (left : Tape) {N : Machine} → Gives t (Some g) left → g ≡ Ok x → N ≡ after M (step M x) → Running bs left N
  running_given {g} {x} left a e f = running_record x left (gives_call t left a e) f

  -- where nothing more is given, the machine is the one that the tape leads to
  pub running_end : (left : Tape) → Gives t None left → M ≡ run fresh (tape bs).calls
  unfolding run
  running_end left a = (by a.0).leads

  pub running_stop : {g : Result Call NoRecord} {e : NoRecord} (left : Tape) → Gives t (Some g) left → g ≡ Err e → M ≡ run fresh (tape bs).calls
  unfolding run
  running_stop left a f = (by (gives_stop t left a f)).leads
