-- A call that ended as the rules have it leaves well-formed tables that show the machine after it.
-- Assumes nothing.
use Prim.Native.Nat.{ℕ}
use mathlib.Core.Path.{◌≡◌, sym, subst, ◌∙◌}
use mathlib.Core.Bool.{true}
use mathlib.Core.List.{List}
use Rattle.things.specs.Answers.{Answer}
use Rattle.rules.specs.Machine.{fresh}
use Rattle.rules.specs.Checks.{after}
use Rattle.rules.specs.Sound.{sound}
use Rattle.rules.specs.Step.{Call, SixteenBit, step}
use Rattle.rules.proofs.KeepCalls.{step_keeps}
use Rattle.tables.specs.Layout.{numbers, machine}
use Rattle.tables.specs.WellFormed.{well_formed}
use Rattle.tables.specs.Call.{fresh_tables}
use Rattle.tables.proofs.Laws.{formed, numbers-formed, after-formed, fresh-formed, fresh-shown}
use Rattle.tables.proofs.RoundTrip.{read_back}
use Rattle.access.specs.Lent.{Lent}
use Rattle.access.proofs.View.{lent}
use Rattle.checks.specs.Ends.{Ends}
use Rattle.run.specs.Obeyed.{Obeyed}

pub obeyed : {t : List ℕ} {x : Call} {r : Answer} {u : List ℕ} → Lent t → SixteenBit x → Ends (step (machine t) x) t u r → Obeyed t x r u
obeyed {t} {x} {r} {u} w n e =
    let N = after (machine t) (step (machine t) x) in
    let s : sound N ≡ true = step_keeps (machine t) x n (formed t w.formed).sound-shown in
    let l : u ≡ numbers N = e.left ∙ after-formed t (step (machine t) x) w.formed in
    record {
      answered = e.answered;
      again = lent u (subst (λ (v : List ℕ). well_formed v ≡ true) (sym l) (numbers-formed N s));
      shown = subst (λ (v : List ℕ). machine v ≡ N) (sym l) (read_back N s);
    }

-- Fresh tables are well formed, and show the fresh machine.
pub fresh_lent : {u : List ℕ} → u ≡ fresh_tables → Lent u
fresh_lent e = rw e (lent fresh_tables fresh-formed)

pub fresh_machine : {u : List ℕ} → u ≡ fresh_tables → machine u ≡ fresh
fresh_machine e = rw e fresh-shown
