-- Well-formed tables and what they show determine each other; a call keeps tables well formed; and a run on tables is the
-- run on the machine that they show.
-- Assumes nothing.
use Prim.Native.Nat.{ℕ}
use mathlib.Core.Path.{◌≡◌, refl, sym, ap, subst, ◌∙◌}
use mathlib.Core.Bool.{true, false}
use mathlib.Core.List.{List, [], ◌∷◌}
use lib.ListN.{length}
use lib.Dec.{eqb}
use borrow.Author.Tests.{eqb-true, eq-eqb}
use Rattle.things.specs.declared.Refusal.{Refusal}
use Rattle.things.proofs.ListLaws.{and_parts, and_both, never}
use Rattle.rules.specs.Machine.{Machine, fresh}
use Rattle.rules.specs.Sound.{is_many, sound}
use Rattle.rules.specs.Checks.{Result, refused, done, answer_of, after, unless}
use Rattle.rules.specs.Step.{Call, SixteenBit, step, answers, run}
use Rattle.rules.proofs.Worked.{fresh-sound}
use Rattle.rules.proofs.KeepCalls.{AllSixteenBit, step_keeps}
use Rattle.tables.specs.Layout.{tables_size, numbers, machine}
use Rattle.tables.specs.WellFormed.{same, well_formed}
use Rattle.tables.specs.Call.{decide, tables_after, answer, next, answers_on, run_on, fresh_tables}
use Rattle.tables.proofs.RoundTrip.{read_back, numbers-length}

pub same-is : (xs ys : List ℕ) → same xs ys ≡ true → xs ≡ ys
unfolding same
same-is [] [] h = refl
same-is [] (y ∷ ys) h = never (sym h)
same-is (x ∷ xs) [] h = never (sym h)
same-is (x ∷ xs) (y ∷ ys) h =
    let p = and_parts (eqb x y) (same xs ys) h in
    let e = eqb-true x y p.0 in
    let f = same-is xs ys p.1 in
    cc

pub same_self : (xs : List ℕ) → same xs xs ≡ true
unfolding same
same_self [] = refl
same_self (x ∷ xs) = and_both (eq-eqb x x refl) (same_self xs)

-- Well-formed tables, taken apart and put together.
pub record Formed (t : List ℕ) : Type 0 where
  pub long : length t ≡ tables_size
  pub shown : numbers (machine t) ≡ t
  pub sound-shown : sound (machine t) ≡ true

pub formed : (t : List ℕ) → well_formed t ≡ true → Formed t
unfolding well_formed
formed t h =
    let p = and_parts (is_many tables_size t) _ h in
    let q = and_parts (same t (numbers (machine t))) (sound (machine t)) p.1 in
    record { long = eqb-true _ _ p.0; shown = sym (same-is t (numbers (machine t)) q.0); sound-shown = q.1 }

-- The numbers of a sound machine are well formed.
pub numbers-formed : (M : Machine) → sound M ≡ true → well_formed (numbers M) ≡ true
unfolding well_formed
numbers-formed M h =
    let l : is_many tables_size (numbers M) ≡ true = eq-eqb _ _ (numbers-length M h) in
    let s : same (numbers M) (numbers (machine (numbers M))) ≡ true = rw (read_back M h) (same_self (numbers M)) in
    let g : sound (machine (numbers M)) ≡ true = rw (read_back M h) h in
    and_both l (and_both s g)

-- Tables are well formed just where they are the numbers of a sound machine. So no number of them is lost in reading, and
-- two well-formed tables that show one machine are the same.
pub formed-iff : (t : List ℕ) → (well_formed t ≡ true → (M : Machine) × (sound M ≡ true) × (numbers M ≡ t)) × ((M : Machine) → sound M ≡ true → numbers M ≡ t → well_formed t ≡ true)
formed-iff t = (
  (λ h. let f = formed t h in (machine t, f.sound-shown, f.shown)),
  (λ M h e. subst (λ (u : List ℕ). well_formed u ≡ true) e (numbers-formed M h)),
)

pub shown-once : (t u : List ℕ) → well_formed t ≡ true → well_formed u ≡ true → machine t ≡ machine u → t ≡ u
shown-once t u h g e = sym (formed t h).shown ∙ ap numbers e ∙ (formed u g).shown

-- Fresh tables are well formed, and show the fresh machine.
pub fresh-formed : well_formed fresh_tables ≡ true
unfolding fresh_tables
fresh-formed = numbers-formed fresh fresh-sound

pub fresh-shown : machine fresh_tables ≡ fresh
unfolding fresh_tables
fresh-shown = read_back fresh fresh-sound

-- "A refused call .. changes no table."
pub refused-untouched : (t : List ℕ) (why : Refusal) → tables_after t (refused why) ≡ t
unfolding tables_after
refused-untouched t why = refl

-- On well-formed tables a call is decided by the rules alone, and the tables after it are the numbers of the machine after.
pub decide-formed : (t : List ℕ) (x : Call) → well_formed t ≡ true → decide t x ≡ step (machine t) x
unfolding decide unless
decide-formed t x h = rw h

pub after-formed : (t : List ℕ) (r : Result) → well_formed t ≡ true → tables_after t r ≡ numbers (after (machine t) r)
unfolding tables_after
after-formed t (refused why) h = sym (formed t h).shown
after-formed t (done value xs) h = refl

pub next-is : (t : List ℕ) (x : Call) → well_formed t ≡ true → next t x ≡ numbers (after (machine t) (step (machine t) x))
next-is t x h = rw (decide-formed t x h) (after-formed t (step (machine t) x) h)

-- Every call on well-formed tables leaves well-formed tables; on others it leaves them as they are.
pub next-formed : (t : List ℕ) (x : Call) → SixteenBit x → well_formed t ≡ true → well_formed (next t x) ≡ true
next-formed t x n h = rw (next-is t x h) (numbers-formed (after (machine t) (step (machine t) x)) (step_keeps (machine t) x n (formed t h).sound-shown))

pub next-damaged : (t : List ℕ) (x : Call) → well_formed t ≡ false → next t x ≡ t
unfolding decide unless tables_after
next-damaged t x h = rw h

pub next-shown : (t : List ℕ) (x : Call) → SixteenBit x → well_formed t ≡ true → machine (next t x) ≡ after (machine t) (step (machine t) x)
next-shown t x n h = rw (next-is t x h) (read_back (after (machine t) (step (machine t) x)) (step_keeps (machine t) x n (formed t h).sound-shown))

-- A run on well-formed tables, which need not be tested again.
pub run-formed : (t : List ℕ) (xs : List Call) → AllSixteenBit xs → well_formed t ≡ true → well_formed (run_on t xs) ≡ true
unfolding run_on
run-formed t [] n h = h
run-formed t (x ∷ xs) n h = run-formed (next t x) xs n.1 (next-formed t x n.0 h)

pub answers-shown : (t : List ℕ) (xs : List Call) → AllSixteenBit xs → well_formed t ≡ true → answers_on t xs ≡ answers (machine t) xs
unfolding answers_on answers
answers-shown t [] n h = refl
answers-shown t (x ∷ xs) n h =
    let first : answer t x ≡ answer_of (step (machine t) x) = ap answer_of (decide-formed t x h) in
    let rest : answers_on (next t x) xs ≡ answers (after (machine t) (step (machine t) x)) xs =
    rw (← next-shown t x n.0 h) (answers-shown (next t x) xs n.1 (next-formed t x n.0 h)) in
    cc

pub run-shown : (t : List ℕ) (xs : List Call) → AllSixteenBit xs → well_formed t ≡ true → machine (run_on t xs) ≡ run (machine t) xs
unfolding run_on run
run-shown t [] n h = refl
run-shown t (x ∷ xs) n h = rw (← next-shown t x n.0 h) (run-shown (next t x) xs n.1 (next-formed t x n.0 h))
