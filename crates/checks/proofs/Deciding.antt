-- A result in which checks were passed or one applied, and how a call ends.
-- Assumes nothing.
use Prim.Native.Nat.{ℕ}
use native.Mathlib.Omega.{arith}
use mathlib.Core.Path.{◌≡◌, refl, ap, ◌∙◌}
use mathlib.Core.Bool.{Bool, true, false}
use mathlib.Core.List.{List, [], ◌∷◌, ◌++◌}
use Rattle.things.specs.declared.Refusal.{Refusal}
use Rattle.things.specs.Answers.{Answer}
use Rattle.std.specs.Prelude.{Ok, Err, IsErrAnd}
use Rattle.std.specs.Prelude.{Result as Answered}
use Rattle.things.specs.Lists.{pick}
use Rattle.rules.specs.Changes.{Change}
use Rattle.rules.specs.Checks.{Result, refused, done, Check, unless}
use Rattle.rules.proofs.Decide.{Passed}
use Rattle.tables.specs.Call.{tables_after}
use Rattle.checks.specs.Ends.{Ends}
use Rattle.checks.specs.Verdicts.{Verdict, passes, stops, verdict}

-- ---- verdicts
pub hit : (x : Check) (xs : List Check) → x.applies ≡ true → verdict (x ∷ xs) ≡ stops x.refusal
unfolding verdict
hit x xs e = rw e

pub miss : (x : Check) (xs : List Check) → x.applies ≡ false → verdict (x ∷ xs) ≡ verdict xs
unfolding verdict
miss x xs e = rw e

pub all-passed : verdict [] ≡ passes
unfolding verdict
all-passed = refl

nothing-else : {P : Type 0} (v : Verdict) (why : Refusal) → v ≡ passes → v ≡ stops why → P
nothing-else v why p q = let z : ◌≡◌ {A = ℕ} 0 1 = cc in let w : ⊥ = omega arith in absurd w

pub passed : (xs : List Check) → verdict xs ≡ passes → Passed xs
unfolding verdict
passed [] h = tt
passed (x ∷ xs) h = go x.applies refl h (passed xs)
  where
    go : (b : Bool) → x.applies ≡ b → pick b (stops x.refusal) (verdict xs) ≡ passes → (verdict xs ≡ passes → Passed xs) → (x.applies ≡ false) × Passed xs
    go true e g rest = nothing-else (stops x.refusal) x.refusal g refl
    go false e g rest = (e, rest g)

-- ---- results
pub refusing : (x : Check) (xs : List Check) (R : Result) → x.applies ≡ true → unless (x ∷ xs) R ≡ refused x.refusal
unfolding unless
refusing x xs R e = rw e

pub letting : (x : Check) (xs : List Check) (R : Result) → x.applies ≡ false → unless (x ∷ xs) R ≡ unless xs R
unfolding unless
letting x xs R e = rw e

pub acting : (R : Result) → unless [] R ≡ R
unfolding unless
acting R = refl

pub past : (xs ys : List Check) (R : Result) → Passed xs → unless (xs ++ ys) R ≡ unless ys R
past [] ys R h = refl
past (x ∷ xs) ys R h = letting x (xs ++ ys) R h.0 ∙ past xs ys R h.1

pub stopped : (xs ys : List Check) (R : Result) (why : Refusal) → verdict xs ≡ stops why → unless (xs ++ ys) R ≡ refused why
unfolding verdict unless
stopped [] ys R why h = nothing-else passes why refl h
stopped (x ∷ xs) ys R why h = go x.applies h (stopped xs ys R why)
  where
    same : (a b : Refusal) → stops a ≡ stops b → refused a ≡ refused b
    same a b e = cc

    go : (b : Bool) → pick b (stops x.refusal) (verdict xs) ≡ stops why → (verdict xs ≡ stops why → unless (xs ++ ys) R ≡ refused why) → pick b (refused x.refusal) (unless (xs ++ ys) R) ≡ refused why
    go true g rest = same x.refusal why g
    go false g rest = rest g

-- ---- endings
pub ends-refused : (R : Result) (t : List ℕ) (why : Refusal) → R ≡ refused why → Ends R t t (Err why)
unfolding tables_after
ends-refused R t why e = rw e (record { answered = refl; left = refl })

pub ends-done : (R : Result) (t u : List ℕ) (value : ℕ) (xs : List Change) → R ≡ done value xs → u ≡ tables_after t (done value xs) → Ends R t u (Ok value)
ends-done R t u value xs e l = rw e (record { answered = refl; left = l })

-- Checks, and others after them.
pub stops-more : (xs ys : List Check) (why : Refusal) → verdict xs ≡ stops why → verdict (xs ++ ys) ≡ stops why
unfolding verdict
stops-more [] ys why h = nothing-else passes why refl h
stops-more (x ∷ xs) ys why h = go x.applies h (stops-more xs ys why)
  where
    go : (b : Bool) → pick b (stops x.refusal) (verdict xs) ≡ stops why → (verdict xs ≡ stops why → verdict (xs ++ ys) ≡ stops why) → pick b (stops x.refusal) (verdict (xs ++ ys)) ≡ stops why
    go true g rest = g
    go false g rest = rest g

pub passes-more : (xs ys : List Check) → verdict xs ≡ passes → verdict (xs ++ ys) ≡ verdict ys
unfolding verdict
passes-more [] ys h = refl
passes-more (x ∷ xs) ys h = go x.applies h (passes-more xs ys)
  where
    go : (b : Bool) → pick b (stops x.refusal) (verdict xs) ≡ passes → (verdict xs ≡ passes → verdict (xs ++ ys) ≡ verdict ys) → pick b (stops x.refusal) (verdict (xs ++ ys)) ≡ verdict ys
    go true g rest = nothing-else (stops x.refusal) x.refusal g refl
    go false g rest = rest g

-- A call whose first checks don't pass.
pub ends_bad : (xs ys : List Check) (R : Result) (t : List ℕ) (why : Refusal) → verdict xs ≡ stops why → Ends (unless (xs ++ ys) R) t t (Err why)
ends_bad xs ys R t why h = ends-refused (unless (xs ++ ys) R) t why (stopped xs ys R why h)

-- What `?` hands on is the refusal that it was given.
pub handed_on : {A : Type 0} (r : Answered A Refusal) (why : Refusal) → IsErrAnd r (λ e. e ≡ why) → r ≡ Err why
handed_on (Ok x) why h = absurd h
handed_on (Err e) why h = ap Err h

-- So a call ends whose `?` comes after checks that don't pass.
pub ends_early : (xs ys : List Check) (R : Result) (t : List ℕ) (why : Refusal) (r : Answer) → verdict xs ≡ stops why → IsErrAnd r (λ e. e ≡ why) → Ends (unless (xs ++ ys) R) t t r
ends_early xs ys R t why r h e = rw (handed_on r why e) (ends_bad xs ys R t why h)

-- The same result, ended the same.
pub ends_by : (R S : Result) (t u : List ℕ) (r : Answer) → R ≡ S → Ends S t u r → Ends R t u r
ends_by R S t u r e h = rw e h
