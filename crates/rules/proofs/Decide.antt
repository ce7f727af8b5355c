-- How a call is decided: a result is a refusal, or the deed after every check is passed; and what holds of every row of the
-- table holds of every call.
-- Assumes nothing.
use Prim.Native.Nat.{ℕ, zero, suc, ◌<◌}
use mathlib.Core.Path.{◌≡◌, refl}
use mathlib.Core.Bool.{Bool, true, false}
use mathlib.Core.List.{List, [], ◌∷◌}
use lib.ListN.{get_or}
use borrow.Author.Tests.{not-false, ltb-true}
use Rattle.things.specs.declared.Refusal.{Refusal}
use Rattle.things.specs.declared.Refusal.TheVariants.{BadNumber}
use Rattle.things.specs.Lists.{pick}
use Rattle.things.proofs.ListLaws.{and_parts}
use Rattle.rules.specs.Machine.{PACKAGES, SLOTS, Machine}
use Rattle.rules.specs.Checks.{Result, refused, Check, unless}
use Rattle.rules.specs.Step.{Call, Row, no_call, rows, row_of, Packages, Slot, Package, Name, Permits, Inner, may_call, in_range, good_numbers, obey, step}

-- No check of the list applies.
abbrev pub Passed : List Check → Type 0
Passed [] = Unit {0}
Passed (x ∷ xs) = (x.applies ≡ false) × Passed xs

module _ (P : Result → Type 0) (no-harm : (why : Refusal) → P (refused why)) where
  one-check : (b : Bool) (why : Refusal) (r : Result) → (b ≡ false → P r) → P (pick b (refused why) r)
  one-check true why r h = no-harm why
  one-check false why r h = h refl

  pub on-unless : (xs : List Check) (r : Result) → (Passed xs → P r) → P (unless xs r)
  unfolding unless
  on-unless [] r h = h tt
  on-unless (x ∷ xs) r h = one-check x.applies x.refusal (unless xs r) (λ e. on-unless xs r (λ g. h (e, g)))

-- A call's numbers, where they are good.
pub record Good (r : Row) (x : Call) : Type 0 where
  pub caller : may_call r.callers x.caller ≡ true
  pub a : in_range r.a x.a ≡ true
  pub b : in_range r.b x.b ≡ true
  pub c : in_range r.c x.c ≡ true
  pub d : in_range r.d x.d ≡ true
  pub e : in_range r.e x.e ≡ true

pub good-parts : (r : Row) (x : Call) → good_numbers r x ≡ true → Good r x
unfolding good_numbers
good-parts r x h =
    let p = and_parts (may_call r.callers x.caller) _ h in
    let q = and_parts (in_range r.a x.a) _ p.1 in
    let s = and_parts (in_range r.b x.b) _ q.1 in
    let t = and_parts (in_range r.c x.c) _ s.1 in
    let u = and_parts (in_range r.d x.d) (in_range r.e x.e) t.1 in
    record { caller = p.0; a = q.0; b = s.0; c = t.0; d = u.0; e = u.1 }

-- What the tests of the numbers say.
pub by-package : (p : ℕ) → may_call Packages p ≡ true → p < PACKAGES
unfolding may_call
by-package p h = ltb-true p PACKAGES h

pub slot-in : (n : ℕ) → in_range Slot n ≡ true → n < SLOTS
unfolding in_range
slot-in n h = ltb-true n SLOTS h

pub package-in : (n : ℕ) → in_range Package n ≡ true → n < PACKAGES
unfolding in_range
package-in n h = ltb-true n PACKAGES h

pub name_in : (n : ℕ) → in_range Name n ≡ true → 0 < n
unfolding in_range
name_in n h = ltb-true 0 n h

pub permits-in : (n : ℕ) → in_range Permits n ≡ true → n < 4
unfolding in_range
permits-in n h = ltb-true n 4 h

pub inner-in : (n : ℕ) → in_range Inner n ≡ true → n < 4
unfolding in_range
inner-in n h = ltb-true n 4 h

-- The deed of a row.
abbrev pub does : Row → Machine → Call → Result
does r M x = r.does M x.caller x.a x.b x.c x.d x.e

module _ (P : Machine → Call → Result → Type 0) where
  -- Where every refusal has P, and the deed on good numbers has it, what the row does with a call has it.
  unfoldable pub RowHas : Row → Type 0
  RowHas r = (M : Machine) (x : Call) → Good r x → P M x (does r M x)

  pub on-obey : ((M : Machine) (x : Call) (why : Refusal) → P M x (refused why)) → (r : Row) → RowHas r → (M : Machine) (x : Call) → P M x (obey r M x)
  unfolding obey RowHas
  on-obey no-harm r h M x = on-unless (P M x) (no-harm M x) _ (does r M x) (λ p. h M x (good-parts r x (not-false (good_numbers r x) p.0)))

-- What holds of each element of a list, as a tuple.
abbrev pub Each : {A : Type 0} → (A → Type 0) → List A → Type 0
Each P [] = Unit {0}
Each P (x ∷ xs) = P x × Each P xs

pub each_at : {A : Type 0} (P : A → Type 0) (xs : List A) (d : A) → Each P xs → P d → (i : ℕ) → P (get_or xs i d)
each_at P [] d h g i = g
each_at P (x ∷ xs) d h g zero = h.0
each_at P (x ∷ xs) d h g (suc i) = each_at P xs d h.1 g i

-- What every row has, every call has.
module _ (P : Machine → Call → Result → Type 0) (no-harm : (M : Machine) (x : Call) (why : Refusal) → P M x (refused why)) where
  pub no_row : RowHas P no_call
  unfolding RowHas
  no_row M x g = no-harm M x BadNumber

  pub on_step : Each (RowHas P) rows → (M : Machine) (x : Call) → P M x (step M x)
  unfolding step
  on_step h M x = on-obey P no-harm (row_of x.number) (each_at (RowHas P) rows no_call h no_row x.number) M x
