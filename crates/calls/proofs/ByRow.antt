-- What the table's row does at each number, as the code's call of that number has it.
-- Assumes nothing.
use Prim.Native.Nat.{ℕ, ◌<◌}
use mathlib.Core.Path.{◌≡◌, refl, sym, ap, ◌∙◌}
use mathlib.Core.Bool.{Bool, true, false, not}
use Rattle.things.specs.declared.Refusal.TheVariants.{BadNumber}
use Rattle.rules.specs.Machine.{Machine}
use Rattle.rules.specs.Checks.{refused}
use Rattle.rules.specs.Calls
use Rattle.rules.specs.Step.{Call, rows, no_call, row_of, good_numbers, obey, step}
use Rattle.rules.proofs.Decide.{Good, good-parts, by-package, slot-in}
use Rattle.checks.proofs.Deciding.{refusing, letting, acting}
use Rattle.calls.specs.ByNumber.{deed_number, deed}
use Rattle.calls.specs.declared.table.Deed.{Deed}
use Rattle.calls.specs.declared.table.Deed.TheVariants.{Restrict, Drop, Hand, MakeSegment, MakeDirectory, MakeType, MakeObject, Delete, AddEntry, DropEntry, Fetch, Read, Write, Copy, SetInner, GetInner, Count}
use Rattle.makes.specs.Makes.{new_body}

-- good numbers, at a number that is known
pub good-at : (x : Call) (k : ℕ) → x.number ≡ k → good_numbers (row_of x.number) x ≡ true → Good (row_of k) x
unfolding good_numbers
good-at x k q h = good-parts (row_of k) x (rw q at h)

-- The row at a number that is the call's is the call's row.
pub same_row : (x : Call) (k : ℕ) → k ≡ x.number → good_numbers (row_of k) x ≡ good_numbers (row_of x.number) x
same_row x k q = ap (λ (n : ℕ). good_numbers (row_of n) x) q

pub good-by : (x : Call) (k : ℕ) (b : Bool) → k ≡ x.number → good_numbers (row_of k) x ≡ b → good_numbers (row_of x.number) x ≡ b
good-by x k b q h = sym (same_row x k q) ∙ h

-- A call by number: BAD NUMBER, or the deed.
pub step-bad : (M : Machine) (x : Call) → good_numbers (row_of x.number) x ≡ false → step M x ≡ refused BadNumber
unfolding step obey
step-bad M x h = refusing _ _ _ (ap not h)

-- No row takes the numbers of a call that there is not.
pub none_good : (x : Call) → row_of x.number ≡ no_call → good_numbers (row_of x.number) x ≡ false
unfolding good_numbers Rattle.rules.specs.Step.may_call
none_good x e = rw e

pub step-unlisted : (M : Machine) (x : Call) → row_of x.number ≡ no_call → step M x ≡ refused BadNumber
step-unlisted M x e = step-bad M x (none_good x e)

pub step-good : (M : Machine) (x : Call) → good_numbers (row_of x.number) x ≡ true → step M x ≡ deed M x
unfolding step obey deed
step-good M x h = letting _ _ _ (ap not h) ∙ acting _

-- Every call but the host's is a package's, and names a slot first.
pub by_caller : (which : Deed) (x : Call) → x.number ≡ deed_number which → good_numbers (row_of x.number) x ≡ true → (which ≡ Hand → ⊥) → (x.caller < 8) × (x.a < 16)
unfolding rows
by_caller Restrict x q h z = let g = good-at x 1 q h in (by-package _ g.caller, slot-in _ g.a)
by_caller Drop x q h z = let g = good-at x 2 q h in (by-package _ g.caller, slot-in _ g.a)
by_caller Hand x q h z = absurd (z refl)
by_caller MakeSegment x q h z = let g = good-at x 4 q h in (by-package _ g.caller, slot-in _ g.a)
by_caller MakeDirectory x q h z = let g = good-at x 5 q h in (by-package _ g.caller, slot-in _ g.a)
by_caller MakeType x q h z = let g = good-at x 6 q h in (by-package _ g.caller, slot-in _ g.a)
by_caller MakeObject x q h z = let g = good-at x 7 q h in (by-package _ g.caller, slot-in _ g.a)
by_caller Delete x q h z = let g = good-at x 8 q h in (by-package _ g.caller, slot-in _ g.a)
by_caller AddEntry x q h z = let g = good-at x 9 q h in (by-package _ g.caller, slot-in _ g.a)
by_caller DropEntry x q h z = let g = good-at x 10 q h in (by-package _ g.caller, slot-in _ g.a)
by_caller Fetch x q h z = let g = good-at x 11 q h in (by-package _ g.caller, slot-in _ g.a)
by_caller Read x q h z = let g = good-at x 12 q h in (by-package _ g.caller, slot-in _ g.a)
by_caller Write x q h z = let g = good-at x 13 q h in (by-package _ g.caller, slot-in _ g.a)
by_caller Copy x q h z = let g = good-at x 14 q h in (by-package _ g.caller, slot-in _ g.a)
by_caller SetInner x q h z = let g = good-at x 15 q h in (by-package _ g.caller, slot-in _ g.a)
by_caller GetInner x q h z = let g = good-at x 16 q h in (by-package _ g.caller, slot-in _ g.a)
by_caller Count x q h z = let g = good-at x 17 q h in (by-package _ g.caller, slot-in _ g.a)

module _ (M : Machine) (x : Call) where
  pub deed-1 : x.number ≡ 1 → deed M x ≡ Calls.restrict M x.caller x.a x.b x.c 0 0
  unfolding deed rows Calls.restrict
  deed-1 q = rw q

  pub deed-2 : x.number ≡ 2 → deed M x ≡ Calls.drop M x.caller x.a 0 0 0 0
  unfolding deed rows Calls.drop
  deed-2 q = rw q

  pub deed-3 : x.number ≡ 3 → deed M x ≡ Calls.hand M 8 x.a x.b x.c x.d 0
  unfolding deed rows Calls.hand
  deed-3 q = rw q

  pub deed-4 : x.number ≡ 4 → deed M x ≡ Calls.make (new_body 1 x.c) M x.caller x.a x.b x.c x.d
  unfolding deed rows Calls.make_segment new_body
  deed-4 q = rw q

  pub deed-5 : x.number ≡ 5 → deed M x ≡ Calls.make (new_body 2 x.c) M x.caller x.a x.b x.c x.d
  unfolding deed rows Calls.make_directory new_body
  deed-5 q = rw q

  pub deed-6 : x.number ≡ 6 → deed M x ≡ Calls.make (new_body 3 x.c) M x.caller x.a x.b x.c x.d
  unfolding deed rows Calls.make_type new_body
  deed-6 q = rw q

  pub deed-7 : x.number ≡ 7 → deed M x ≡ Calls.make_object M x.caller x.a x.b x.c x.d x.e
  unfolding deed rows Calls.make_object
  deed-7 q = rw q

  pub deed-8 : x.number ≡ 8 → deed M x ≡ Calls.delete M x.caller x.a x.b 0 0 0
  unfolding deed rows Calls.delete
  deed-8 q = rw q

  pub deed-9 : x.number ≡ 9 → deed M x ≡ Calls.add_entry M x.caller x.a x.b x.c 0 0
  unfolding deed rows Calls.add_entry
  deed-9 q = rw q

  pub deed-10 : x.number ≡ 10 → deed M x ≡ Calls.drop_entry M x.caller x.a x.b 0 0 0
  unfolding deed rows Calls.drop_entry
  deed-10 q = rw q

  pub deed-11 : x.number ≡ 11 → deed M x ≡ Calls.fetch M x.caller x.a x.b x.c 0 0
  unfolding deed rows Calls.fetch
  deed-11 q = rw q

  pub deed-12 : x.number ≡ 12 → deed M x ≡ Calls.read M x.caller x.a x.b 0 0 0
  unfolding deed rows Calls.read
  deed-12 q = rw q

  pub deed-13 : x.number ≡ 13 → deed M x ≡ Calls.write M x.caller x.a x.b x.c 0 0
  unfolding deed rows Calls.write
  deed-13 q = rw q

  pub deed-14 : x.number ≡ 14 → deed M x ≡ Calls.copy M x.caller x.a x.b x.c x.d x.e
  unfolding deed rows Calls.copy
  deed-14 q = rw q

  pub deed-15 : x.number ≡ 15 → deed M x ≡ Calls.set_inner_place M x.caller x.a x.b x.c x.d 0
  unfolding deed rows Calls.set_inner_place
  deed-15 q = rw q

  pub deed-16 : x.number ≡ 16 → deed M x ≡ Calls.get_inner_place M x.caller x.a x.b x.c x.d 0
  unfolding deed rows Calls.get_inner_place
  deed-16 q = rw q

  pub deed-17 : x.number ≡ 17 → deed M x ≡ Calls.count M x.caller x.a 0 0 0 0
  unfolding deed rows Calls.count
  deed-17 q = rw q
